-- `Place::put_to_one` meets its contract. The invariant of its loop: the routes from the sources so far are put (`Going`). Assumes nothing.
use Rattle.sets.specs.Members.{members}
use Rattle.blocks.proofs.Putting.{Going}
use Rattle.blocks.proofs.Texts.{pair_text}
use Rattle.blocks.proofs.bytes.Place.put_to_one.Given as goal

abbrev pub invariant-loop-s : goal.invariant-loop-s
invariant-loop-s l = Going (pair_text l.site.rows l.site.sources l.site.sound l.receiver) l.others 72 l.yielded (members l.s-iterator.left) l.initial.self l.self
