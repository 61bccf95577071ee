-- `Place::put_fans` meets its contract. The invariant of its loop: the routes to the receivers so far are put (`Going`). Assumes nothing.
use Rattle.sets.specs.Members.{members}
use Rattle.blocks.proofs.Putting.{Going}
use Rattle.blocks.proofs.Texts.{fan_text}
use Rattle.blocks.proofs.bytes.Place.put_fans.Given as goal

abbrev pub invariant-loop-r : goal.invariant-loop-r
invariant-loop-r l = Going (fan_text l.site.rows l.site.sources l.site.sound l.quorum l.site.count) l.others 72 l.yielded (members l.r-iterator.left) l.initial.self l.self
