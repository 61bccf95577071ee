-- `Place::put_mesh` meets its contract. The invariant of its loop: the routes to the servers of S so far are put (`Going`). Assumes nothing.
use Rattle.sets.specs.Members.{members}
use Rattle.blocks.proofs.Putting.{Going}
use Rattle.blocks.proofs.Texts.{one_text}
use Rattle.blocks.proofs.bytes.Place.put_mesh.Given as goal

abbrev pub invariant-loop-r : goal.invariant-loop-r
invariant-loop-r l = Going (one_text l.site.rows l.site.sources l.site.sound l.quorum) l.quorum 576 l.yielded (members l.r-iterator.left) l.initial.self l.self
