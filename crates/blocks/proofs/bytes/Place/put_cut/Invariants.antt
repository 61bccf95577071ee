-- `Place::put_cut` meets its contract. The invariant of its loop: the bytes of the route so far are put after the command (`Laying`). Assumes nothing.
use Rattle.blocks.proofs.Putting.{Laying}
use Rattle.blocks.proofs.bytes.Place.put_cut.Given as goal

abbrev pub invariant-loop-byte : goal.invariant-loop-byte
invariant-loop-byte l = Laying l.fn.route l.byte-index l.initial.self l.self
