-- `Place::put_routes` meets its contract. The invariant of its loop: the routes from the starts so far are put (`Going`). Assumes nothing.
use Rattle.sets.specs.Members.{members}
use Rattle.blocks.proofs.Putting.{Going}
use Rattle.blocks.proofs.Texts.{route_text}
use Rattle.blocks.proofs.bytes.Place.put_routes.Given as goal

abbrev pub invariant-loop-x : goal.invariant-loop-x
invariant-loop-x l = Going (route_text l.command l.flow l.receiver) l.flow.start 9 l.yielded (members l.x-iterator.left) l.initial.self l.self
