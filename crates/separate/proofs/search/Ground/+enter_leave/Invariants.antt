-- `Ground::enter` and `Ground::leave` meet their contracts, by one induction: they call each other, and the allowance is the measure
-- of both. The invariant of the loop of `leave`: what the rest of the servers give is what the whole gives. Assumes nothing.
use Rattle.sets.specs.Members.{members}
use Rattle.separate.proofs.Ways.{TryingNext}
use Rattle.separate.proofs.search.Ground.+enter_leave.Given as goal

abbrev pub decreases-enter : goal.decreases-enter
decreases-enter l = l.allowance

abbrev pub decreases-leave : goal.decreases-leave
decreases-leave l = l.allowance

abbrev pub invariant-leave-loop-y : goal.invariant-leave-loop-y
invariant-leave-loop-y l = let g = l.self in let s = l.fn.from in TryingNext l.allowance l.fewer g.rows.now g.inner g.last s.flow s.entered s.left l.x (members l.y-iterator.left) l.tried
