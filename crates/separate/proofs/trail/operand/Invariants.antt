-- `separate::trail::operand` meets its contract. The invariant of its loop: the route from x on, laid from place i on over the bytes so far, gives the
-- operand of the whole. The measure is what is left of the seven places. Assumes nothing.
use Prim.Native.Nat.{◌≤◌}
use Rattle.separate.proofs.Laying.{Laying}
use Rattle.separate.proofs.trail.operand.Given as goal

abbrev pub invariant-loop-i : goal.invariant-loop-i
invariant-loop-i l = (l.i ≤ 7) × Laying l.flow l.receiver l.start l.i l.x l.route
