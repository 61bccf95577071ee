-- `separate::sides::feeder` meets its contract. The invariant of its loop: the search from p on gives what the whole gives. The measure is what is left
-- of the eight. Assumes nothing.
use Prim.Native.Nat.{◌≤◌}
use Rattle.separate.proofs.Scans.{Feeding}
use Rattle.separate.proofs.sides.feeder.Given as goal

abbrev pub invariant-loop-p : goal.invariant-loop-p
invariant-loop-p l = (l.p ≤ 8) × Feeding l.flow l.x l.p
