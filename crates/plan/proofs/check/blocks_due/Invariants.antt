-- The invariant of its loop: the blocks counted and those of the fault sets that are left are all. Assumes nothing.
use mathlib.Core.Path.{◌≡◌}
use Prim.Native.Nat.{◌+◌}
use lib.ListN.{length}
use Rattle.plan.specs.Due.{blocks_of_all, due}
use Rattle.plan.specs.Ahead.{faults_left}
use Rattle.plan.proofs.check.blocks_due.Given as goal

abbrev pub invariant-loop-fault : goal.invariant-loop-fault
invariant-loop-fault l = l.total + length (blocks_of_all l.n (faults_left l.fault-iterator)) ≡ length (due l.n l.f)
