-- The invariant of its loop: the blocks of the fault sets that are left give the answer of all. Assumes nothing.
use mathlib.Core.Path.{◌≡◌}
use Prim.Native.Nat.{◌≤◌}
use lib.ListN.{length}
use Rattle.plan.specs.Due.{blocks_of_all, due}
use Rattle.plan.specs.Ahead.{faults_left}
use Rattle.plan.specs.Check.{check_blocks}
use Rattle.plan.proofs.check.check_blocks.Given as goal

abbrev pub invariant-loop-fault : goal.invariant-loop-fault
invariant-loop-fault l =
    record {
      inside : l.reached.0 ≤ length l.plan;
      few : l.reached.1.0 ≤ l.reached.0;
      gives : check_blocks l.network.n l.network.f l.network.links l.plan (blocks_of_all l.network.n (faults_left l.fault-iterator)) l.reached.0 l.reached.1.0
          ≡ check_blocks l.network.n l.network.f l.network.links l.plan (due l.network.n l.network.f) 0 0;
    }
