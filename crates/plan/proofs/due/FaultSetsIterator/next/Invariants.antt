-- The invariant of its loop: what is left from here is what was left. Assumes nothing.
use mathlib.Core.Path.{◌≡◌}
use Prim.Native.Nat.{◌-◌}
use Rattle.sets.specs.Members.{list_from}
use Rattle.plan.specs.Ahead.{few, faults_left}
use Rattle.plan.proofs.due.FaultSetsIterator.next.Given as goal

abbrev pub invariant-loop-set : goal.invariant-loop-set
invariant-loop-set l = record { same : l.self.f ≡ l.f; whole : l.self.servers ≡ l.initial.self.servers; left : faults_left l.fn.self ≡ list_from (l.limit - l.set) l.set (few l.f) }
