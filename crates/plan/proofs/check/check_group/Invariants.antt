-- The invariant of its loop: what is left of the group gives the answer of the whole. Assumes nothing.
use mathlib.Core.Path.{◌≡◌}
use Prim.Native.Nat.{◌-◌, ◌≤◌}
use Rattle.network.specs.Rows.{links_of}
use Rattle.plan.specs.Check.{check_group}
use Rattle.plan.specs.Answers.{group_of}
use Rattle.plan.proofs.check.check_group.Given as goal

abbrev pub invariant-loop-k : goal.invariant-loop-k
invariant-loop-k l =
    record {
      most : l.k ≤ l.group.count;
      few : l.carriages ≤ l.at;
      gives : check_group l.site.sound (links_of l.site.rows) l.plan (group_of l.group) (l.group.count - l.k) l.at l.carriages l.used
          ≡ check_group l.site.sound (links_of l.site.rows) l.plan (group_of l.group) l.group.count l.fn.start.at l.fn.start.carriages 0;
    }
