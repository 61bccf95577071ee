-- The invariant of its loop: the blocks of the parts that are left give the answer of the whole. Assumes nothing.
use mathlib.Core.Path.{◌≡◌}
use Prim.Native.Nat.{◌≤◌}
use lib.ListN.{length}
use Rattle.network.specs.Rows.{links_of}
use Rattle.plan.specs.Due.{blocks_of}
use Rattle.plan.specs.Ahead.{parts, parts_left}
use Rattle.plan.specs.Check.{check_blocks}
use Rattle.plan.proofs.check.check_cuts.Given as goal

abbrev pub invariant-loop-part : goal.invariant-loop-part
invariant-loop-part l =
    record {
      inside : l.at ≤ length l.plan;
      few : l.carriages ≤ l.at;
      gives : check_blocks l.site.n l.site.f (links_of l.site.rows) l.plan (blocks_of l.site.fault (parts_left l.part-iterator)) l.at l.carriages
          ≡ check_blocks l.site.n l.site.f (links_of l.site.rows) l.plan (blocks_of l.site.fault (parts l.site.sound)) l.fn.start.at l.fn.start.carriages;
    }
