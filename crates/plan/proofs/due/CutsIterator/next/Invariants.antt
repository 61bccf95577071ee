-- The invariant of its loop: what is left from here is what was left. Assumes nothing.
use mathlib.Core.Path.{◌≡◌}
use Prim.Native.Nat.{◌-◌}
use Rattle.sets.specs.Sets.{meet, minus}
use Rattle.sets.specs.Members.{list_from}
use Rattle.plan.specs.Due.{is_part}
use Rattle.plan.specs.Ahead.{parts_left}
use Rattle.plan.proofs.due.CutsIterator.next.Given as goal

abbrev pub invariant-loop-next : goal.invariant-loop-next
invariant-loop-next l =
    record {
      same : l.self.sound ≡ l.sound;
      inside : meet l.next (minus 255 l.sound) ≡ 0;
      left : parts_left l.fn.self ≡ list_from (l.sound - l.next) l.next (is_part l.sound);
    }

abbrev pub decreases-loop-next : goal.decreases-loop-next
decreases-loop-next l = l.sound - l.next
