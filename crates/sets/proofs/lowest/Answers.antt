-- `sets::lowest` meets its contract. The zeros below the lowest digit that is set are counted, at most eight of them, and their number is the
-- lowest member (`LowestMember.trailing-lowest`). Assumes nothing.
use Prim.Native.Nat.{ℕ, ◌≤◌, ◌<◌}
use lib.Count.{leading_le, trailing_le}
use native.Mathlib.Omega.{arith}
use Rattle.sets.proofs.LowestMember.{trailing_lowest}
use Rattle.sets.proofs.lowest.Goals as goal

eight_fits : {x : ℕ} → x ≤ 8 → x < 256
eight_fits h = omega arith

-- a count of zeros is at most eight, from either end: so a count from the wrong end is refused for its number, not for its size
ruleset zeros = (eight_fits, leading_le, trailing_le)

pub overflow_cast-result : goal.overflow_cast-result
overflow_cast-result c = search zeros

pub returns : goal.returns
returns c = trailing_lowest c.args.s
