-- The length of the plan that is written for a network of n servers with the fault bound f.
--     length_for n f    == plan_length n f for every n and f that a card can have, 0 for any other
--     Length n f r    <-> r is this length, and it is within a plan's limit
use Rattle.std.specs.Prelude.{◌≡◌, cond, ◌&&◌, ℕ, ◌≤◌, leb}
use Rattle.planner.specs.Plan.{plan_length}

unfoldable pub length_for : (n f : ℕ) → ℕ
length_for n f = cond (leb n 8 && leb f 2) (plan_length n f) 0

pub record Length (n f r : ℕ) : Type 0 where
  pub all : r ≡ length_for n f
  pub plan : n ≤ 8 → f ≤ 2 → r ≡ plan_length n f
  pub few : r ≤ 1048576
