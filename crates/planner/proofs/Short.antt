-- The plan that is written is within a plan's limit: computed for every n and f that a card can have. Assumes nothing.
use mathlib.Core.Path.{◌≡◌, refl}
use mathlib.Core.Bool.{Bool, true, ◌&&◌}
use Prim.Native.Nat.{ℕ, zero, suc, ◌≤◌, ◌<◌}
use native.Mathlib.Omega.{arith}
use lib.Dec.{eqb, leb}
use borrow.Author.Tests.{leb-true, eqb-true, eqb-false}
use Rattle.facts.proofs.Bools.{cases, and_left, and_right}
use Rattle.sets.specs.Sets.{Set, has, meet, minus, within, full, count, size, first_in, lowest}
use Rattle.sets.specs.Members.{list_from}
use Rattle.plan.specs.Due.{is_part, blocks_of, blocks_of_all, due}
use Rattle.planner.specs.Plan.{block_length, lengths, plan_length}

-- p holds below n
unfoldable every : ℕ → Set → Bool
every zero p = true
every (suc n) p = p n && every n p

every_at : (n : ℕ) (p : Set) → every n p ≡ true → (i : ℕ) → i < n → p i ≡ true
unfolding every
every_at zero p e i h = absurd (omega arith)
every_at (suc n) p e i h =
    cases (eqb i n)
    (λ q. let z = eqb-true i n q in rw z (and_left (p n) (every n p) e))
    (λ q. let z = eqb-false i n q in every_at n p (and_right (p n) (every n p) e) i (omega arith))

computed : every 9 (λ (n : ℕ). every 3 (λ (f : ℕ). leb (plan_length n f) 1048576)) ≡ true
unfolding every due blocks_of blocks_of_all list_from is_part has meet minus within full count size first_in lowest block_length lengths plan_length
computed = refl

pub length_few : (n f : ℕ) → n ≤ 8 → f ≤ 2 → plan_length n f ≤ 1048576
length_few n f a b =
    leb-true (plan_length n f) 1048576 (every_at 3 (λ (f : ℕ). leb (plan_length n f) 1048576) (every_at 9 (λ (n : ℕ). every 3 (λ (f : ℕ). leb (plan_length n f) 1048576)) computed n (omega arith)) f (omega arith))
