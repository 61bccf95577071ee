-- Theorem 1's condition asks for many servers: three sets of at most f, two of them not empty, would be a split that breaks it.
--     count_between    from one number on and below another there are at most as many servers as numbers
--     condition_wide   if the condition holds, n is at least 3f + 1: claim (i) of the paper's Corollary 1
-- Assumes nothing.
use mathlib.Core.Path.{refl}
use mathlib.Core.Logic.{⊎_elim}
use mathlib.Core.Bool.{false, not, ◌&&◌}
use Prim.Native.Nat.{ℕ, zero, suc, ◌+◌, ◌-◌, ◌*◌, ◌≤◌, ◌<◌, min}
use native.Mathlib.Omega.{arith}
use lib.Dec.{ltb, leb}
use borrow.Author.Tests.{ltb-true, ltb-false, lt-ltb, le-ltb, leb-true, leb-false}
use Rattle.facts.proofs.Bools.{cases, clash, and_left, and_right, both, or_cases, not_true}
use Rattle.sets.specs.Sets.{Set, Edges, count}
use Rattle.sets.proofs.Counts.{count_mono}
use Rattle.condition.specs.Condition.{neighbour, Arrow, joined, Partition, Condition}

-- the servers from lo on and below hi
abbrev pub between : ℕ → ℕ → Set
between lo hi i = not (ltb i lo) && ltb i hi

pub count_between : (n lo hi : ℕ) → count n (between lo hi) ≤ min n hi - lo
unfolding count
count_between zero lo hi = omega arith
count_between (suc n) lo hi =
    let ih = count_between n lo hi in
    cases (ltb n lo)
    (λ x. rw x (omega arith))
    (λ x. let a = ltb-false n lo x in cases (ltb n hi) (λ y. let b = ltb-true n hi y in rw (x, y) (omega arith)) (λ y. rw (x, y) (omega arith)))

module _ (n f : ℕ) (E : Edges) (holds : Condition n f E) where
  -- an arrow from A takes more than f servers of A
  no_arrow : (A B : Set) → count n A ≤ f → Arrow n f E A B → ⊥
  no_arrow A B few w = let m = count_mono n (λ (i : ℕ). A i && neighbour n E B i) A (λ i k. and_left (A i) (neighbour n E B i)) in omega arith

  -- three sets of at most f servers, two of them not empty, would be a split that breaks the condition
  module _ (x y : ℕ) (some : 0 < x) (more : x < y) (inside : y ≤ n) (x-few : x ≤ f) (y-few : y ≤ x + f) (n-few : n ≤ y + f) where
    abbrev nobody : Set
    nobody i = false

    thirds : Partition n (between y n) (between 0 x) nobody (between x y)
    thirds =
        record {
          whole = λ i k. let t = lt-ltb i n k in let z = le-ltb i 0 (omega arith) in cases (ltb i x) (λ a. cases (ltb i y) (λ b. cc) (λ b. cc)) (λ a. cases (ltb i y) (λ b. cc) (λ b. cc));
          FL = λ i k a b. let p = ltb-true i x (and_right (not (ltb i 0)) (ltb i x) b) in clash (ltb i y) (lt-ltb i y (omega arith)) (not_true (ltb i y) (and_left (not (ltb i y)) (ltb i n) a));
          FC = λ i k a b. clash false b refl;
          FR = λ i k a b. clash (ltb i y) (and_right (not (ltb i x)) (ltb i y) b) (not_true (ltb i y) (and_left (not (ltb i y)) (ltb i n) a));
          LC = λ i k a b. clash false b refl;
          LR = λ i k a b. clash (ltb i x) (and_right (not (ltb i 0)) (ltb i x) a) (not_true (ltb i x) (and_left (not (ltb i x)) (ltb i y) b));
          CR = λ i k a b. clash false a refl;
        }

    side_few_of : (p : Set) → count n p ≤ f → count n (joined p nobody) ≤ f
    side_few_of p h = let m = count_mono n (joined p nobody) p (λ i k e. ⊎_elim (λ z. z) (λ z. clash false z refl) (or_cases (p i) false e)) in omega arith

    thirds_break : ⊥
    thirds_break =
        let a = count_between n y n in
        let b = count_between n 0 x in
        let c = count_between n x y in
        ⊎_elim
        (no_arrow (joined (between 0 x) nobody) (between x y) (side_few_of (between 0 x) (omega arith)))
        (no_arrow (joined (between x y) nobody) (between 0 x) (side_few_of (between x y) (omega arith)))
        (holds (between y n) (between 0 x) nobody (between x y) thirds
        (0, omega arith, both (not (ltb 0 0)) (ltb 0 x) refl (lt-ltb 0 x some))
        (x, omega arith, (let z = le-ltb x x (omega arith) in let t = lt-ltb x y more in cc))
        (omega arith))

  pub condition_wide : 2 ≤ n → 3 * f + 1 ≤ n
  condition_wide two =
      cases (leb (3 * f + 1) n)
      (λ e. leb-true (3 * f + 1) n e)
      (λ e. let m = leb-false (3 * f + 1) n e in
      absurd (thirds_break (min f (n - 1)) (min (min f (n - 1) + f) n) (omega arith) (omega arith) (omega arith) (omega arith) (omega arith) (omega arith)))
