-- Counts of the first so many members of a set, and of those after them.
--     first_of, later_of   the first a members of a set, and those after them; count_first and count_later, at most how many they are
-- Assumes nothing.
use mathlib.Core.Path.{◌≡◌}
use mathlib.Core.Bool.{not, ◌&&◌, ◌||◌}
use Prim.Native.Nat.{ℕ, zero, suc, ◌+◌, ◌≤◌, min}
use native.Mathlib.Omega.{arith}
use lib.Dec.{ltb}
use borrow.Author.Tests.{ltb-true, ltb-false}
use Rattle.facts.proofs.Bools.{cases, clash}
use Rattle.sets.specs.Sets.{Set, In, count}
use Rattle.sets.proofs.Counts.{count_same, count_apart}

-- the members of K that have fewer than a members before them
abbrev pub first_of : ℕ → Set → Set
first_of a K i = K i && ltb (count i K) a

abbrev pub later_of : ℕ → Set → Set
later_of a K i = K i && not (ltb (count i K) a)

first_is : (n a : ℕ) (K : Set) → count n (first_of a K) ≡ min (count n K) a
unfolding count
first_is zero a K = omega arith
first_is (suc n) a K =
    let ih = first_is n a K in
    cases (K n)
    (λ x. cases (ltb (count n K) a) (λ y. let b = ltb-true (count n K) a y in rw (x, y) (omega arith)) (λ y. let b = ltb-false (count n K) a y in rw (x, y) (omega arith)))
    (λ x. rw x (omega arith))

pub count_first : (n a : ℕ) (K : Set) → count n (first_of a K) ≤ a
count_first n a K = let e = first_is n a K in omega arith

pub first_or_later : (a : ℕ) (K : Set) (i : ℕ) → (first_of a K i || later_of a K i) ≡ K i
first_or_later a K i = cases (K i) (λ x. cases (ltb (count i K) a) (λ y. cc) (λ y. cc)) (λ x. cc)

pub first_not_later : (a : ℕ) (K : Set) (i : ℕ) → In (first_of a K) i → In (later_of a K) i → ⊥
first_not_later a K i p q = clash (later_of a K i) q (cases (K i) (λ x. cases (ltb (count i K) a) (λ y. cc) (λ y. cc)) (λ x. cc))

pub count_later : (n a b : ℕ) (K : Set) → count n K ≤ a + b → count n (later_of a K) ≤ b
count_later n a b K h =
    let e = first_is n a K in
    let j = count_apart n (first_of a K) (later_of a K) (λ i k. first_not_later a K i) in
    let s = count_same n (λ (i : ℕ). first_of a K i || later_of a K i) K (λ i k. first_or_later a K i) in
    omega arith
