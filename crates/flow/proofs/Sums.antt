-- Sums over the servers below n.
--     sum n g      == g 0 + .. + g (n - 1)
--     sum_same     sums of terms that are equal below n
--     sum_add      the sum of sums; sum_none of nothing
--     sum_swap     two sums one in the other, in either order
--     count_sum    a count is the sum of ones
--     count_one    a test that counts to one has no two servers
-- Assumes nothing.
use mathlib.Core.Path.{◌≡◌, refl, sym}
use Prim.Native.Nat.{ℕ, zero, suc, ◌+◌, ◌≤◌, ◌<◌}
use native.Mathlib.Omega.{arith}
use lib.Dec.{eqb}
use borrow.Author.Tests.{eqb-true}
use Rattle.facts.proofs.Bools.{cases}
use Rattle.sets.specs.Sets.{Set, In, count}
use Rattle.sets.proofs.Counts.{count_some, count_without, without}
use Rattle.flow.proofs.Kept.{one}

unfoldable pub sum : ℕ → (ℕ → ℕ) → ℕ
sum zero g = 0
sum (suc n) g = sum n g + g n

pub sum_same : (n : ℕ) (g h : ℕ → ℕ) → ((i : ℕ) → i < n → g i ≡ h i) → sum n g ≡ sum n h
unfolding sum
sum_same zero g h e = refl
sum_same (suc n) g h e =
    let ih = sum_same n g h (λ i k. e i (omega arith)) in
    let z = e n (omega arith) in
    omega arith

pub sum_add : (n : ℕ) (g h : ℕ → ℕ) → sum n (λ (i : ℕ). g i + h i) ≡ sum n g + sum n h
unfolding sum
sum_add zero g h = refl
sum_add (suc n) g h = let ih = sum_add n g h in omega arith

pub sum_none : (n : ℕ) → sum n (λ (i : ℕ). 0) ≡ 0
unfolding sum
sum_none zero = refl
sum_none (suc n) = let ih = sum_none n in omega arith

pub sum_swap : (n m : ℕ) (g : ℕ → ℕ → ℕ) → sum n (λ (x : ℕ). sum m (λ (y : ℕ). g x y)) ≡ sum m (λ (y : ℕ). sum n (λ (x : ℕ). g x y))
unfolding sum
sum_swap zero m g = sym (sum_none m)
sum_swap (suc n) m g =
    let ih = sum_swap n m g in
    let a = sum_add m (λ (y : ℕ). sum n (λ (x : ℕ). g x y)) (λ (y : ℕ). g n y) in
    omega arith

pub count_sum : (n : ℕ) (p : Set) → count n p ≡ sum n (λ (i : ℕ). one (p i))
unfolding sum count one
count_sum zero p = refl
count_sum (suc n) p = let ih = count_sum n p in cases (p n) (λ q. rw q (omega arith)) (λ q. rw q (omega arith))

pub count_one : (n : ℕ) (p : Set) → count n p ≤ 1 → (i j : ℕ) → i < n → j < n → In p i → In p j → i ≡ j
count_one n p h i j k l a b =
    cases (eqb j i)
    (λ q. sym (eqb-true j i q))
    (λ q.
    let c = count_without n i p k a in
    let s = count_some n (without i p) j l (cc) in
    absurd (omega arith))
