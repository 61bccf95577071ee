-- The lowest member of a set: a member, and no member is below it; 8 for the empty set.
--     first_in_found, first_in_least    a search ends at a member, or with none found; no member is passed; first_in_most it ends within its range
--     lowest_least, lowest_in         no member is below the lowest, and a set that is not empty has it
--     lowest_empty                    8 for the empty set
--     trailing_lowest                 it is how many zeros stand below the lowest digit that is set
-- Assumes nothing.
use mathlib.Core.Path.{◌≡◌, sym, ap, ◌∙◌}
use mathlib.Core.Logic.{◌⊎◌, inl, inr, ⊎_elim}
use mathlib.Core.Bool.{true, false, cond}
use Prim.Native.Nat.{ℕ, zero, suc, ◌+◌, ◌/◌, ◌%◌, ◌^◌, ◌≤◌, ◌<◌}
use native.Mathlib.Numerals.{add-one}
use native.Mathlib.Omega.{arith}
use lib.Count.{under, count_trailing_zeros}
use lib.Dec.{eqb}
use lib.Pow.{shr-shr}
use Rattle.facts.proofs.Bools.{cases, clash}
use Rattle.sets.specs.Sets.{Set, In, has, first_in, lowest}
use Rattle.sets.proofs.Members.{digit_small, has_empty, no_member}

-- the search ends at the bound with nothing found, or at a member
pub first_in_found : (k lo : ℕ) (p : Set) → (first_in k lo p ≡ lo + k) ⊎ In p (first_in k lo p)
unfolding first_in
first_in_found zero lo p = inl (omega arith)
first_in_found (suc k) lo p =
    cases (p lo)
    (λ e. inr (rw e e))
    (λ e. ⊎_elim (λ h. inl (rw e (h ∙ next k lo))) (λ h. inr (rw e h)) (first_in_found k (suc lo) p))
  where
    next : (k lo : ℕ) → suc lo + k ≡ lo + suc k
    next k lo = omega arith

pub first_in_most : (k lo : ℕ) (p : Set) → first_in k lo p ≤ lo + k
unfolding first_in
first_in_most zero lo p = omega arith
first_in_most (suc k) lo p = let ih = first_in_most k (suc lo) p in cases (p lo) (λ x. rw x (omega arith)) (λ x. rw x (omega arith))

pub first_in_least : (k lo : ℕ) (p : Set) (i : ℕ) → lo ≤ i → In p i → first_in k lo p ≤ i ⊎ (lo + k ≤ i)
unfolding first_in
first_in_least zero lo p i h e = inr (omega arith)
first_in_least (suc k) lo p i h e =
    cases (p lo)
    (λ x. inl (rw x h))
    (λ x. ⊎_elim (λ a. inl (rw x a)) (λ a. inr (omega arith)) (first_in_least k (suc lo) p i (later lo i p h e x) e))
  where
    later : (lo i : ℕ) (p : Set) → lo ≤ i → In p i → p lo ≡ false → suc lo ≤ i
    later lo i p h e x = let other : lo ≡ i → ⊥ = λ q. clash (p i) e (rw q at x) in omega arith

pub lowest_least : (s i : ℕ) → i < 8 → has s i ≡ true → lowest s ≤ i
unfolding lowest
lowest_least s i k e = ⊎_elim (λ h. h) (λ h. absurd (omega arith)) (first_in_least 8 0 (has s) i (omega arith) e)

pub lowest_empty : lowest 0 ≡ 8
unfolding lowest
lowest_empty = ⊎_elim (λ h. h) (λ h. clash (has 0 (first_in 8 0 (has 0))) h (has_empty (first_in 8 0 (has 0)))) (first_in_found 8 0 (has 0))

-- a set that is not empty has its lowest member
pub lowest_in : (s : ℕ) → s < 256 → (s ≡ 0 → ⊥) → has s (lowest s) ≡ true
unfolding lowest
lowest_in s h other = ⊎_elim (λ e. absurd (other (empty e))) (λ e. e) (first_in_found 8 0 (has s))
  where
    empty : first_in 8 0 (has s) ≡ 8 → s ≡ 0
    empty e = no_member 8 s h (λ i k. outside i k)
      where
        outside : (i : ℕ) → i < 8 → has s i ≡ false
        outside i k =
            cases (has s i)
            (λ q. ⊎_elim (λ a. absurd (omega arith)) (λ a. absurd (omega arith)) (first_in_least 8 0 (has s) i (omega arith) q))
            (λ q. q)

-- if digit d of server lo is set, the search stops at lo; else it stops after lo and the t zeros above it
at_digit : (d lo t : ℕ) → d < 2 → cond (eqb d 1) lo (suc lo + t) ≡ lo + under d t
at_digit zero lo t h = omega arith
at_digit (suc zero) lo t h = omega arith
at_digit (suc (suc d)) lo t h = absurd (omega arith)

-- a search of k servers from lo on passes the zeros that stand, from digit lo on, below the lowest digit that is set
first_trailing : (k lo s : ℕ) → first_in k lo (has s) ≡ lo + count_trailing_zeros k (s / 2 ^ lo)
unfolding first_in count_trailing_zeros has
first_trailing zero lo s = omega arith
first_trailing (suc k) lo s =
    let half : s / 2 ^ suc lo ≡ s / 2 ^ lo / 2 = rw (← add-one lo) (sym (shr-shr s lo 1)) in
    let later : first_in k (suc lo) (has s) ≡ suc lo + count_trailing_zeros k (s / 2 ^ lo / 2) = rw (← half) (first_trailing k (suc lo) s) in
    rw later (at_digit (s / 2 ^ lo % 2) lo (count_trailing_zeros k (s / 2 ^ lo / 2)) (digit_small (s / 2 ^ lo)))

pub trailing_lowest : (s : ℕ) → count_trailing_zeros 8 s ≡ lowest s
unfolding lowest
trailing_lowest s =
    let whole : s / 2 ^ 0 ≡ s = omega arith in
    let zeros : count_trailing_zeros 8 (s / 2 ^ 0) ≡ count_trailing_zeros 8 s = ap (count_trailing_zeros 8) whole in
    let e = first_trailing 8 0 s in
    omega arith
