-- Whether some server below n is in a set.
--     some_below_same    sets that have the same servers below n
--     some_at, some_of  if so there is one, and the other way
--     none_at, none_of  if not none is, and the other way
-- Assumes nothing.
use mathlib.Core.Path.{◌≡◌, refl}
use mathlib.Core.Logic.{⊎_elim}
use mathlib.Core.Bool.{true, false}
use Prim.Native.Nat.{ℕ, zero, suc, ◌<◌}
use native.Mathlib.Omega.{arith}
use Rattle.facts.proofs.Bools.{cases, clash, is_false, or_cases}
use Rattle.sets.specs.Sets.{Set, In, Out}
use Rattle.sets.proofs.Counts.{before_last}
use Rattle.split.specs.Split.{some_below}

pub some_below_same : (n : ℕ) (p q : Set) → ((i : ℕ) → i < n → p i ≡ q i) → some_below n p ≡ some_below n q
unfolding some_below
some_below_same zero p q h = refl
some_below_same (suc n) p q h =
    let ih = some_below_same n p q (λ i k. h i (omega arith)) in
    let e = h n (omega arith) in
    cc

pub some_at : (n : ℕ) (p : Set) → some_below n p ≡ true → (i : ℕ) × (i < n) × In p i
unfolding some_below
some_at zero p e = clash false e refl
some_at (suc n) p e =
    ⊎_elim
    (λ h. (n, omega arith, h))
    (λ h. let w = some_at n p h in (w.0, omega arith, w.2))
    (or_cases (p n) (some_below n p) e)

pub some_of : (n : ℕ) (p : Set) (i : ℕ) → i < n → In p i → some_below n p ≡ true
unfolding some_below
some_of zero p i k e = absurd (omega arith)
some_of (suc n) p i k e =
    cases (p n)
    (λ x. cc)
    (λ x. let ih = some_of n p i (before_last n p i k e x) e in cc)

pub none_at : (n : ℕ) (p : Set) → some_below n p ≡ false → (i : ℕ) → i < n → Out p i
none_at n p e i k = is_false (p i) (λ h. clash (some_below n p) (some_of n p i k h) e)

pub none_of : (n : ℕ) (p : Set) → ((i : ℕ) → i < n → Out p i) → some_below n p ≡ false
unfolding some_below
none_of zero p h = refl
none_of (suc n) p h = let ih = none_of n p (λ i k. h i (omega arith)) in let e = h n (omega arith) in cc
