-- The members of a set as a list.
--     listed_in       what is listed is in the set and in the range; in_listed the other way
--     listed_split    a listed number splits the list: what is before it is smaller, what is after it is larger
--     length_members  there are as many as the set's size
--     members_in      what is a member is in the set; in_members the other way
-- Assumes nothing.
use mathlib.Core.Path.{◌≡◌, refl}
use mathlib.Core.Logic.{⊎_elim}
use mathlib.Core.Bool.{true, false}
use mathlib.Core.List.Memᴰ
use mathlib.Core.List.{◌∷◌, ◌++◌, Memᴰ}
use Prim.Native.Nat.{ℕ, zero, suc, ◌+◌, ◌-◌, ◌≤◌, ◌<◌}
use native.Mathlib.Omega.{arith}
use lib.Dec.{eqb}
use lib.ListN.{length}
use borrow.Author.Tests.{eqb-true, eqb-false}
use Rattle.facts.proofs.Bools.{cases}
use Rattle.sets.specs.Sets.{Set, has, count, size}
use Rattle.sets.specs.Members.{list_from, members}

pub listed_in : (k lo : ℕ) (p : Set) (i : ℕ) → Memᴰ i (list_from k lo p) → (p i ≡ true) × (lo ≤ i) × (i < lo + k)
unfolding list_from
listed_in zero lo p i m = elim m [ ]
listed_in (suc k) lo p i m =
    cases (p lo)
    (λ e. ⊎_elim (λ q. (rw q e, omega arith, omega arith)) (λ h. later k lo i (listed_in k (suc lo) p i h)) (Memᴰ.cases_cons (rw e at m)))
    (λ e. later k lo i (listed_in k (suc lo) p i (rw e at m)))
  where
    later : (k lo i : ℕ) → (p i ≡ true) × (suc lo ≤ i) × (i < suc lo + k) → (p i ≡ true) × (lo ≤ i) × (i < lo + suc k)
    later k lo i r = (r.0, omega arith, omega arith)

-- a number from lo on that is not lo
past : (lo i : ℕ) → lo ≤ i → eqb i lo ≡ false → suc lo ≤ i
past lo i h e = let other = eqb-false i lo e in omega arith

pub in_listed : (k lo : ℕ) (p : Set) (i : ℕ) → p i ≡ true → lo ≤ i → i < lo + k → Memᴰ i (list_from k lo p)
unfolding list_from
in_listed zero lo p i e a b = absurd (omega arith)
in_listed (suc k) lo p i e a b =
    cases (eqb i lo)
    (λ q. let same = eqb-true i lo q in rw (rw same at e) (Memᴰ.head same))
    (λ q. let m = in_listed k (suc lo) p i e (past lo i a q) (omega arith) in cases (p lo) (λ x. rw x (Memᴰ.tail m)) (λ x. rw x m))

pub listed_split : (k lo : ℕ) (p : Set) (i : ℕ) → p i ≡ true → lo ≤ i → i < lo + k
    → list_from k lo p ≡ list_from (i - lo) lo p ++ i ∷ list_from (k - (i - lo) - 1) (suc i) p
unfolding list_from
listed_split zero lo p i e a b = absurd (omega arith)
listed_split (suc k) lo p i e a b =
    cases (eqb i lo)
    (λ q. let same = eqb-true i lo q in
    let x : i - lo ≡ 0 = omega arith in
    let y : suc k - 0 - 1 ≡ k = omega arith in
    rw (x, y) (rw (← same) (rw e refl)))
    (λ q. let ih = listed_split k (suc lo) p i e (past lo i a q) (omega arith) in
    let x : i - lo ≡ suc (i - suc lo) = past_by lo i (past lo i a q) in
    let y : suc k - suc (i - suc lo) - 1 ≡ k - (i - suc lo) - 1 = omega arith in
    rw (x, y) (cases (p lo) (λ z. rw (z, ih) refl) (λ z. rw (z, ih) refl)))
  where
    past_by : (lo i : ℕ) → suc lo ≤ i → i - lo ≡ suc (i - suc lo)
    past_by lo i h = omega arith

-- the list from lo on, with what is below lo
length_listed : (k lo : ℕ) (p : Set) → length (list_from k lo p) + count lo p ≡ count (lo + k) p
unfolding list_from count
length_listed zero lo p = let e : lo + 0 ≡ lo = omega arith in rw e (omega arith)
length_listed (suc k) lo p =
    let ih = length_listed k (suc lo) p in
    let e : lo + suc k ≡ suc lo + k = omega arith in
    rw e (cases (p lo) (λ x. let h = rw x at ih in rw x (omega arith)) (λ x. let h = rw x at ih in rw x (omega arith)))

pub length_members : (s : ℕ) → length (members s) ≡ size s
unfolding members size count
length_members s = let e = length_listed 8 0 (has s) in omega arith

pub members_in : (s i : ℕ) → Memᴰ i (members s) → (has s i ≡ true) × (i < 8)
unfolding members
members_in s i m = let r = listed_in 8 0 (has s) i m in (r.0, omega arith)

pub in_members : (s i : ℕ) → has s i ≡ true → i < 8 → Memᴰ i (members s)
unfolding members
in_members s i e h = in_listed 8 0 (has s) i e (omega arith) (omega arith)
