-- The members of a set, ascending, the lowest first.
--     members_next    the lowest member, and then the members of what is left
--     members_then    the same, with the numbers that the code has for them
--     members_none    the empty set has none
-- Assumes nothing.
use mathlib.Core.Path.{◌≡◌, refl, sym, ap, ◌∙◌}
use mathlib.Core.Bool.{Bool, true, false, cond, not, ◌&&◌}
use mathlib.Core.List.{List, [], ◌∷◌}
use Prim.Native.Nat.{ℕ, zero, suc, ◌+◌, ◌≤◌, ◌<◌}
use native.Mathlib.Omega.{arith}
use lib.Dec.{eqb, ltb}
use borrow.Author.Tests.{lt-ltb, eq-eqb, ne_eqb}
use Rattle.facts.proofs.Bools.{cases}
use Rattle.sets.specs.Sets.{Set, has, single, minus, lowest, first_in}
use Rattle.sets.specs.Members.{list_from, members}
use Rattle.sets.proofs.Members.{has_minus, has_single, has_empty, has_below}
use Rattle.sets.proofs.LowestMember.{lowest_in}

-- tests that agree from lo on list the same
pub list_same : (k lo : ℕ) (p q : Set) → ((i : ℕ) → lo ≤ i → p i ≡ q i) → list_from k lo p ≡ list_from k lo q
unfolding list_from
list_same zero lo p q h = refl
list_same (suc k) lo p q h =
    let ih = list_same k (suc lo) p q (λ i g. h i (omega arith)) in
    let e = h lo (omega arith) in
    cases (q lo) (λ x. cc) (λ x. cc)

first_from_lem : (k lo : ℕ) (p : Set) → lo ≤ first_in k lo p
unfolding first_in
first_from_lem zero lo p = omega arith
first_from_lem (suc k) lo p = let ih = first_from_lem k (suc lo) p in cases (p lo) (λ e. rw e (omega arith)) (λ e. rw e (omega arith))

-- the first one, and then those of the test without it
list_first : (k lo : ℕ) (p q : Set) → p (first_in k lo p) ≡ true → first_in k lo p < lo + k → ((i : ℕ) → lo ≤ i → q i ≡ (p i && not (eqb (first_in k lo p) i)))
    → list_from k lo p ≡ first_in k lo p ∷ list_from k lo q
unfolding list_from first_in
list_first zero lo p q t l h = absurd (omega arith)
list_first (suc k) lo p q t l h =
    cases (p lo)
    (λ e. first k lo p q e (rw e at h))
    (λ e. let t' = rw e at t in
    let l' = rw e at l in
    let h' = rw e at h in
    later k lo p q e h' (list_first k (suc lo) p q t' (omega arith) (λ i g. h' i (omega arith))))
  where
    first : (k lo : ℕ) (p q : Set) → p lo ≡ true → ((i : ℕ) → lo ≤ i → q i ≡ (p i && not (eqb lo i)))
        → cond (p lo) (lo ∷ list_from k (suc lo) p) (list_from k (suc lo) p) ≡ cond (p lo) lo (first_in k (suc lo) p) ∷ cond (q lo) (lo ∷ list_from k (suc lo) q) (list_from k (suc lo) q)
    first k lo p q e h =
        let a = eq-eqb lo lo refl in
        let b = h lo (omega arith) in
        let out : q lo ≡ false = cc in
        let same = list_same k (suc lo) p q (λ i g. let c = ne_eqb lo i (λ z. omega arith) in let d = h i (omega arith) in cases (p i) (λ x. cc) (λ x. cc)) in
        rw (e, out) (ap (λ (l : List ℕ). lo ∷ l) same)

    later : (k lo : ℕ) (p q : Set) → p lo ≡ false → ((i : ℕ) → lo ≤ i → q i ≡ (p i && not (eqb (first_in k (suc lo) p) i)))
        → list_from k (suc lo) p ≡ first_in k (suc lo) p ∷ list_from k (suc lo) q
        → cond (p lo) (lo ∷ list_from k (suc lo) p) (list_from k (suc lo) p) ≡ cond (p lo) lo (first_in k (suc lo) p) ∷ cond (q lo) (lo ∷ list_from k (suc lo) q) (list_from k (suc lo) q)
    later k lo p q e h ih =
        let b = h lo (omega arith) in
        let out : q lo ≡ false = cc in
        rw (e, out) ih

pub members_none : members 0 ≡ []
unfolding members list_from
members_none = none 8 0
  where
    none : (k lo : ℕ) → list_from k lo (has 0) ≡ []
    none zero lo = refl
    none (suc k) lo = rw (has_empty lo) (none k (suc lo))

pub members_next : (s : ℕ) → s < 256 → (s ≡ 0 → ⊥) → members s ≡ lowest s ∷ members (minus s (single (lowest s)))
unfolding members lowest
members_next s h o =
    let t = lowest_in s h o in
    let l = has_below 8 s (lowest s) h t in
    list_first 8 0 (has s) (has (minus s (single (lowest s)))) t l
    (λ i g. has_minus s (single (lowest s)) i ∙ ap (λ (x : Bool). has s i && not x) (has_single (lowest s) i ∙ ap (λ (x : Bool). x && eqb (lowest s) i) (lt-ltb (lowest s) 8 l)))

-- the same, with the numbers that the code has for them
pub members_then : (left x one next : ℕ) → left < 256 → (left ≡ 0 → ⊥) → x ≡ lowest left → one ≡ single x → next ≡ minus left one
    → members left ≡ x ∷ members next
members_then left x one next h o a b c =
    let e : next ≡ minus left (single (lowest left)) = c ∙ ap (minus left) (b ∙ ap single a) in
    members_next left h o ∙ ap (λ (y : ℕ). y ∷ members (minus left (single (lowest left)))) (sym a) ∙ ap (λ (y : ℕ). x ∷ members y) (sym e)
