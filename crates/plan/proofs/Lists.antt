-- The members of a test among the numbers from i to a limit, as a list, one number after the other.
-- Assumes nothing.
use mathlib.Core.Path.{◌≡◌, refl, sym, ◌∙◌}
use mathlib.Core.Bool.{true, false}
use mathlib.Core.List.{List, [], ◌∷◌}
use Prim.Native.Nat.{ℕ, zero, suc, ◌+◌, ◌-◌, ◌≤◌, ◌<◌}
use native.Mathlib.Numerals.{add-one}
use native.Mathlib.Omega.{arith}
use lib.Dec.{ltb}
use borrow.Author.Tests.{ltb-true, ltb-false}
use Rattle.facts.proofs.Bools.{cases}
use Rattle.sets.specs.Sets.{Set, has}
use Rattle.sets.specs.Members.{list_from, members}

module _ (limit i : ℕ) (p : Set) where
  pub list_next : i < limit → p i ≡ true → list_from (limit - i) i p ≡ i ∷ list_from (limit - (i + 1)) (i + 1) p
  unfolding list_from
  list_next h e =
      let z : limit - i ≡ suc (limit - (i + 1)) = omega arith in
      let a = add-one i in
      rw (z, a) (rw e refl)

  pub list_skip : i < limit → p i ≡ false → list_from (limit - i) i p ≡ list_from (limit - (i + 1)) (i + 1) p
  unfolding list_from
  list_skip h e =
      let z : limit - i ≡ suc (limit - (i + 1)) = omega arith in
      let a = add-one i in
      rw (z, a) (rw e refl)

  pub list_done : limit ≤ i → list_from (limit - i) i p ≡ []
  unfolding list_from
  list_done h = let z : limit - i ≡ 0 = omega arith in rw z refl

-- the first one listed passes the test, and lies in the range
list_first : (k lo : ℕ) (p : Set) (x : ℕ) (xs : List ℕ) → list_from k lo p ≡ x ∷ xs → x < lo + k
unfolding list_from
list_first zero lo p x xs e = cc
list_first (suc k) lo p x xs e =
    cases (p lo)
    (λ t. let f = rw t at e in let g : lo ≡ x = cc in omega arith)
    (λ t. let f = rw t at e in let l = list_first k (suc lo) p x xs f in omega arith)

pub member_low : (s : ℕ) {x : ℕ} {xs : List ℕ} → members s ≡ x ∷ xs → x < 8
unfolding members
member_low s {x} {xs} e = let l = list_first 8 0 (has s) x xs e in omega arith

-- numbers that are none of them may be passed
list_past : (k limit i : ℕ) (p : Set) → ((x : ℕ) → i ≤ x → x < i + k → p x ≡ false) → list_from (limit - i) i p ≡ list_from (limit - (i + k)) (i + k) p
list_past zero limit i p h = let z : i + 0 ≡ i = omega arith in rw z refl
list_past (suc k) limit i p h =
    let z : i + suc k ≡ i + 1 + k = omega arith in
    let ih = list_past k limit (i + 1) p (λ x g l. h x (omega arith) (omega arith)) in
    rw z
    (cases (ltb i limit)
    (λ t. list_skip limit i p (ltb-true i limit t) (h i (omega arith) (omega arith)) ∙ ih)
    (λ t. let g = ltb-false i limit t in list_done limit i p g ∙ sym (list_done limit (i + 1 + k) p (omega arith))))

pub list_passed : (limit i j : ℕ) (p : Set) → i ≤ j → ((x : ℕ) → i ≤ x → x < j → p x ≡ false) → list_from (limit - i) i p ≡ list_from (limit - j) j p
list_passed limit i j p h f = let z : i + (j - i) ≡ j = omega arith in rw z at (list_past (j - i) limit i p (λ x g l. f x g (omega arith)))
