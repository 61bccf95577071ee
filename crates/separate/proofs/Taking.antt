-- The loop that takes the lowest servers: those taken, with the lowest of what is left, are the lowest of the whole.
--     gathered       the set of the servers of a list
--     lowest_first   the lowest members of a set are the first ones that are listed
--     taking-..      the loop of `lowest_of`, over the list of what is left
-- Assumes nothing.
use mathlib.Core.Path.{◌≡◌, refl, sym, ap, ◌∙◌}
use mathlib.Core.Bool.{or_assoc}
use mathlib.Core.List.{List, [], ◌∷◌}
use Prim.Native.Nat.{ℕ, zero, suc, ◌+◌, ◌<◌}
use native.Mathlib.Numerals.{add-one}
use native.Mathlib.Omega.{arith}
use lib.Bits.{or_zero_l, or_zero_r}
use lib.Dec.{eqb}
use lib.ListN.{take}
use borrow.Author.Tests.{eqb-true, eqb-false}
use Rattle.facts.proofs.Bools.{cases}
use Rattle.sets.specs.Sets.{has, single, union, minus, lowest}
use Rattle.sets.specs.Members.{members}
use Rattle.sets.proofs.Members.{has_union, has_minus, has_empty, minus_small, same_all, single_past}
use Rattle.sets.proofs.LowestMember.{lowest_empty}
use Rattle.sets.proofs.Listed.{members_none, members_next}
use Rattle.flow.specs.Search.{lowest_of}

union_assoc : (a b c : ℕ) → union (union a b) c ≡ union a (union b c)
union_assoc a b c =
    same_all (union (union a b) c) (union a (union b c))
    (λ i. let p = has_union (union a b) c i in
    let q = has_union a b i in
    let r = has_union a (union b c) i in
    let s = has_union b c i in
    let o = or_assoc (has a i) (has b i) (has c i) in
    cc)

unfoldable pub gathered : List ℕ → ℕ
gathered [] = 0
gathered (x ∷ xs) = union (single x) (gathered xs)

none_taken : (k : ℕ) → ◌≡◌ {A = List ℕ} (take k []) []
none_taken zero = refl
none_taken (suc k) = refl

-- the empty set has no lowest member
none_lowest : (k : ℕ) → lowest_of k 0 ≡ 0
unfolding lowest_of union minus
none_lowest zero = refl
none_lowest (suc k) =
    let e : single (lowest 0) ≡ 0 = ap single lowest_empty ∙ sym (single_past 8 (omega arith)) in
    let m : minus 0 (single (lowest 0)) ≡ 0 = same_all (minus 0 (single (lowest 0))) 0 (λ i. let a = has_minus 0 (single (lowest 0)) i in let b = has_empty i in cc) in
    rw (e, m, none_lowest k) (or_zero_l 0)

lowest_first : (k s : ℕ) → s < 256 → lowest_of k s ≡ gathered (take k (members s))
unfolding lowest_of gathered
lowest_first zero s h = refl
lowest_first (suc k) s h =
    cases (eqb s 0)
    (λ z. let e = eqb-true s 0 z in rw (e, members_none) (none_lowest (suc k)))
    (λ z. rw (members_next s h (eqb-false s 0 z)) (ap (union (single (lowest s))) (lowest_first k (minus s (single (lowest s))) (minus_small 8 s (single (lowest s)) h))))

module _ (whole : ℕ) where
  -- before n more servers of the list are taken
  pub record Taking (n chosen : ℕ) (left : List ℕ) : Type 0 where
    pub rest : union chosen (gathered (take n left)) ≡ whole

  pub taking_turn : (n chosen n' chosen' x alone : ℕ) (left left' : List ℕ) → Taking n chosen left → n' + 1 ≡ n → left ≡ x ∷ left' → alone ≡ single x → chosen' ≡ union chosen alone
      → Taking n' chosen' left'
  unfolding gathered
  taking_turn n chosen n' chosen' x alone left left' s e l a c =
      let w = rw (l, sym e, add-one n') at s.rest in
      let u = union_assoc chosen (single x) (gathered (take n' left')) in
      record { rest = rw (c, a) (u ∙ w) }

  pub taking_ends : (n chosen : ℕ) (left : List ℕ) → Taking n chosen left → (0 < n → left ≡ []) → chosen ≡ whole
  unfolding gathered union
  taking_ends n chosen left s h =
      cases (eqb n 0)
      (λ z. sym (or_zero_r chosen) ∙ (rw (eqb-true n 0 z) at s.rest))
      (λ z. let e = eqb-false n 0 z in sym (or_zero_r chosen) ∙ (rw (h (omega arith), none_taken n) at s.rest))

pub taking_starts : (count set : ℕ) (n : ℕ) (left : List ℕ) → set < 256 → n ≡ count → left ≡ members set → Taking (lowest_of count set) n 0 left
unfolding union
taking_starts count set n left h e l = record { rest = rw (e, l) (or_zero_l (gathered (take count (members set))) ∙ sym (lowest_first count set h)) }
