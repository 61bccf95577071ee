-- The steps of a commit, as the code takes them.
--     Alike, alike-..   the loop over the arrivals: whether those left are x is whether all are
--     common-..         each way through the common value
--     own1-.., ..       each way through the steps
--     commits-..        the commit of each kind; both: as the contract has it
-- Assumes nothing.
use mathlib.Core.Path.{◌≡◌, refl, sym, ap, ◌∙◌}
use mathlib.Core.Bool.{Bool, true, false, cond}
use mathlib.Core.List.{List, ◌∷◌}
use Prim.Native.Nat.{ℕ, suc, min, ◌+◌, ◌-◌, ◌≤◌, ◌<◌}
use native.Mathlib.Numerals.{add-one}
use native.Mathlib.Omega.{arith}
use borrow.Author.Tests.{lt-ltb, le-ltb, eq-eqb, ne_eqb}
use Rattle.sets.specs.Sets.{has, meet, minus, full}
use Rattle.steps.specs.Hearing.{message, all, common}
use Rattle.carriage.specs.declared.opening.Opening.{Opening}
use Rattle.part.specs.Own.{Own, own1, own_gather, own_compare, own5, own6}
use Rattle.own.specs.Arrivals.{arrivals}
use Rattle.own.specs.Commits.{committed_on, commit_any}

-- the arrivals before j are x
pub record Alike (arrived : List ℕ) (due x j : ℕ) : Type 0 where
  pub most : j ≤ due
  pub same : all x (arrivals arrived j (due - j)) ≡ all x (arrivals arrived 0 due)

pub alike_starts : (arrived : List ℕ) (due x : ℕ) → Alike arrived due x 0
alike_starts arrived due x = let z : due - 0 ≡ due = omega arith in record { most = omega arith; same = rw z refl }

module _ (arrived : List ℕ) (due x j : ℕ) (a : Alike arrived due x j) where
  pub alike_ends : due ≤ j → true ≡ all x (arrivals arrived 0 due)
  unfolding arrivals all
  alike_ends h = let z : due - j ≡ 0 = omega arith in rw z at a.same

  module _ (h : j < due) (y : ℕ) (m : y ≡ message arrived j) where
    left : due - j ≡ suc (due - (j + 1))
    left = omega arith

    pub alike_other : (y ≡ x → ⊥) → false ≡ all x (arrivals arrived 0 due)
    unfolding arrivals all
    alike_other o = let e = rw (left, ← m, ne_eqb _ _ o) at a.same in e

    pub alike_goes : y ≡ x → Alike arrived due x (j + 1)
    unfolding arrivals all
    alike_goes p = let e = rw (left, ← m, eq-eqb _ _ p) at a.same in record { most = omega arith; same = ap (λ (m : ℕ). all x (arrivals arrived m (due - (j + 1)))) (add-one j) ∙ e }

common_first : (x : ℕ) (ys : List ℕ) → cond (all x (x ∷ ys)) x 2 ≡ common (x ∷ ys)
unfolding all common
common_first x ys = let e = eq-eqb x x refl in rw e refl

module _ (arrived : List ℕ) (due : ℕ) where
  pub common_none : due ≡ 0 → 2 ≡ common (arrivals arrived 0 due)
  unfolding arrivals common
  common_none z = rw z refl

  common_more : (k x : ℕ) → x ≡ message arrived 0 → cond (all x (arrivals arrived 0 (suc k))) x 2 ≡ common (arrivals arrived 0 (suc k))
  unfolding arrivals
  common_more k x m = ap (λ (y : ℕ). cond (all y (arrivals arrived 0 (suc k))) y 2) m ∙ common_first (message arrived 0) (arrivals arrived 1 k)

  module _ (o : due ≡ 0 → ⊥) (x : ℕ) (m : x ≡ message arrived 0) (b : Bool) (a : b ≡ all x (arrivals arrived 0 due)) where
    common_by : cond b x 2 ≡ common (arrivals arrived 0 due)
    common_by = let z : suc (due - 1) ≡ due = omega arith in let e = rw z at (common_more (due - 1) x m) in rw a e

    pub common_alike : b ≡ true → x ≡ common (arrivals arrived 0 due)
    common_alike t = let e = common_by in rw t at e

    pub common_other : b ≡ false → 2 ≡ common (arrivals arrived 0 due)
    common_other t = let e = common_by in rw t at e

-- step 1

module _ (A i v t : ℕ) (b : Bool) (a : b ≡ has A i) where
  pub own1_in : b ≡ true → v ≡ own1 A i v t
  unfolding own1
  own1_in e = sym (simp (sym a ∙ e))

  pub own1_out : b ≡ false → t ≡ own1 A i v t
  unfolding own1
  own1_out e = sym (simp (sym a ∙ e))

-- steps 2 and 4

module _ (receivers i : ℕ) (l : List ℕ) (t : ℕ) (b : Bool) (a : b ≡ has receivers i) where
  pub gather_in : b ≡ true → (x : ℕ) → x ≡ common l → x ≡ own_gather receivers i l t
  unfolding own_gather
  gather_in e x p = p ∙ sym (simp (sym a ∙ e))

  pub gather_out : b ≡ false → t ≡ own_gather receivers i l t
  unfolding own_gather
  gather_out e = sym (simp (sym a ∙ e))

-- step 3

module _ (S i : ℕ) (l : List ℕ) (t : ℕ) (b : Bool) (a : b ≡ has S i) where
  pub compare_out : b ≡ false → t ≡ own_compare S i l t
  unfolding own_compare
  compare_out e = sym (simp (sym a ∙ e))

  module _ (e : b ≡ true) (same : Bool) (p : same ≡ all t l) where
    pub compare_alike : same ≡ true → t ≡ own_compare S i l t
    unfolding own_compare
    compare_alike q = sym (simp (sym a ∙ e, sym p ∙ q))

    pub compare_other : same ≡ false → 2 ≡ own_compare S i l t
    unfolding own_compare
    compare_other q = sym (simp (sym a ∙ e, sym p ∙ q))

-- step 5

module _ (sound kept i t v : ℕ) (b : Bool) (a : b ≡ has sound i) where
  pub own5_out : b ≡ false → v ≡ own5 sound kept i t v
  unfolding own5
  own5_out e = sym (simp (sym a ∙ e))

  module _ (e : b ≡ true) (c : Bool) (p : c ≡ has kept i) where
    pub own5_kept : c ≡ true → v ≡ own5 sound kept i t v
    unfolding own5
    own5_kept q = sym (simp (sym a ∙ e, sym p ∙ q))

    module _ (q : c ≡ false) where
      pub own5_bit : t < 2 → t ≡ own5 sound kept i t v
      unfolding own5
      own5_bit l = sym (simp (sym a ∙ e, sym p ∙ q, lt-ltb _ _ l))

      pub own5_unsure : 2 ≤ t → v ≡ own5 sound kept i t v
      unfolding own5
      own5_unsure l = sym (simp (sym a ∙ e, sym p ∙ q, le-ltb _ _ l))

-- step 6

module _ (F i : ℕ) (l : List ℕ) (v : ℕ) (b : Bool) (a : b ≡ has F i) where
  pub own6_out : b ≡ false → v ≡ own6 F i l v
  unfolding own6
  own6_out e = sym (simp (sym a ∙ e))

  module _ (e : b ≡ true) (x : ℕ) (p : x ≡ common l) where
    pub own6_bit : x < 2 → x ≡ own6 F i l v
    unfolding own6
    own6_bit h = let k = lt-ltb _ _ h in sym (rw (← p) (simp (sym a ∙ e, k)))

    pub own6_unsure : 2 ≤ x → v ≡ own6 F i l v
    unfolding own6
    own6_unsure h = let k = le-ltb _ _ h in sym (rw (← p) (simp (sym a ∙ e, k)))

-- the commit of each kind

module _ (o : Opening) (kind i : ℕ) (l : List ℕ) (s : Own) where
  pub commits_inward : kind ≡ 0x11 → (begun : ℕ) → begun ≡ own1 o.side i s.v s.t → (receivers : ℕ) → receivers ≡ minus o.quorum o.side
      → (t : ℕ) → t ≡ own_gather receivers i l begun → record { v = s.v; t = t } ≡ commit_any o kind i l s
  unfolding commit_any committed_on
  commits_inward k begun a receivers b t p = rw (k, p, a, b) refl

  pub commits_among : kind ≡ 0x12 → (t : ℕ) → t ≡ own_compare o.quorum i l s.t → record { v = s.v; t = t } ≡ commit_any o kind i l s
  unfolding commit_any committed_on
  commits_among k t p = rw (k, p) refl

  pub commits_outward : kind ≡ 0x13 → (all : ℕ) → all ≡ full (min o.n 8) → (sound : ℕ) → sound ≡ minus all o.fault
      → (receivers : ℕ) → receivers ≡ minus sound o.quorum → (t : ℕ) → t ≡ own_gather receivers i l s.t
      → (kept : ℕ) → kept ≡ meet o.side o.quorum → (v : ℕ) → v ≡ own5 sound kept i t s.v
      → record { v = v; t = t } ≡ commit_any o kind i l s
  unfolding commit_any committed_on
  commits_outward k all a sound b receivers c t d kept e v g = rw (k, g, e, d, c, b, a) refl

  pub commits_reports : (kind ≡ 0x11 → ⊥) × (kind ≡ 0x12 → ⊥) × (kind ≡ 0x13 → ⊥) → (v : ℕ) → v ≡ own6 o.fault i l s.v → record { v = v; t = s.t } ≡ commit_any o kind i l s
  unfolding commit_any committed_on
  commits_reports k v p = sym (simp (ne_eqb _ _ k.0, ne_eqb _ _ k.1, ne_eqb _ _ k.2, p))

-- for any n, and of at most eight servers all count
pub both : (o : Opening) (kind i : ℕ) (l : List ℕ) (s w : Own) → w ≡ commit_any o kind i l s
    → record { any : w ≡ commit_any o kind i l s; few : o.n ≤ 8 → w ≡ committed_on o kind i l s }
unfolding commit_any
both o kind i l s w e = record {
  any = e;
  few = λ h.
      let m : min o.n 8 ≡ o.n = omega arith in
      e ∙ ap (λ (n : ℕ). committed_on (record o { n = n }) kind i l s) m;
}
