-- The marks of a list of links: eight rows of eight, one for each link and none beside them; and links that are so marked are these.
--     marked_is      links put one by one give a mark for each, and none beside them
--     marks_one      links with the marks of one list are the same
-- Assumes nothing.
use mathlib.Core.Path.{◌≡◌, refl, sym, ap, ◌∙◌}
use mathlib.Core.Logic.{◌⊎◌, inl, inr, ⊎_elim}
use mathlib.Core.Bool.{true, false}
use mathlib.Core.List.Memᴰ
use mathlib.Core.List.{List, [], ◌∷◌, Memᴰ}
use Prim.Native.Nat.{ℕ, ◌<◌}
use native.Mathlib.Omega.{arith}
use lib.ListN.{length, get_or, set, replicate, length-set, get_or-replicate}
use lib.Seq.{get_or-set_same, get_or-set_other, ext_get_or}
use lib.Dec.{eqb}
use borrow.Author.Tests.{eqb-true, eqb-false}
use Rattle.facts.specs.Lists.{Each}
use Rattle.facts.proofs.Bools.{cases, same}
use Rattle.network.specs.Links.{Links, no_links, linked_in, with_link}
use Rattle.network.proofs.Networks.{none_there, linked_with}
use Rattle.printer.specs.Print.{Link}
use Rattle.cards.specs.Said.{Marks}
use Rattle.cards.proofs.Marking.{marks_of}

-- eight rows of eight
abbrev Eight : Links → Type 0
Eight links = (length links ≡ 8) × ((u : ℕ) → u < 8 → length (get_or links u []) ≡ 8)

eight_none : Eight no_links
unfolding no_links
eight_none = (refl, λ u h. rw (get_or-replicate 8 u (replicate 8 false) [] h) refl)

module _ (links : Links) (e : Eight links) (u v : ℕ) where
  row_with : u < 8 → get_or (with_link links u v) u [] ≡ set (get_or links u []) v true
  unfolding with_link
  row_with h = let l = e.0 in get_or-set_same links u (set (get_or links u []) v true) [] (omega arith)

  row_kept : (a : ℕ) → (a ≡ u → ⊥) → get_or (with_link links u v) a [] ≡ get_or links a []
  unfolding with_link
  row_kept a o = get_or-set_other links u a (set (get_or links u []) v true) [] o

  rows_with : length (with_link links u v) ≡ 8
  unfolding with_link
  rows_with = length-set links u (set (get_or links u []) v true) ∙ e.0

  eight_with : Eight (with_link links u v)
  eight_with = (
    rows_with,
    λ a h. cases (eqb a u)
        (λ q. let p = eqb-true a u q in rw p (ap length (row_with (omega arith)) ∙ length-set (get_or links u []) v true ∙ e.1 u (omega arith)))
        (λ q. ap length (row_kept a (eqb-false a u q)) ∙ e.1 a h),
  )

  module _ (hu : u < 8) (hv : v < 8) where
    with_there : linked_in (with_link links u v) u v ≡ true
    unfolding linked_in
    with_there = let l = e.1 u hu in rw (row_with hu) (get_or-set_same (get_or links u []) v true false (omega arith))

    with_keeps : (a b : ℕ) → linked_in links a b ≡ true → linked_in (with_link links u v) a b ≡ true
    unfolding linked_in
    with_keeps a b q =
        cases (eqb a u)
        (λ w. let p = eqb-true a u w in cases (eqb b v)
        (λ x. let o = eqb-true b v x in rw (p, o) with_there)
        (λ x. rw (p, row_with hu) (get_or-set_other (get_or links u []) v b true false (eqb-false b v x) ∙ (rw p at q))))
        (λ w. rw (row_kept a (eqb-false a u w)) q)

-- a list of links, put on those that are there
eight_marks : (xs : List Link) (links : Links) → Eight links → Eight (marks_of xs links)
unfolding marks_of
eight_marks [] links e = e
eight_marks (x ∷ xs) links e = eight_marks xs (with_link links x.0 x.1) (eight_with links e x.0 x.1)

-- links between two of the eight servers that there can be
abbrev Small : Link → Type 0
Small x = (x.0 < 8) × (x.1 < 8)

marks_keep : (xs : List Link) (links : Links) → Eight links → Each Small xs → (u v : ℕ) → linked_in links u v ≡ true → linked_in (marks_of xs links) u v ≡ true
unfolding marks_of
marks_keep [] links e s u v q = q
marks_keep (x ∷ xs) links e s u v q =
    let h = s x (Memᴰ.head refl) in
    marks_keep xs (with_link links x.0 x.1) (eight_with links e x.0 x.1) (λ y m. s y (Memᴰ.tail m)) u v (with_keeps links e x.0 x.1 h.0 h.1 u v q)

marks_all : (xs : List Link) (links : Links) → Eight links → Each Small xs → (u v : ℕ) → Memᴰ (u, v) xs → linked_in (marks_of xs links) u v ≡ true
unfolding marks_of
marks_all [] links e s u v m = elim m [ ]
marks_all (x ∷ xs) links e s u v m =
    let h = s x (Memᴰ.head refl) in
    let on = eight_with links e x.0 x.1 in
    let rest : Each Small xs = λ y k. s y (Memᴰ.tail k) in
    ⊎_elim
    (λ (z : (u, v) ≡ x). marks_keep xs (with_link links x.0 x.1) on rest u v
    (rw (ap (λ (y : Link). y.0) z, ap (λ (y : Link). y.1) z) (with_there links e x.0 x.1 h.0 h.1)))
    (λ k. marks_all xs (with_link links x.0 x.1) on rest u v k)
    (Memᴰ.cases_cons m)

marks_only : (xs : List Link) (links : Links) (u v : ℕ) → linked_in (marks_of xs links) u v ≡ true → (linked_in links u v ≡ true) ⊎ Memᴰ (u, v) xs
unfolding marks_of
marks_only [] links u v q = inl q
marks_only (x ∷ xs) links u v q =
    ⊎_elim
    (λ w. ⊎_elim (λ k. inl k) (λ (k : (u ≡ x.0) × (v ≡ x.1)). inr (Memᴰ.head (pair_is u v x k.0 k.1))) (linked_with links x.0 x.1 u v w))
    (λ w. inr (Memᴰ.tail w))
    (marks_only xs (with_link links x.0 x.1) u v q)
  where
    pair_is : (u v : ℕ) (x : Link) → u ≡ x.0 → v ≡ x.1 → (u, v) ≡ x
    pair_is u v (a, b) p q = cc

pub marked_is : (xs : List Link) → Each Small xs → Marks (marks_of xs no_links) xs
marked_is xs s =
    let e = eight_marks xs no_links eight_none in
    record {
      rows = e.0;
      marks = e.1;
      only = λ u v q. ⊎_elim (λ w. none_there u v w) (λ m. m) (marks_only xs no_links u v q);
      all = λ u v m. marks_all xs no_links eight_none s u v m;
    }

-- rows of eight marks with a mark in the same places
pub marks_one : (xs : List Link) (a b : Links) → Marks a xs → Marks b xs → a ≡ b
unfolding linked_in
marks_one xs a b p q =
    ext_get_or [] a b (p.rows ∙ sym q.rows)
    (λ u h. let l = p.rows in let k : u < 8 = omega arith in
    ext_get_or false (get_or a u []) (get_or b u []) (p.marks u k ∙ sym (q.marks u k))
    (λ v m. same (get_or (get_or a u []) v false) (get_or (get_or b u []) v false) (λ e. q.all u v (p.only u v e)) (λ e. p.all u v (q.only u v e))))
