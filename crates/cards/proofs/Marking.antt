-- Marks put one after another: their order does not count, nor how often each is put.
--     with_twice    a mark put again is there already
--     with_swap     two marks, in either order
--     marks_of       the marks of a list of links, put on those that are there
--     marked_same   lists with the same links give the same marks
-- Assumes nothing.
use mathlib.Core.Path.{◌≡◌, refl, sym, ap, ◌∙◌}
use mathlib.Core.Logic.{⊎_elim}
use mathlib.Core.Bool.{Bool, true}
use mathlib.Core.List.Memᴰ
use mathlib.Core.List.{List, [], ◌∷◌, Memᴰ}
use Prim.Native.Nat.{ℕ}
use lib.ListN.{length, get_or, set}
use lib.Seq.{get_or-set_same, get_or-set_other, set_out, set-set, set_comm}
use lib.Dec.{eqb, ltb}
use borrow.Author.Tests.{ltb-true, ltb-false, eqb-true, eqb-false}
use Rattle.facts.proofs.Bools.{cases}
use Rattle.network.specs.Links.{Links, with_link}
use Rattle.printer.specs.Print.{Link}
use Rattle.cards.specs.Twins.{SameLinks}

-- in a row
row_swap : (row : List Bool) (v b : ℕ) → set (set row v true) b true ≡ set (set row b true) v true
row_swap row v b =
    cases (eqb v b)
    (λ e. rw (eqb-true v b e) refl)
    (λ e. set_comm row v b true true (eqb-false v b e))

pub with_twice : (links : Links) (u v : ℕ) → with_link (with_link links u v) u v ≡ with_link links u v
unfolding with_link
with_twice links u v =
    let row = get_or links u [] in
    cases (ltb u (length links))
    (λ e. rw (get_or-set_same links u (set row v true) [] (ltb-true u (length links) e)) (set-set links u (set row v true) (set (set row v true) v true) ∙ ap (set links u) (set-set row v true true)))
    (λ e. let o = set_out links u (set row v true) (ltb-false u (length links) e) in rw (o, o) refl)

-- links from one server
same_row : (links : Links) (u v b : ℕ) → with_link (with_link links u v) u b ≡ with_link (with_link links u b) u v
unfolding with_link
same_row links u v b =
    let row = get_or links u [] in
    cases (ltb u (length links))
    (λ e. let h = ltb-true u (length links) e in
    rw (get_or-set_same links u (set row v true) [] h, get_or-set_same links u (set row b true) [] h)
    (set-set links u (set row v true) (set (set row v true) b true) ∙ ap (set links u) (row_swap row v b) ∙ sym (set-set links u (set row b true) (set (set row b true) v true))))
    (λ e. let h = ltb-false u (length links) e in rw (set_out links u (set row v true) h, set_out links u (set row b true) h, set_out links u (set row v true) h) refl)

pub with_swap : (links : Links) (u v a b : ℕ) → with_link (with_link links u v) a b ≡ with_link (with_link links a b) u v
unfolding with_link
with_swap links u v a b =
    let r = set (get_or links u []) v true in
    let q = set (get_or links a []) b true in
    cases (eqb u a)
    (λ e. rw (← eqb-true u a e) (same_row links u v b))
    (λ e. let h = eqb-false u a e in rw (get_or-set_other links u a r [] (λ z. h (sym z)), get_or-set_other links a u q [] h) (set_comm links u a r q h))

-- the marks of a list of links, put one by one on those that are there
unfoldable pub marks_of : List Link → Links → Links
marks_of [] links = links
marks_of (x ∷ xs) links = marks_of xs (with_link links x.0 x.1)

-- a mark put before the others or after them
pub marked_late : (xs : List Link) (links : Links) (u v : ℕ) → marks_of xs (with_link links u v) ≡ with_link (marks_of xs links) u v
unfolding marks_of
marked_late [] links u v = refl
marked_late (x ∷ xs) links u v =
    ap (marks_of xs) (with_swap links u v x.0 x.1) ∙ marked_late xs (with_link links x.0 x.1) u v

-- a link of the list, put again
pub marked_again : (xs : List Link) (links : Links) (x : Link) → Memᴰ x xs → with_link (marks_of xs links) x.0 x.1 ≡ marks_of xs links
unfolding marks_of
marked_again [] links x m = elim m [ ]
marked_again (y ∷ xs) links x m =
    ⊎_elim
    (λ (e : x ≡ y). rw e (sym (marked_late xs (with_link links y.0 y.1) y.0 y.1) ∙ ap (marks_of xs) (with_twice links y.0 y.1)))
    (λ h. marked_again xs (with_link links y.0 y.1) x h)
    (Memᴰ.cases_cons m)

-- links of one list, put on the marks of another that has them all
marked_within : (ys xs : List Link) (links : Links) → ((x : Link) → Memᴰ x ys → Memᴰ x xs) → marks_of ys (marks_of xs links) ≡ marks_of xs links
unfolding marks_of
marked_within [] xs links h = refl
marked_within (y ∷ ys) xs links h =
    ap (marks_of ys) (marked_again xs links y (h y (Memᴰ.head refl))) ∙ marked_within ys xs links (λ x m. h x (Memᴰ.tail m))

marked_turns : (ys xs : List Link) (links : Links) → marks_of ys (marks_of xs links) ≡ marks_of xs (marks_of ys links)
unfolding marks_of
marked_turns [] xs links = refl
marked_turns (y ∷ ys) xs links =
    ap (marks_of ys) (sym (marked_late xs links y.0 y.1)) ∙ marked_turns ys xs (with_link links y.0 y.1)

pub marked_same : (xs ys : List Link) (links : Links) → SameLinks xs ys → marks_of xs links ≡ marks_of ys links
marked_same xs ys links s =
    sym (marked_within ys xs links (λ x m. (s x).1 m)) ∙ marked_turns ys xs links ∙ marked_within xs ys links (λ x m. (s x).0 m)
