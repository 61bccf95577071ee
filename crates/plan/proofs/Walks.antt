-- A list of due things, each of which takes the check one step on.
--     Walk            what a list gives: nothing where it is empty, else a step and then the others
--     walk_ends, walk_stops, walk_goes   a loop along a list, of which what is left gives the answer of the whole
--     ..-walk         the lists of due things
--     row_ones        a route from each other server: the receiver is left out of the sources
-- Assumes nothing.
use mathlib.Core.Path.{◌≡◌, refl, sym, ap, ◌∙◌}
use mathlib.Core.Bool.{Bool, true, false, not, ◌&&◌}
use mathlib.Core.List.{List, [], ◌∷◌}
use Prim.Native.Nat.{ℕ, zero, suc, ◌+◌, ◌^◌, ◌≤◌, ◌<◌}
use native.Mathlib.Omega.{arith}
use lib.ListN.{get_or, drop}
use lib.Dec.{eqb, ltb}
use borrow.Author.Tests.{eq-eqb, ne_eqb, eqb-true, ltb-false}
use Rattle.facts.proofs.Bools.{cases, clash}
use Rattle.sets.specs.Sets.{Set, has, single, minus, full}
use Rattle.sets.specs.Members.{list_from, members}
use Rattle.sets.proofs.Members.{has_minus, has_single}
use Rattle.network.specs.Links.{Links}
use Rattle.route.specs.Commands.{is_cut}
use Rattle.plan.specs.Due.{Group, is_part, blocks_of, blocks_of_all, fan, to_one, pairs}
use Rattle.plan.specs.Check.{Progress, reached, stopped, and_then, onward, is_due, is_report, check_group, check_groups, check_reports, check_block, check_blocks}
use Rattle.plan.specs.Answers.{due_of}
use Rattle.plan.proofs.Joins.{then_stops, then_goes, groups_append, blocks_append}

pub record Walk (rest : List ℕ → ℕ → ℕ → Progress) (step : ℕ → ℕ → ℕ → Progress) : Type 0 where
  pub ends : (at carriages : ℕ) → rest [] at carriages ≡ reached at carriages
  pub goes : (x : ℕ) (xs : List ℕ) (at carriages : ℕ) → rest (x ∷ xs) at carriages ≡ and_then (step x at carriages) (rest xs)

-- a loop at the list xs: what is left gives `whole`
module _ {rest : List ℕ → ℕ → ℕ → Progress} {step : ℕ → ℕ → ℕ → Progress} (w : Walk rest step) {xs : List ℕ} {at carriages : ℕ} {whole : Progress} (i : rest xs at carriages ≡ whole) where
  pub walk_ends : xs ≡ [] → reached at carriages ≡ whole
  walk_ends e = sym (w.ends at carriages) ∙ ap (λ (l : List ℕ). rest l at carriages) (sym e) ∙ i

  module _ {x : ℕ} {ys : List ℕ} (e : xs ≡ x ∷ ys) where
    turn : and_then (step x at carriages) (rest ys) ≡ whole
    turn = sym (w.goes x ys at carriages) ∙ ap (λ (l : List ℕ). rest l at carriages) (sym e) ∙ i

    pub walk_stops : {number place : ℕ} → stopped number place ≡ step x at carriages → stopped number place ≡ whole
    walk_stops q = then_stops (rest ys) turn q

    pub walk_goes : {at' carriages' : ℕ} → reached at' carriages' ≡ step x at carriages → rest ys at' carriages' ≡ whole
    walk_goes q = then_goes (rest ys) turn q

-- a route to r from each server of the list
unfoldable pub ones : ℕ → List ℕ → List Group
ones r [] = []
ones r (x ∷ xs) = record { command = 0x12; sources = single x; receiver = r; count = 1 } ∷ ones r xs

-- the receiver itself has none, so it is left out of the sources
others_only : (r k lo : ℕ) (p q : Set) → ((i : ℕ) → lo ≤ i → i < lo + k → q i ≡ (p i && not (eqb r i))) → to_one r (list_from k lo p) ≡ ones r (list_from k lo q)
unfolding list_from to_one ones
others_only r zero lo p q h = refl
others_only r (suc k) lo p q h =
    let e = h lo (omega arith) (omega arith) in
    let ih = others_only r k (suc lo) p q (λ i g l. h i (omega arith) (omega arith)) in
    cases (p lo)
    (λ t. cases (eqb r lo)
    (λ u. let out : q lo ≡ false = e ∙ simp (t, u) in let v = eq-eqb lo r (sym (eqb-true r lo u)) in rw (t, out) (rw v ih))
    (λ u. let out : q lo ≡ true = e ∙ simp (t, u) in
    let v = ne_eqb lo r (λ z. clash (eqb r lo) (eq-eqb r lo (sym z)) u) in
    rw (t, out) (rw v (ap (λ (gs : List Group). record { command = 0x12; sources = single lo; receiver = r; count = 1 } ∷ gs) ih))))
    (λ t. let out : q lo ≡ false = e ∙ simp t in rw (t, out) ih)

pub row_ones : (r S one others : ℕ) → one ≡ single r → others ≡ minus S one → to_one r (members S) ≡ ones r (members others)
unfolding members
row_ones r S one others a b =
    others_only r 8 0 (has S) (has others)
    (λ i g l. ap (λ (x : ℕ). has x i) (b ∙ ap (minus S) a) ∙ has_minus S (single r) i ∙ ap (λ (x : Bool). has S i && not x) (has_single r i ∙ alone i l))
  where
    alone : (i : ℕ) → i < 8 → ltb r 8 && eqb r i ≡ eqb r i
    alone i l = cases (ltb r 8) (λ t. simp t) (λ t. let o = ltb-false r 8 t in simp (t, ne_eqb r i (λ e. omega arith)))

module _ (W : ℕ) (links : Links) (s : List ℕ) where
  pub fan_walk : (f command sources : ℕ)
      → Walk (λ rs at carriages. check_groups W links s (fan f command sources rs) at carriages) (λ r at carriages. check_group W links s (record { command = command; sources = sources; receiver = r; count = f + 1 }) (f + 1) at carriages 0)
  unfolding check_groups fan
  fan_walk f command sources = record { ends = λ at carriages. refl; goes = λ r rs at carriages. refl }

  pub ones_walk : (r : ℕ)
      → Walk (λ xs at carriages. check_groups W links s (ones r xs) at carriages) (λ x at carriages. check_group W links s (record { command = 0x12; sources = single x; receiver = r; count = 1 }) 1 at carriages 0)
  unfolding check_groups ones
  ones_walk r = record { ends = λ at carriages. refl; goes = λ x xs at carriages. refl }

  pub pairs_walk : (ss : List ℕ) → Walk (λ rs at carriages. check_groups W links s (pairs ss rs) at carriages) (λ r at carriages. check_groups W links s (to_one r ss) at carriages)
  unfolding check_groups pairs
  pairs_walk ss = record { ends = λ at carriages. refl; goes = λ r rs at carriages. groups_append W links s (to_one r ss) (pairs ss rs) at carriages }

pub reports_walk : (n f : ℕ) (links : Links) (F : ℕ) (s : List ℕ) → Walk (λ ks at carriages. check_reports n f links F s ks at carriages) (λ k at carriages. check_reports n f links F s (k ∷ []) at carriages)
unfolding check_reports is_due
reports_walk n f links F s = record {
  ends = λ at carriages. refl;
  goes = λ k ks at carriages.
      cases (is_cut s at) (λ e. rw e refl)
      (λ e. cases (eqb (get_or s at 0) 0x14)
      (λ g. cases (eqb (get_or s (at + 1) 0) k && is_report n f links F k (get_or s (at + 2) 0)) (λ t. rw (e, g, t) refl) (λ t. rw (e, g, t) refl))
      (λ g. rw (e, g) refl));
}

module _ (n f : ℕ) (links : Links) (s : List ℕ) where
  pub cuts_walk : (F : ℕ) → Walk (λ ps at carriages. check_blocks n f links s (blocks_of F ps) at carriages) (λ p at carriages. onward at carriages (check_block n f links (drop at s) (due_of F p)))
  unfolding check_blocks blocks_of
  cuts_walk F = record { ends = λ at carriages. refl; goes = λ p ps at carriages. refl }

  pub blocks_walk : Walk (λ Fs at carriages. check_blocks n f links s (blocks_of_all n Fs) at carriages) (λ F at carriages. check_blocks n f links s (blocks_of F (list_from (2 ^ n) 0 (is_part (minus (full n) F)))) at carriages)
  unfolding check_blocks blocks_of_all
  blocks_walk = record { ends = λ at carriages. refl; goes = λ F Fs at carriages. blocks_append n f links s (blocks_of F (list_from (2 ^ n) 0 (is_part (minus (full n) F)))) (blocks_of_all n Fs) at carriages }
