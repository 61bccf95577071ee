-- The parts of a block, one after the other.
--     rest_split      the commands after its opening, kind by kind
--     block-..        the tests of its opening: what is left to test gives the answer of the block check
-- Assumes nothing.
use mathlib.Core.Path.{◌≡◌, refl, sym, ap, ◌∙◌}
use mathlib.Core.Bool.{Bool, true, false, cond, not, ◌&&◌, ◌||◌}
use mathlib.Core.List.{List, ◌++◌}
use Prim.Native.Nat.{ℕ}
use lib.ListN.{get_or}
use lib.Dec.{eqb}
use borrow.Author.Tests.{eq-eqb, ne_eqb}
use Rattle.sets.specs.Sets.{minus, within}
use Rattle.sets.specs.Members.{members}
use Rattle.network.specs.Links.{Links}
use Rattle.network.specs.Rows.{links_of}
use Rattle.plan.specs.Due.{fan, pairs, routes_due}
use Rattle.plan.specs.Check.{Progress, stopped, and_then, is_due, check_groups, check_reports, check_block}
use Rattle.plan.specs.Answers.{due_of, rest_in}
use Rattle.plan.specs.declared.site.Site.{Site}
use Rattle.plan.proofs.Joins.{then_then, groups_append}

pub rest_split : (t : Site) (s : List ℕ) (side quorum receivers others : ℕ) → receivers ≡ minus quorum side → others ≡ minus t.sound quorum
    → and_then (check_groups t.sound (links_of t.rows) s (fan t.f 0x11 side (members receivers)) 4 0)
    (λ (a c : ℕ). and_then (check_groups t.sound (links_of t.rows) s (pairs (members quorum) (members quorum)) a c)
    (λ (a c : ℕ). and_then (check_groups t.sound (links_of t.rows) s (fan t.f 0x13 quorum (members others)) a c)
    (λ (a c : ℕ). check_reports t.n t.f (links_of t.rows) t.fault s (members t.fault) a c)))
    ≡ rest_in t s side quorum
unfolding routes_due
rest_split t s side quorum receivers others p q =
    let W = t.sound in
    let links : Links = links_of t.rows in
    let inward = fan t.f 0x11 side (members (minus quorum side)) in
    let among = pairs (members quorum) (members quorum) in
    let outward = fan t.f 0x13 quorum (members (minus t.sound quorum)) in
    let next = λ (a c : ℕ). check_reports t.n t.f links t.fault s (members t.fault) a c in
    rw (p, q, ← t.rest)
    (sym (ap (λ (u : Progress). and_then u next) (groups_append W links s (inward ++ among) outward 4 0)
    ∙ ap (λ (u : Progress). and_then (and_then u (λ (a c : ℕ). check_groups W links s outward a c)) next) (groups_append W links s inward among 4 0)
    ∙ then_then (and_then (check_groups W links s inward 4 0) (λ (a c : ℕ). check_groups W links s among a c)) (λ (a c : ℕ). check_groups W links s outward a c) next
    ∙ then_then (check_groups W links s inward 4 0) (λ (a c : ℕ). check_groups W links s among a c) (λ (a c : ℕ). and_then (check_groups W links s outward a c) next)))

-- the command is a block's: on from there
module _ (t : Site) (s : List ℕ) (part : ℕ) (opened : (next : Progress) → next ≡ is_due s 0 0x10 next) where
  pub block_strange : (get_or s 1 0 ≡ t.fault → ⊥) → stopped 7 0 ≡ check_block t.n t.f (links_of t.rows) s (due_of t.fault part)
  unfolding check_block
  block_strange o = sym (simp (ne_eqb _ _ o)) ∙ opened _

  -- its F is the one due
  module _ (known : get_or s 1 0 ≡ t.fault) where
    ahead : cond (eqb (get_or s 2 0) part || eqb (get_or s 2 0) (minus t.sound part)) (cond (not (eqb (get_or s 3 0) 0) && within (get_or s 3 0) t.sound) (rest_in t s (get_or s 2 0) (get_or s 3 0)) (stopped 8 0)) (stopped 7 0)
        ≡ check_block t.n t.f (links_of t.rows) s (due_of t.fault part)
    unfolding check_block
    ahead = sym (simp (known, eq-eqb t.fault t.fault refl, ← t.rest)) ∙ opened _

    module _ {side : Bool} (a : side ≡ (eqb (get_or s 2 0) part || eqb (get_or s 2 0) (minus t.sound part))) where
      pub block_side : side ≡ false → stopped 7 0 ≡ check_block t.n t.f (links_of t.rows) s (due_of t.fault part)
      block_side o = sym (simp (sym a ∙ o)) ∙ ahead

      module _ (o : side ≡ true) where
        pub block_empty : get_or s 3 0 ≡ 0 → stopped 8 0 ≡ check_block t.n t.f (links_of t.rows) s (due_of t.fault part)
        block_empty z = sym (simp (sym a ∙ o, eq-eqb _ _ z)) ∙ ahead

        module _ (z : get_or s 3 0 ≡ 0 → ⊥) {inside : Bool} (b : inside ≡ within (get_or s 3 0) t.sound) where
          pub block_outside : inside ≡ false → stopped 8 0 ≡ check_block t.n t.f (links_of t.rows) s (due_of t.fault part)
          block_outside i = sym (simp (sym a ∙ o, ne_eqb _ _ z, sym b ∙ i)) ∙ ahead

          pub block_rest : inside ≡ true → rest_in t s (get_or s 2 0) (get_or s 3 0) ≡ check_block t.n t.f (links_of t.rows) s (due_of t.fault part)
          block_rest i = sym (simp (sym a ∙ o, ne_eqb _ _ z, sym b ∙ i)) ∙ ahead
