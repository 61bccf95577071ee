-- Checks in a row: one list of due things after another is one list.
--     then_then       `and_then` twice, bracketed the other way
--     then_stops, then_goes   what the check in front says of a row
--     groups_append   the groups of two lists joined
--     blocks_append   the blocks of two lists joined
-- Assumes nothing.
use mathlib.Core.Path.{◌≡◌, refl, sym, ap, ◌∙◌}
use mathlib.Core.List.{List, [], ◌∷◌, ◌++◌}
use Prim.Native.Nat.{ℕ}
use lib.ListN.{drop}
use Rattle.network.specs.Links.{Links}
use Rattle.plan.specs.Due.{DueBlock, Group}
use Rattle.plan.specs.Check.{Progress, reached, stopped, and_then, onward, check_group, check_groups, check_block, check_blocks}

pub then_then : (p : Progress) (f g : ℕ → ℕ → Progress) → and_then (and_then p f) g ≡ and_then p (λ (at carriages : ℕ). and_then (f at carriages) g)
then_then (reached at carriages) f g = refl
then_then (stopped number place) f g = refl

-- what follows may be put for what gives the same
pub then_same : (p : Progress) (f g : ℕ → ℕ → Progress) → ((at carriages : ℕ) → f at carriages ≡ g at carriages) → and_then p f ≡ and_then p g
then_same (reached at carriages) f g h = h at carriages
then_same (stopped number place) f g h = refl

-- a check in front that stops, or goes on
module _ {x whole : Progress} (next : ℕ → ℕ → Progress) (t : and_then x next ≡ whole) where
  pub then_stops : {number place : ℕ} → stopped number place ≡ x → stopped number place ≡ whole
  then_stops e = ap (λ (u : Progress). and_then u next) e ∙ t

  pub then_goes : {at carriages : ℕ} → reached at carriages ≡ x → next at carriages ≡ whole
  then_goes e = ap (λ (u : Progress). and_then u next) e ∙ t

module _ (W : ℕ) (links : Links) (s : List ℕ) where
  pub groups_append : (gs hs : List Group) (at carriages : ℕ)
      → check_groups W links s (gs ++ hs) at carriages ≡ and_then (check_groups W links s gs at carriages) (λ (a c : ℕ). check_groups W links s hs a c)
  unfolding check_groups
  groups_append [] hs at carriages = refl
  groups_append (g ∷ gs) hs at carriages =
      then_same (check_group W links s g g.count at carriages 0) (λ (a c : ℕ). check_groups W links s (gs ++ hs) a c) (λ (a c : ℕ). and_then (check_groups W links s gs a c) (λ (a' c' : ℕ). check_groups W links s hs a' c')) (groups_append gs hs)
      ∙ sym (then_then (check_group W links s g g.count at carriages 0) (λ (a c : ℕ). check_groups W links s gs a c) (λ (a c : ℕ). check_groups W links s hs a c))

pub blocks_append : (n f : ℕ) (links : Links) (s : List ℕ) (ds es : List DueBlock) (at carriages : ℕ)
    → check_blocks n f links s (ds ++ es) at carriages ≡ and_then (check_blocks n f links s ds at carriages) (λ (a c : ℕ). check_blocks n f links s es a c)
unfolding check_blocks
blocks_append n f links s [] es at carriages = refl
blocks_append n f links s (d ∷ ds) es at carriages =
    then_same (onward at carriages (check_block n f links (drop at s) d)) (λ (a c : ℕ). check_blocks n f links s (ds ++ es) a c) (λ (a c : ℕ). and_then (check_blocks n f links s ds a c) (λ (a' c' : ℕ). check_blocks n f links s es a' c')) (blocks_append n f links s ds es)
    ∙ sym (then_then (onward at carriages (check_block n f links (drop at s) d)) (λ (a c : ℕ). check_blocks n f links s ds a c) (λ (a c : ℕ). check_blocks n f links s es a c))
