-- The scan over the parts of a set: from one set within it on to the next. Assumes nothing.
use mathlib.Core.Path.{◌≡◌, refl, ap, ◌∙◌}
use mathlib.Core.Bool.{Bool, true, false, ◌&&◌}
use mathlib.Core.List.{List, ◌∷◌}
use Prim.Native.Nat.{ℕ, ◌+◌, ◌-◌, ◌<◌}
use native.Mathlib.Omega.{arith}
use Rattle.facts.proofs.Bools.{cases, is_false, and_left}
use Rattle.sets.specs.Sets.{has, meet, minus, next}
use Rattle.sets.specs.Members.{list_from}
use Rattle.sets.proofs.Members.{has_minus, within_in, apart_meet}
use Rattle.sets.proofs.NextSet.{next_apart, next_after, next_least}
use Rattle.plan.specs.Due.{is_part}
use Rattle.plan.proofs.Lists.{list_next, list_skip, list_passed}
use Rattle.plan.proofs.Cuts.{part_below}

module _ (W : ℕ) (small : W < 256) where
  -- a part has no server outside the set
  part_inside : (p : ℕ) → is_part W p ≡ true → meet p (minus 255 W) ≡ 0
  unfolding is_part
  part_inside p t =
      let b = part_below W p t in
      apart_meet 8 p (minus 255 W) (omega arith)
      (λ i h. let e = has_minus 255 W i in cases (has p i) (λ m. let w = within_in p W (and_left _ _ t) i m in simp (e, m, w, off (has 255 i))) (λ m. simp m))
    where
      off : (x : Bool) → (x && false) ≡ false
      off true = refl
      off false = refl

  -- s is passed, and with it all sets up to the next one
  module _ (s : ℕ) (clear : meet s (minus 255 W) ≡ 0) where
    pub scan_inside : meet (next s (minus 255 W)) (minus 255 W) ≡ 0
    scan_inside = next_apart s (minus 255 W)

    pub scan_on : s < next s (minus 255 W)
    scan_on = next_after s (minus 255 W) clear

    past : list_from (W - (s + 1)) (s + 1) (is_part W) ≡ list_from (W - next s (minus 255 W)) (next s (minus 255 W)) (is_part W)
    past =
        let l = scan_on in
        list_passed W (s + 1) (next s (minus 255 W)) (is_part W) (omega arith)
        (λ x g h. is_false (is_part W x) (λ t. let m = next_least s (minus 255 W) x clear (part_inside x t) (omega arith) in absurd (omega arith)))

    pub scan_takes : s < W → is_part W s ≡ true → list_from (W - s) s (is_part W) ≡ s ∷ list_from (W - next s (minus 255 W)) (next s (minus 255 W)) (is_part W)
    scan_takes h t = list_next W s (is_part W) h t ∙ ap (λ (l : List ℕ). s ∷ l) past

    pub scan_skips : s < W → is_part W s ≡ false → list_from (W - s) s (is_part W) ≡ list_from (W - next s (minus 255 W)) (next s (minus 255 W)) (is_part W)
    scan_skips h f = list_skip W s (is_part W) h f ∙ past
