-- The plan as a whole: the blocks that are due and then the end. Assumes nothing.
use mathlib.Core.Path.{◌≡◌, refl, sym, ap, ◌∙◌}
use mathlib.Core.List.{List}
use Prim.Native.Nat.{ℕ, ◌≤◌}
use lib.ListN.{length}
use borrow.Author.Tests.{le-ltb}
use Rattle.refusal.specs.Refused.{plan, plan_refusal, number_of, place_of}
use Rattle.refusal.specs.declared.PlanGround.{PlanGround}
use Rattle.network.specs.declared.Network.{Network}
use Rattle.plan.specs.Due.{due}
use Rattle.plan.specs.Check.{Progress, reached, stopped, and_then, check_blocks, check_end, totals, turned, totals_of, check_on}
use Rattle.plan.specs.Answers.{network_is}

ground_is : (g : PlanGround) → plan (number_of (plan_refusal g)) (place_of (plan_refusal g)) ≡ plan_refusal g
ground_is PlanGround.TooLong = refl
ground_is (PlanGround.Cut at) = refl
ground_is (PlanGround.Trailing at) = refl
ground_is (PlanGround.NotDue at) = refl
ground_is (PlanGround.Quorum at) = refl
ground_is (PlanGround.Route at) = refl
ground_is (PlanGround.Shared at) = refl
ground_is (PlanGround.Reporters at) = refl

-- the plan is not too long
module _ (w : Network) (s : List ℕ) (h : length s ≤ 1048576) where
  on : {x : Progress} → x ≡ and_then (check_blocks w.n w.f w.links s (due w.n w.f) 0 0) (λ (at carriages : ℕ). check_end s at carriages) → totals_of (length (due w.n w.f)) x ≡ check_on (network_is w) s
  unfolding check_on
  on e = ap (totals_of (length (due w.n w.f))) e ∙ sym (simp (le-ltb _ _ h))

  pub on_stops : (g : PlanGround) → stopped (number_of (plan_refusal g)) (place_of (plan_refusal g)) ≡ and_then (check_blocks w.n w.f w.links s (due w.n w.f) 0 0) (λ (at carriages : ℕ). check_end s at carriages)
      → turned (plan_refusal g) ≡ check_on (network_is w) s
  on_stops g e = ap turned (sym (ground_is g)) ∙ on e

  pub on_is : {at carriages blocks : ℕ} → blocks ≡ length (due w.n w.f) → reached at carriages ≡ and_then (check_blocks w.n w.f w.links s (due w.n w.f) 0 0) (λ (at carriages : ℕ). check_end s at carriages)
      → totals blocks carriages ≡ check_on (network_is w) s
  on_is {at} {carriages} b e = ap (λ (k : ℕ). totals k carriages) b ∙ on e
