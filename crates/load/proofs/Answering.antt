-- The answers of the load, from what the plan check and the count ensure.
--     answer_refused    the card or the plan is refused
--     answer_counted    the plan is accepted
-- Assumes nothing.
use mathlib.Core.Path.{◌≡◌, refl, sym, ap, ◌∙◌}
use mathlib.Core.List.{List, []}
use Prim.Native.Nat.{ℕ}
use Rattle.std.specs.Prelude.{Ok, Err}
use Rattle.refusal.specs.Refused.{Refused, refusal_of}
use Rattle.refusal.specs.declared.Refusal.{Refusal}
use Rattle.network.specs.Card.{Network, network, refused, read_card}
use Rattle.plan.specs.Check.{Totals, totals, check_plan}
use Rattle.plan.specs.Check as Check
use Rattle.rules.specs.Theorems.{Accepted}
use Rattle.rules.proofs.Progress.{turned_totals}
use Rattle.load.specs.Load.{added, Load, counted, turned, load_call}
use Rattle.load.specs.Places.{places_in}
use Rattle.load.specs.Tally.{Tallies}
use Rattle.load.specs.Answers.{Answered}
use Rattle.load.proofs.Main.{card_refused, turned_counted, load_added, tallied}

module _ (card plan lent : List ℕ) where
  -- what the plan check refuses is refused in the same words
  abbrev asLoad : Totals → Load
  asLoad (totals blocks carriages) = counted []
  asLoad (Check.turned r) = turned r

  turned_is : (r : Refused) → check_plan card plan ≡ Check.turned r → load_call card plan ≡ turned r
  unfolding load_call
  turned_is r h = go (read_card card) refl
    where
      go : (w : Network) → read_card card ≡ w → load_call card plan ≡ turned r
      go (refused q) e = rw e (ap asLoad (sym (card_refused card plan q e) ∙ h))
      go (network n f links) e = rw (e, h) refl

  -- an accepted plan has the counts of its bytes
  counted_is : (blocks carriages : ℕ) → check_plan card plan ≡ totals blocks carriages → (after : List ℕ) → Tallies plan after
      → (load_call card plan ≡ counted after) × (added after ≡ places_in plan)
  unfolding load_call
  counted_is blocks carriages h after t = go (read_card card) refl
    where
      go : (w : Network) → read_card card ≡ w → (load_call card plan ≡ counted after) × (added after ≡ places_in plan)
      go (refused q) e = turned_totals q blocks carriages (sym (card_refused card plan q e) ∙ h)
      go (network n f links) e =
          let a : Accepted card plan = (blocks, carriages, h) in
          let same = tallied card plan n f links e a after t in
          (rw (e, h, same) refl, ap added same ∙ load_added card plan n f links e a)

  pub answer_refused : (r : Refusal) → Check.turned (refusal_of r) ≡ check_plan card plan → Answered card plan lent (Err r) lent
  answer_refused r e =
      let is = turned_is (refusal_of r) (sym e) in
      record { answer = sym is; counts = rw is refl; sum = λ q. turned_counted (refusal_of r) lent q }

  pub answer_counted : (blocks carriages : ℕ) → totals blocks carriages ≡ check_plan card plan → (after : List ℕ) → Tallies plan after → {x : Unit {0}} → Answered card plan lent (Ok x) after
  answer_counted blocks carriages e after t =
      let (is, sum) = counted_is blocks carriages (sym e) after t in
      record { answer = sym is; counts = rw is refl; sum = λ q. sum }
