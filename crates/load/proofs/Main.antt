-- What a user of the load relies on, for any bytes of a card and a plan.
--     sums        the counts of an accepted plan add up to the relaying places of its bytes
--     beyond_v    the counts of servers from n on are 0
--     tallied     what the code counts on the bytes of an accepted plan is its load
-- Assumes nothing.
use mathlib.Core.Path.{◌≡◌, refl, sym, ap, ◌∙◌}
use mathlib.Core.List.{List, [], map}
use Prim.Native.Nat.{ℕ, ◌≤◌}
use native.Mathlib.Nat.{zero-add}
use native.Mathlib.Omega.{arith}
use lib.Dec.{ltb}
use lib.ListN.{length, get_or, get_or-eq_default}
use lib.Seq.{ext_get_or}
use borrow.Author.Tests.{ltb-true, ltb-false}
use Rattle.facts.specs.Lists.{Each}
use Rattle.facts.proofs.Bools.{cases}
use Rattle.refusal.specs.Refused.{Refused}
use Rattle.network.specs.Links.{Links}
use Rattle.network.specs.Card.{Network, network, refused, read_card}
use Rattle.network.proofs.Main.{card_proper}
use Rattle.plan.specs.Due.{due}
use Rattle.plan.specs.Check.{Totals, totals, check_on, check_plan}
use Rattle.plan.specs.Check as Check
use Rattle.rules.specs.Blocks.{Route, operand, decode_plan}
use Rattle.rules.specs.Theorems.{Accepted}
use Rattle.rules.proofs.Progress.{turned_totals}
use Rattle.rules.proofs.Main.{decodes}
use Rattle.load.specs.Load.{relayed, plan_routes, counts_from, load_of, added, Load, counted, turned, load_on, load_call}
use Rattle.load.specs.Places.{operands_in, places_of, places_in}
use Rattle.load.specs.Tally.{tally, Tallies}
use Rattle.load.specs.Theorems.{Sums, BeyondV}
use Rattle.load.proofs.Proper.{Proper, ProperBlock, plan_proper}
use Rattle.load.proofs.Encoded.{operands_encoded, routes_proper}
use Rattle.load.proofs.Relayed.{tally_relayed, places_added, relayed_beyond, counts_long, counts_at}

-- an accepted plan for the network of a card
module _ (card plan : List ℕ) (n f : ℕ) (links : Links) (e : read_card card ≡ network n f links) (a : Accepted card plan) where
  few : n ≤ 8
  few = (card_proper card n f links e).most

  abbrev ps : List Route
  ps = plan_routes (decode_plan n f plan)

  blocks : Each (ProperBlock n) (decode_plan n f plan)
  blocks = plan_proper n f links few (due n f) (decode_plan n f plan) (decodes card plan n f links e a).0

  proper : Each (Proper n) ps
  proper = routes_proper n (decode_plan n f plan) blocks

  operands : operands_in plan ≡ map operand ps
  operands = ap operands_in (sym (decodes card plan n f links e a).1) ∙ operands_encoded n (decode_plan n f plan) blocks

  pub load_added : added (load_of (decode_plan n f plan)) ≡ places_in plan
  unfolding load_of places_in
  load_added = places_added n few ps proper ∙ ap places_of (sym operands)

  load_beyond : (i : ℕ) → n ≤ i → get_or (load_of (decode_plan n f plan)) i 0 ≡ 0
  unfolding load_of
  load_beyond i h =
      cases (ltb i 8)
      (λ t. counts_at 8 0 i ps (ltb-true i 8 t) ∙ ap (λ (x : ℕ). relayed x ps) (zero-add i) ∙ relayed_beyond n few i ps h proper)
      (λ t. let l = counts_long 8 0 ps in let past = ltb-false i 8 t in get_or-eq_default (counts_from 8 0 ps) 0 {n = i} (omega arith))

  pub tallied : (counts : List ℕ) → Tallies plan counts → counts ≡ load_of (decode_plan n f plan)
  unfolding load_of
  tallied counts t =
      let l = counts_long 8 0 ps in
      let long = t.long in
      ext_get_or 0 counts (counts_from 8 0 ps) (long ∙ sym l) λ i h.
      t.each i (omega arith) ∙ ap (tally i) operands ∙ tally_relayed n few i ps proper ∙ ap (λ (x : ℕ). relayed x ps) (sym (zero-add i)) ∙ sym (counts_at 8 0 i ps (omega arith))

-- a refused card is refused by the plan check
pub card_refused : (card plan : List ℕ) (r : Refused) → read_card card ≡ refused r → check_plan card plan ≡ Check.turned r
unfolding check_plan check_on
card_refused card plan r e = rw e refl

pub sums : Sums
unfolding load_call load_of
sums card plan (blocks, carriages, h) = go (read_card card) refl
  where
    go : (w : Network) → read_card card ≡ w → (counts : List ℕ) × (load_call card plan ≡ counted counts) × (length counts ≡ 8) × (added counts ≡ places_in plan)
    go (refused r) e = turned_totals r blocks carriages (sym (card_refused card plan r e) ∙ h)
    go (network n f links) e =
        (load_of (decode_plan n f plan), rw (e, h) refl, counts_long 8 0 (plan_routes (decode_plan n f plan)), load_added card plan n f links e (blocks, carriages, h))

-- counts are given for an accepted plan alone

abbrev counts_in : Load → List ℕ
counts_in (counted counts) = counts
counts_in (turned r) = []

abbrev outcome : Load → ℕ
outcome (counted counts) = 0
outcome (turned r) = 1

pub turned_counted {ℓ} : {C : Type ℓ} (r : Refused) (counts : List ℕ) → turned r ≡ counted counts → C
turned_counted r counts e = absurd (let z : ◌≡◌ {A = ℕ} 1 0 = ap outcome e in omega arith)

counted_plan : (card plan : List ℕ) (n f : ℕ) (links : Links) → read_card card ≡ network n f links → (counts : List ℕ) → load_call card plan ≡ counted counts
    → Accepted card plan × (load_of (decode_plan n f plan) ≡ counts)
unfolding load_call
counted_plan card plan n f links e counts q = go (check_plan card plan) refl (ap (λ (w : Network). load_on w (check_plan card plan) plan) (sym e) ∙ q)
  where
    go : (t : Totals) → check_plan card plan ≡ t → load_on (network n f links) t plan ≡ counted counts → Accepted card plan × (load_of (decode_plan n f plan) ≡ counts)
    go (totals blocks carriages) h q = ((blocks, carriages, h), ap counts_in q)
    go (Check.turned r) h q = turned_counted r counts q

pub beyond_v : BeyondV
beyond_v card plan n f links e counts q i h =
    let (a, z) = counted_plan card plan n f links e counts q in
    ap (λ (l : List ℕ). get_or l i 0) (sym z) ∙ load_beyond card plan n f links e a i h
