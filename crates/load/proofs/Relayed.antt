-- The counts of routes by their operands.
--     tally_relayed    what is counted on the operands of proper routes is how many of them a server relays
--     places_added     their relaying places are the counts of the eight servers, added up
--     relayed_beyond   no server from n on relays one
--     counts-..        the list of counts: its length and its entries
-- Assumes nothing.
use mathlib.Core.Path.{◌≡◌, refl, sym, ap, ◌∙◌}
use mathlib.Core.List.Memᴰ
use mathlib.Core.List.{List, [], ◌∷◌, map}
use Prim.Native.Nat.{ℕ, zero, suc, ◌+◌, ◌≤◌, ◌<◌}
use native.Mathlib.Nat.{add-zero}
use native.Mathlib.Omega.{arith}
use lib.ListN.{length, get_or, drop}
use Rattle.facts.specs.Lists.{Each}
use Rattle.rules.specs.Blocks.{Route, operand}
use Rattle.load.specs.Load.{relayed, counts_from, added}
use Rattle.load.specs.Places.{places_of}
use Rattle.load.specs.Tally.{between, tally}
use Rattle.load.proofs.Proper.{Proper}
use Rattle.load.proofs.Sums.{sum_from, sum_same, sum_none, sum_plus, added_counts}
use Rattle.load.proofs.Between.{between_relays, between_sum, between_beyond}

module _ (n : ℕ) (few : n ≤ 8) where
  pub tally_relayed : (i : ℕ) (ps : List Route) → Each (Proper n) ps → tally i (map operand ps) ≡ relayed i ps
  unfolding tally relayed
  tally_relayed i [] g = refl
  tally_relayed i (p ∷ ps) g =
      let here = between_relays n few i p (g p (Memᴰ.head refl)) in
      let later = tally_relayed i ps (λ q m. g q (Memᴰ.tail m)) in
      rw (here, later) refl

  sum_tally : (ps : List Route) → Each (Proper n) ps → sum_from 8 0 (λ i. tally i (map operand ps)) ≡ places_of (map operand ps)
  unfolding tally places_of
  sum_tally [] g = sum_none 8 0
  sum_tally (p ∷ ps) g =
      let proper = g p (Memᴰ.head refl) in
      let here = between_sum n few p proper in
      let back = ap length proper.back in
      let later = sum_tally ps (λ q m. g q (Memᴰ.tail m)) in
      let plus = sum_plus 8 0 (λ i. between i (drop 1 (operand p))) (λ i. tally i (map operand ps)) in
      plus ∙ rw (here, later, back) refl

  pub places_added : (ps : List Route) → Each (Proper n) ps → added (counts_from 8 0 ps) ≡ places_of (map operand ps)
  places_added ps g = added_counts 8 0 ps ∙ sum_same 8 0 _ _ (λ i h. sym (tally_relayed i ps g)) ∙ sum_tally ps g

  pub relayed_beyond : (i : ℕ) (ps : List Route) → n ≤ i → Each (Proper n) ps → relayed i ps ≡ 0
  unfolding relayed
  relayed_beyond i [] h g = refl
  relayed_beyond i (p ∷ ps) h g =
      let proper = g p (Memᴰ.head refl) in
      let here = sym (between_relays n few i p proper) ∙ between_beyond n few i p h proper in
      let later = relayed_beyond i ps h (λ q m. g q (Memᴰ.tail m)) in
      rw (here, later) refl

pub counts_long : (k i : ℕ) (ps : List Route) → length (counts_from k i ps) ≡ k
unfolding counts_from
counts_long zero i ps = refl
counts_long (suc k) i ps = ap suc (counts_long k (suc i) ps)

pub counts_at : (k i j : ℕ) (ps : List Route) → j < k → get_or (counts_from k i ps) j 0 ≡ relayed (i + j) ps
unfolding counts_from
counts_at zero i j ps h = absurd (omega arith)
counts_at (suc k) i zero ps h = rw add-zero refl
counts_at (suc k) i (suc j) ps h =
    let e : suc i + j ≡ i + suc j = omega arith in
    counts_at k (suc i) j ps (omega arith) ∙ ap (λ (x : ℕ). relayed x ps) e
