-- A buffer of 56 bytes is enough for every ask: a server is the source of at most all carriages of one kind of a block, and these are at most 56, the routes
-- among an S of eight servers.
--     block_among_blocks   block j is one of the plan's
--     kind_short           the carriages of a kind
--     values_short         the values of an ask
-- Assumes nothing.
use mathlib.Core.Path.{◌≡◌, refl, ap, ◌∙◌}
use mathlib.Core.Bool.{true, ◌&&◌}
use mathlib.Core.List.{List, map, Memᴰ}
use Prim.Native.Nat.{ℕ, zero, suc, ◌+◌, ◌-◌, ◌*◌, ◌≤◌, ◌<◌}
use native.Mathlib.Nat.{mul-le-mul}
use native.Mathlib.Omega.{arith}
use lib.Dec.{eqb, ltb}
use lib.ListN.{length, drop, length-map}
use borrow.Author.Tests.{le-ltb, ltb-true}
use Rattle.facts.proofs.Bools.{cases, by_cond, and_left, and_right}
use Rattle.refusal.specs.Refused.{number_of}
use Rattle.sets.specs.Sets.{size, minus, full}
use Rattle.sets.proofs.Counts.{size_le}
use Rattle.network.specs.Links.{Links}
use Rattle.network.specs.Card.{network, read_card}
use Rattle.network.proofs.Main.{card_proper}
use Rattle.plan.specs.Due.{DueBlock, due}
use Rattle.plan.specs.Check.{totals, check_plan}
use Rattle.rules.specs.Blocks.{Carriage, carriage_of, report_carriages, inward_due, among_due, outward_due, decode_block, length_of, decode_blocks, decode_plan}
use Rattle.rules.specs.Rules.{InBlock}
use Rattle.rules.proofs.Groups.{routes_length}
use Rattle.rules.proofs.Reports.{reports_length, report_carriages_lem}
use Rattle.rules.proofs.Order.{order_of}
use Rattle.rules.proofs.Whole.{decode_length}
use Rattle.rules.proofs.Main.{decodes, totalled}
use Rattle.part.specs.Own.{carriages_of, sent}
use Rattle.part.specs.State.{State, is_end, placed, stands}
use Rattle.part.specs.Calls.{Asked, from_block, block_of, site, values_due, ask_on, ask_call}
use Rattle.part.specs.Theorems.{AsksShort}
use Rattle.part.proofs.Delivered.{given_long}
use Rattle.part.proofs.Answers.{site_is_lem}

block_among_blocks : (n f : ℕ) (s : List ℕ) (j k : ℕ) → j < k → Memᴰ (block_of n f s j) (decode_blocks n f s k)
unfolding block_of from_block decode_blocks
block_among_blocks n f s j zero h = absurd (omega arith)
block_among_blocks n f s zero (suc k) h = Memᴰ.head refl
block_among_blocks n f s (suc j) (suc k) h = Memᴰ.tail (block_among_blocks n f (drop (length_of (decode_block n f s)) s) j k (omega arith))

-- f + 1 routes to each of eight servers, and routes among eight

pub fan_short : (x f : ℕ) → x ≤ 8 → f ≤ 2 → x * (f + 1) ≤ 24
fan_short x f h g = let l : f + 1 ≤ 3 = omega arith in mul-le-mul h l

pub mesh_short : (x : ℕ) → x ≤ 8 → x * (x - 1) ≤ 56
mesh_short x h = let l : x - 1 ≤ 7 = omega arith in mul-le-mul h l

-- of a block within the rules, as it is decoded
module _ (n f : ℕ) (links : Links) (few : n ≤ 8) (bound : f ≤ 2) (d : DueBlock) (s : List ℕ) (g : InBlock n f links d (decode_block n f s)) where
  inward_short : length (map carriage_of (decode_block n f s).inward) ≤ 56
  unfolding decode_block inward_due
  inward_short =
      let b = decode_block n f s in
      let a = length-map b.inward carriage_of ∙ routes_length s 4 (inward_due f b.side b.quorum) in
      let c = fan_short (size (minus b.quorum b.side)) f (size_le (minus b.quorum b.side)) bound in
      omega arith

  among_short : length (map carriage_of (decode_block n f s).among) ≤ 56
  unfolding decode_block among_due
  among_short =
      let b = decode_block n f s in
      let a = length-map b.among carriage_of ∙ routes_length s _ (among_due b.quorum) in
      let c = mesh_short (size b.quorum) (size_le b.quorum) in
      omega arith

  outward_short : length (map carriage_of (decode_block n f s).outward) ≤ 56
  unfolding decode_block outward_due
  outward_short =
      let b = decode_block n f s in
      let a = length-map b.outward carriage_of ∙ routes_length s _ (outward_due n f b.faults b.quorum) in
      let c = fan_short (size (minus (minus (full n) b.faults) b.quorum)) f (size_le (minus (minus (full n) b.faults) b.quorum)) bound in
      omega arith

  told_short : length (report_carriages (decode_block n f s).reports) ≤ 56
  unfolding decode_block
  told_short =
      let b = decode_block n f s in
      let a = report_carriages_lem n f links b.faults few s b.reports g.reports in
      let r : length b.reports ≡ size b.faults = reports_length s _ (size b.faults) in
      let z : length b.reports ≤ 8 = let w = size_le b.faults in omega arith in
      let c = fan_short (length b.reports) f z bound in
      omega arith

  kind_short : (kind : ℕ) → length (carriages_of kind (decode_block n f s)) ≤ 56
  unfolding carriages_of
  kind_short kind =
      let Few : List Carriage → Type 0 = λ cs. length cs ≤ 56 in
      by_cond Few (eqb kind 0x11) _ _ (λ e. inward_short) (λ e. by_cond Few (eqb kind 0x12) _ _ (λ e. among_short) (λ e. by_cond Few (eqb kind 0x13) _ _ (λ e. outward_short) (λ e. told_short)))

module _ (card plan : List ℕ) (n f : ℕ) (links : Links) (e : read_card card ≡ network n f links) (blocks carriages : ℕ)
    (q : check_plan card plan ≡ totals blocks carriages) where
  block_short : (j kind : ℕ) → j < blocks → length (carriages_of kind (block_of n f plan j)) ≤ 56
  unfolding decode_plan block_of
  block_short j kind h =
      let many = (totalled card plan n f links e blocks carriages q).0 ∙ decode_length n f plan (length (due n f)) in
      let order = (decodes card plan n f links e (blocks, carriages, q)).0 in
      let (d, i, g) = order_of n f links (due n f) (decode_plan n f plan) order (block_of n f plan j) (block_among_blocks n f plan j (length (due n f)) (omega arith)) in
      let proper = card_proper card n f links e in
      kind_short n f links proper.most proper.bound d (from_block n f plan j) g kind

  values_short : (i : ℕ) (s : State) → stands blocks s ≡ true → length (values_due n f plan i s) ≤ 56
  unfolding values_due stands placed
  values_short i s ok =
      let Few : List ℕ → Type 0 = λ l. length l ≤ 56 in
      by_cond Few (is_end s) _ _ (λ z. omega arith)
      λ z. let p = and_left (placed blocks s) (ltb s.v 2 && ltb s.t 3) ok in
      let inside = ltb-true s.block blocks (and_left (ltb s.block blocks) (ltb 0x10 s.kind && (ltb s.kind 0x15 && ltb s.asked 2)) (rw z at p)) in
      let a = given_long (sent s.kind s.v s.t) i (carriages_of s.kind (block_of n f plan s.block)) in
      let b = block_short s.block s.kind inside in
      omega arith

-- the number of a refusal; 0 for an answer
abbrev held_number : Asked → ℕ
held_number (Asked.sends s values) = 0
held_number (Asked.held r) = number_of r

pub asks_short : AsksShort
unfolding ask_call ask_on
asks_short card plan n f links e (blocks, carriages, q) i s lent room refused =
    let number : held_number (ask_on (site n f blocks) plan i s lent) ≡ 14 = ap held_number (rw (site_is_lem card plan n f links e blocks carriages q) at refused) in
    cases (ltb i n && stands blocks s)
    (λ ok. let few = values_short card plan n f links e blocks carriages q i s (and_right (ltb i n) (stands blocks s) ok) in
    let l = le-ltb (length lent) (length (values_due n f plan i s)) (omega arith) in
    cases (eqb s.asked 1)
    (λ o. let z : held_number (ask_on (site n f blocks) plan i s lent) ≡ 16 = rw (ok, l, o) refl in omega arith)
    (λ o. let z : held_number (ask_on (site n f blocks) plan i s lent) ≡ 0 = rw (ok, l, o) refl in omega arith))
    (λ ok. let z : held_number (ask_on (site n f blocks) plan i s lent) ≡ 13 = rw ok refl in omega arith)
