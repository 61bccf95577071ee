-- Bytes of the message table past the last carriage have no effect: what is brought by a carriage depends on the table's byte of its number alone.
--     message_same     tables that begin alike have the same message for each number that far
--     heard_same       so what is heard by carriages with such numbers; gather_same, compare_same, told_same: so what a step gives
--     carriages_long   how many carriages a block has, kind by kind
--     block_alike      so what a block gives; blocks_alike: so what the blocks of a list give
--     written_alike    so what a call that is answered writes; after_alike: so the lent buffer, whatever the answer
--     unheard          the statement
-- Assumes nothing.
use mathlib.Core.Path.{◌≡◌, refl, sym, ap, ◌∙◌}
use mathlib.Core.Bool.{cond, not, ◌&&◌}
use mathlib.Core.List.{List, [], ◌∷◌, ◌++◌, map}
use Prim.Native.Nat.{ℕ, suc, ◌+◌, ◌≤◌, ◌<◌}
use native.Mathlib.Omega.{arith}
use lib.Dec.{eqb, ltb}
use lib.ListN.{length, get_or, take, drop, replicate, length-append}
use lib.Seq.{get_or-take}
use Rattle.facts.proofs.Bools.{cases}
use Rattle.sets.specs.Sets.{has, meet, minus, full}
use Rattle.network.specs.Card.{Network, network, refused, read_card}
use Rattle.plan.specs.Check.{Totals, totals, turned}
use Rattle.rules.specs.Blocks.{Carriage, Block, carriage_of, report_carriages, carriages_of, plan_carriages, decode_plan}
use Rattle.rules.proofs.Main.{totalled}
use Rattle.steps.specs.Hearing.{hit, silence, read, message, brought, heard, all, common}
use Rattle.steps.specs.Steps.{held, gather, compare, step1, step5, step6, Values, values, run_block, run_blocks}
use Rattle.steps.specs.Run.{run_plan, decided, written, after_answer, lent_after}
use Rattle.steps.specs.Demand.{carriages_in, Unheard}
use Rattle.steps.proofs.Eight.{values_ext}
use Rattle.steps.proofs.Decides.{called}

-- get_or of a part
part_at : (c d : ℕ) (s s' : List ℕ) → take c s ≡ take c s' → (k : ℕ) → k < c → get_or s k d ≡ get_or s' k d
part_at c d s s' e k h = sym (get_or-take c s k d h) ∙ ap (λ (l : List ℕ). get_or l k d) e ∙ get_or-take c s' k d h

pub message_same : (c : ℕ) (table table' : List ℕ) → take c table ≡ take c table' → (k : ℕ) → k < c → message table k ≡ message table' k
unfolding message
message_same c table table' e k h = ap read (part_at c silence table table' e k h)

-- how many carriages a block has, kind by kind
carriages_long : (b : Block)
    → length (carriages_of b) ≡ length (map carriage_of b.inward) + length (map carriage_of b.among) + length (map carriage_of b.outward) + length (report_carriages b.reports)
unfolding carriages_of
carriages_long b =
    let i = map carriage_of b.inward in
    let a = map carriage_of b.among in
    let o = map carriage_of b.outward in
    let x = length-append (i ++ a ++ o) (report_carriages b.reports) in
    let y = length-append (i ++ a) o in
    let z = length-append i a in
    omega arith

-- X is the faulty set, c the number of carriages
module _ (X c : ℕ) (table table' : List ℕ) (alike : (k : ℕ) → k < c → message table k ≡ message table' k) where
  brought_same : (k : ℕ) → k < c → (g : ℕ → ℕ) (x : Carriage) → brought X table k g x ≡ brought X table' k g x
  unfolding brought
  brought_same k h g x = ap (λ (m : ℕ). cond (hit X x.before) m (g (get_or x.before 0 0))) (alike k h)

  pub heard_same : (cs : List Carriage) (k : ℕ) → k + length cs ≤ c → (g : ℕ → ℕ) (r : ℕ) → heard X table k g cs r ≡ heard X table' k g cs r
  unfolding heard
  heard_same [] k h g r = refl
  heard_same (x ∷ xs) k h g r =
      let ih = heard_same xs (suc k) (omega arith) g r in
      let b = brought_same k (omega arith) g x in
      cases (eqb x.receiver r) (λ e. cc) (λ e. cc)

  module _ (cs : List Carriage) (k : ℕ) (fits : k + length cs ≤ c) where
    gather_same : (receivers : ℕ) (t : List ℕ) → gather X table k cs receivers t ≡ gather X table' k cs receivers t
    unfolding gather
    gather_same receivers t =
        values_ext _ _ (λ i below. ap (λ (l : List ℕ). cond (has receivers i) (common l) (held t i)) (heard_same cs k fits (held t) i))

    compare_same : (S : ℕ) (t : List ℕ) → compare X table k cs S t ≡ compare X table' k cs S t
    unfolding compare
    compare_same S t =
        values_ext _ _ (λ i below. ap (λ (l : List ℕ). cond (has S i && not (all (held t i) l)) 2 (held t i)) (heard_same cs k fits (held t) i))

    told_same : (F : ℕ) (v : List ℕ) → step6 X table k cs F v ≡ step6 X table' k cs F v
    unfolding step6
    told_same F v =
        values_ext _ _
        (λ i below. ap (λ (l : List ℕ). cond (has F i && ltb (common l) 2) (common l) (held v i)) (heard_same cs k fits (held v) i))

  pub block_alike : (n k : ℕ) (b : Block) (s : Values) → k + length (carriages_of b) ≤ c → run_block n X table k b s ≡ run_block n X table' k b s
  unfolding run_block
  block_alike n k b s fits =
      let l = carriages_long b in
      let F = b.faults in
      let A = b.side in
      let S = b.quorum in
      let sound = minus (full n) F in
      let inward = map carriage_of b.inward in
      let among = map carriage_of b.among in
      let outward = map carriage_of b.outward in
      let k3 = k + length inward in
      let k4 = k3 + length among in
      let k6 = k4 + length outward in
      let t2 = gather_same inward k (omega arith) (minus S A) (step1 A s.v s.t) in
      let t3 = compare_same among k3 (omega arith) S _ ∙ ap (compare X table' k3 among S) t2 in
      let t4 = gather_same outward k4 (omega arith) (minus sound S) _ ∙ ap (gather X table' k4 outward (minus sound S)) t3 in
      let v5 = ap (λ (t : List ℕ). step5 sound (meet A S) t s.v) t4 in
      let v6 = told_same (report_carriages b.reports) k6 (omega arith) F _ ∙ ap (step6 X table' k6 (report_carriages b.reports) F) v5 in
      λ i. record { v = v6 i; t = t4 i }

  pub blocks_alike : (n : ℕ) (bs : List Block) (k : ℕ) (s : Values) → k + length (plan_carriages bs) ≤ c
      → run_blocks n X table k bs s ≡ run_blocks n X table' k bs s
  unfolding run_blocks plan_carriages
  blocks_alike n [] k s fits = refl
  blocks_alike n (b ∷ bs) k s fits =
      let l = length-append (carriages_of b) (plan_carriages bs) in
      let next = k + length (carriages_of b) in
      blocks_alike n bs next (run_block n X table k b s) (omega arith)
      ∙ ap (run_blocks n X table' next bs) (block_alike n k b s (omega arith))

-- the network and the answer, as the call has them
written_alike : (card plan inputs : List ℕ) (X : ℕ) (table table' lent : List ℕ) (w : Network) → read_card card ≡ w
    → (blocks carriages : ℕ) → run_plan card plan inputs X lent ≡ totals blocks carriages
    → ((k : ℕ) → k < carriages → message table k ≡ message table' k) → written w plan inputs X table lent ≡ written w plan inputs X table' lent
unfolding written
written_alike card plan inputs X table table' lent (refused r) e blocks carriages q alike = refl
written_alike card plan inputs X table table' lent (network n f links) e blocks carriages q alike =
    let checked = (called card plan inputs X lent n f links e blocks carriages q).checked in
    let all = (totalled card plan n f links e blocks carriages checked).1 in
    let start : Values = record { v = values (held inputs); t = replicate 8 2 } in
    ap (λ (s : Values). decided n X s.v ++ drop n lent)
    (blocks_alike X carriages table table' alike n (decode_plan n f plan) 0 start (omega arith))

answer_alike : (answer : Totals) (new new' lent : List ℕ) → ((blocks carriages : ℕ) → answer ≡ totals blocks carriages → new ≡ new')
    → after_answer answer new lent ≡ after_answer answer new' lent
answer_alike (totals blocks carriages) new new' lent h = h blocks carriages refl
answer_alike (turned r) new new' lent h = refl

pub after_alike : (card plan inputs : List ℕ) (X : ℕ) (table table' lent : List ℕ)
    → ((k : ℕ) → k < carriages_in (run_plan card plan inputs X lent) → message table k ≡ message table' k)
    → lent_after card plan inputs X table lent ≡ lent_after card plan inputs X table' lent
unfolding lent_after
after_alike card plan inputs X table table' lent alike =
    answer_alike (run_plan card plan inputs X lent) _ _ lent
    (λ blocks carriages q. written_alike card plan inputs X table table' lent (read_card card) refl blocks carriages q (rw q at alike))

pub unheard : Unheard
unheard card plan inputs X table table' lent same =
    after_alike card plan inputs X table table' lent (message_same (carriages_in (run_plan card plan inputs X lent)) table table' same)
