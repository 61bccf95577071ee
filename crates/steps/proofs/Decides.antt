-- Demands 2 and 3 on the definitions: a call that is not refused decides as Algorithm BC with the plan's choices, so its sound servers agree on
-- some sound server's input.
--     bits_at      an input is a bit
--     called       what a call that is not refused has passed
--     decided_at   the byte of a sound server in the lent buffer
--     ends         what the blocks leave a server with is what Algorithm BC leaves it with
--     agreed       so all sound servers' bytes are some sound server's input: demand 3
--     as_bc        and the byte of each is what Algorithm BC leaves it with
-- Assumes nothing.
use mathlib.Core.Path.{◌≡◌, refl, ap, ◌∙◌}
use mathlib.Core.Bool.{Bool, true, false, cond, not, ◌&&◌}
use mathlib.Core.List.{List, [], ◌∷◌, ◌++◌}
use Prim.Native.Nat.{ℕ, zero, suc, ◌+◌, ◌^◌, ◌≤◌, ◌<◌}
use native.Mathlib.Omega.{arith}
use lib.Bits.{bit_and, and_le_r}
use lib.Dec.{eqb, ltb, leb}
use lib.ListN.{length, get_or, replicate, get_or-append}
use borrow.Author.Tests.{eqb-true, ltb-true, ltb-false, leb-true}
use Rattle.facts.proofs.Bools.{and_left, and_right}
use Rattle.refusal.specs.Refused.{Refused, call}
use Rattle.sets.specs.Sets.{Out, has, within, full, size, count}
use Rattle.sets.proofs.Members.{full_small}
use Rattle.sets.proofs.Counts.{size_count}
use Rattle.network.specs.Links.{Links}
use Rattle.network.specs.Card.{network, read_card}
use Rattle.network.proofs.Main.{card_proper}
use Rattle.plan.specs.Due.{due}
use Rattle.plan.specs.Check.{Totals, totals, turned, check_plan}
use Rattle.rules.specs.Blocks.{Block, decode_plan}
use Rattle.facts.specs.Lists.{Each}
use Rattle.rules.specs.Rules.{InOrder}
use Rattle.rules.proofs.Progress.{turned_totals}
use Rattle.rules.proofs.Main.{decodes}
use Rattle.steps.specs.Steps.{Values, held, values_from, values, run_blocks}
use Rattle.bc.specs.Algorithm.{bc}
use Rattle.bc.specs.Allowed.{Sound}
use Rattle.steps.specs.Choices.{choices_of}
use Rattle.steps.specs.Run.{are_bits, check_call, on_accepted, run_on, run_plan, decided, written, lent_after}
use Rattle.steps.specs.Demand.{DecidesAsBc, Agreed, Demand3}
use Rattle.steps.proofs.Eight.{value_at, values_long, values_at}
use Rattle.steps.proofs.Planned.{planned_sound, planned_covers}
use Rattle.steps.proofs.Folded.{run_same}
use Rattle.steps.proofs.Someone.{some_sound}
use Rattle.bc.proofs.Main.{validity, agreement}

-- an input is a bit
pub bits_at : (l : List ℕ) → are_bits l ≡ true → (j : ℕ) → get_or l j 0 < 2
unfolding are_bits
bits_at [] e j = omega arith
bits_at (b ∷ bs) e zero = ltb-true b 2 (and_left (ltb b 2) (are_bits bs) e)
bits_at (b ∷ bs) e (suc j) = bits_at bs (and_right (ltb b 2) (are_bits bs) e) j

-- what a call that is not refused has passed
pub record Called (card plan inputs : List ℕ) (X : ℕ) (lent : List ℕ) (n f blocks carriages : ℕ) : Type 0 where
  pub checked : check_plan card plan ≡ totals blocks carriages
  pub whole : length inputs ≡ n
  pub bits : are_bits inputs ≡ true
  pub inside : within X (full n) ≡ true
  pub few : size X ≤ f
  pub room : n ≤ length lent

test : (b : Bool) (r : Refused) (x : Totals) (k c : ℕ) → cond (not b) (turned r) x ≡ totals k c → (b ≡ true) × (x ≡ totals k c)
test true r x k c e = (refl, e)
test false r x k c e = turned_totals r k c e

test_not : (b : Bool) (r : Refused) (x : Totals) (k c : ℕ) → cond b (turned r) x ≡ totals k c → (b ≡ false) × (x ≡ totals k c)
test_not true r x k c e = turned_totals r k c e
test_not false r x k c e = (refl, e)

accepted : (t : Totals) (n f : ℕ) (inputs : List ℕ) (X : ℕ) (lent : List ℕ) (k c : ℕ) → on_accepted n f inputs X lent t ≡ totals k c
    → (b d : ℕ) × (t ≡ totals b d) × (check_call n f inputs X lent t ≡ totals k c)
accepted (totals b d) n f inputs X lent k c e = (b, d, refl, e)
accepted (turned r) n f inputs X lent k c e = turned_totals r k c e

pub called : (card plan inputs : List ℕ) (X : ℕ) (lent : List ℕ) (n f : ℕ) (links : Links) → read_card card ≡ network n f links
    → (k c : ℕ) → run_plan card plan inputs X lent ≡ totals k c → Called card plan inputs X lent n f k c
unfolding run_plan run_on check_call
called card plan inputs X lent n f links e k c q =
    let q' = rw e at q in
    let (b, d, x, y) = accepted (check_plan card plan) n f inputs X lent k c q' in
    let (i, y1) = test (eqb (length inputs) n && are_bits inputs) (call 12) _ k c y in
    let (j, y2) = test (within X (full n) && leb (size X) f) (call 13) _ k c y1 in
    let (l, y3) = test_not (ltb (length lent) n) (call 14) _ k c y2 in
    record {
      checked = y3;
      whole = eqb-true (length inputs) n (and_left (eqb (length inputs) n) (are_bits inputs) i);
      bits = and_right (eqb (length inputs) n) (are_bits inputs) i;
      inside = and_left (within X (full n)) (leb (size X) f) j;
      few = leb-true (size X) f (and_right (within X (full n)) (leb (size X) f) j);
      room = ltb-false (length lent) n l;
    }

-- the byte of a sound server in the lent buffer
pub decided_at : (n X : ℕ) (v rest : List ℕ) (i : ℕ) → i < n → Out (has X) i → get_or (decided n X v ++ rest) i 0 ≡ held v i
unfolding decided
decided_at n X v rest i h o =
    let l = values_long n 0 (λ (j : ℕ). cond (has X j) 2 (held v j)) in
    let z : 0 + i ≡ i = omega arith in
    get_or-append (values_from n 0 (λ (j : ℕ). cond (has X j) 2 (held v j))) rest 0 i (omega arith)
    ∙ value_at n 0 (λ (j : ℕ). cond (has X j) 2 (held v j)) i h
    ∙ ap (λ (j : ℕ). cond (has X j) 2 (held v j)) z
    ∙ ap (λ (b : Bool). cond b 2 (held v i)) o

small : (n X : ℕ) → within X (full n) ≡ true → X < 2 ^ n
unfolding within
small n X e = let a = eqb-true (bit_and X (full n)) X e in let b = and_le_r X (full n) in let c = full_small n in omega arith

module _ (card plan inputs : List ℕ) (X : ℕ) (table lent : List ℕ) (n f : ℕ) (links : Links) (e : read_card card ≡ network n f links)
    (blocks carriages : ℕ) (q : run_plan card plan inputs X lent ≡ totals blocks carriages) where
  passed : Called card plan inputs X lent n f blocks carriages
  passed = called card plan inputs X lent n f links e blocks carriages q

  few : n ≤ 8
  few = (card_proper card n f links e).most

  abbrev bs : List Block
  bs = decode_plan n f plan

  order : InOrder n f links (due n f) bs
  order = (decodes card plan n f links e (blocks, carriages, passed.checked)).0

  sound : Each (Sound n f) (choices_of table 0 bs)
  sound = planned_sound n f links bs few order table 0

  bits : (i : ℕ) → i < n → held inputs i < 2
  bits i h = bits_at inputs passed.bits i

  abbrev start : Values
  start = record { v = values (held inputs); t = replicate 8 2 }

  -- what the blocks leave a server with is what Algorithm BC leaves it with
  ends : (i : ℕ) → i < n → held (run_blocks n X table 0 bs start).v i ≡ bc n (has X) (choices_of table 0 bs) (held inputs) i
  ends i h =
      let first : (j : ℕ) → j < n → held (values (held inputs)) j ≡ held inputs j = λ j k. values_at (held inputs) j (let m = few in omega arith) in
      run_same n f links (due n f) bs few order X table 0 sound start (held inputs) first bits i h

  -- so all sound servers end with some sound server's input
  pub agreed : Agreed n X inputs (lent_after card plan inputs X table lent)
  unfolding lent_after written
  agreed =
      let below = small n X passed.inside in
      let sized = size_count n X few below in
      let faulty : count n (has X) ≤ f = rw (← sized) passed.few in
      let (s, l, o) = some_sound n f X links bs (card_proper card n f links e).least few order faulty in
      let (w, lw, ow, ew) = validity n f (has X) faulty (choices_of table 0 bs) sound (held inputs) (λ i h u. bits i h) s l o in
      let (pre, mid, post, cut, cover) = planned_covers n f X links bs few order below passed.few table 0 in
      let alike : (i : ℕ) → i < n → Out (has X) i → bc n (has X) (choices_of table 0 bs) (held inputs) i ≡ bc n (has X) (choices_of table 0 bs) (held inputs) s =
      λ i h u. rw cut (agreement n f (has X) faulty pre mid post (rw cut at sound) cover (held inputs) (λ j k t. bits j k) i s h u l o) in
      record {
        bit = held inputs w;
        small = bits w lw;
        server = w;
        among = lw;
        sound = ow;
        input = refl;
        decided = λ i h u. rw (q, e) (decided_at n X (run_blocks n X table 0 bs start).v _ i h u ∙ ends i h ∙ alike i h u ∙ ew);
      }

  -- and the byte of each is what Algorithm BC leaves it with
  pub as_bc : (i : ℕ) → i < n → Out (has X) i → get_or (lent_after card plan inputs X table lent) i 0 ≡ bc n (has X) (choices_of table 0 bs) (held inputs) i
  unfolding lent_after written
  as_bc i h u = rw (q, e) (decided_at n X (run_blocks n X table 0 bs start).v _ i h u ∙ ends i h)

pub decides : DecidesAsBc
decides card plan inputs X table lent n f links e blocks carriages q i h u = as_bc card plan inputs X table lent n f links e blocks carriages q i h u

pub demand : Demand3
demand card plan inputs X table lent n f links e blocks carriages q = agreed card plan inputs X table lent n f links e blocks carriages q
