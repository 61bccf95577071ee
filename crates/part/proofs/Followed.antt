-- Servers stepped side by side go through the turns together, each with the run's v and t. `Standing` says where all of them are: at one kind of one
-- block, with no ask open. `turn_stands` is one turn: no ask and no commit is refused, and each commit gives the run's values. The rest is induction on
-- the turns.
--     answer_is      what each server's ask in a turn answers; turn_is: where its commit leaves it
--     turn_stands    so one turn leads all servers from its kind to the next
--     some_stand     after any number of turns each server follows the run
--     all_stand      after all of them each is at the end
--     begin_stand    all start at the first kind of block 0, with the values that a run starts with
--     end_stands     so all are at the end, with the values of the run
--     step_by_step   the statement
-- Assumes nothing.
use mathlib.Core.Path.{◌≡◌, sym, ap, ap₂, ◌∙◌, subst}
use mathlib.Core.Bool.{true}
use mathlib.Core.List.{List, [], ◌∷◌}
use Prim.Native.Nat.{ℕ, zero, suc, ◌≤◌, ◌<◌}
use native.Mathlib.Omega.{arith}
use lib.ListN.{length, take, replicate, length-replicate, get_or-replicate, drop}
use Rattle.network.specs.Links.{Links}
use Rattle.network.specs.Card.{network, read_card}
use Rattle.network.proofs.Main.{card_proper}
use Rattle.plan.specs.Check.{totals, check_plan}
use Rattle.rules.specs.Blocks.{Block, Carriage, decode_plan}
use Rattle.steps.specs.Steps.{Values, held, values}
use Rattle.steps.specs.Run.{are_bits}
use Rattle.steps.proofs.Eight.{values_at}
use Rattle.steps.proofs.Decides.{bits_at}
use Rattle.part.specs.Own.{carriages_of, given, committed}
use Rattle.part.specs.State.{State, first, opened}
use Rattle.part.specs.Calls.{site, site_of, block_of, Asked, ask_call, commit_call, state_after, state_asked, values_in}
use Rattle.part.specs.Beside.{Turn, turns, delivered, States, beside_turn, beside_over, start_beside, run_turn, run_over}
use Rattle.part.specs.Theorems.{start_values, Follows, StepByStep, StandsAt}
use Rattle.part.proofs.Delivered.{given_long}
use Rattle.part.proofs.Committed.{Small, committed_small, own_of, SmallBelow, sent_by}
use Rattle.part.proofs.Answers.{standing, block_after, kind_after, site_is_lem, starts, asks, commits}
use Rattle.part.proofs.Turns.{Due, Chained, plan_chained}

-- X is the faulty set, `blocks` the number of the plan's blocks
module _ (card plan : List ℕ) (n f blocks : ℕ) (is : site_of card plan ≡ site n f blocks) (X : ℕ) (table : List ℕ) where
  -- every server below n is at that kind of block j, with the run's values, which are v at most 1 and t at most 2
  pub record Standing (j kind : ℕ) (run : Values) (states : States) : Type 0 where
    pub each : (i : ℕ) → i < n → states i ≡ standing j kind (own_of run i)
    pub small : SmallBelow n run

  module _ (j kind : ℕ) (turn : Turn) (due : Due n f plan blocks X table j kind turn) (run : Values) (states : States) (all : Standing j kind run states) where
    abbrev carried : List Carriage
    carried = carriages_of turn.kind turn.block

    abbrev answer : ℕ → Asked
    answer i = ask_call card plan i (states i) (replicate (length carried) 0)

    -- the room that it lends is enough
    answer_is : (i : ℕ) → i < n → answer i ≡ Asked.sends (opened (standing j kind (own_of run i))) (given (sent_by turn.kind run i) i carried)
    answer_is i h =
        let o = own_of run i in
        let same : (A : Type 0) (g : ℕ → Block → A) → g kind (block_of n f plan j) ≡ g turn.kind turn.block = λ A g. ap₂ g (sym due.same) (sym due.block) in
        let long = given_long (sent_by kind run i) i (carriages_of kind (block_of n f plan j)) in
        let many = same ℕ (λ (k : ℕ) (b : Block). length (carriages_of k b)) in
        let lent = length-replicate {A = ℕ} (length carried) 0 in
        ap (λ (s : State). ask_call card plan i s (replicate (length carried) 0)) (all.each i h)
        ∙ asks card plan n f blocks is i h j kind o (replicate (length carried) 0) due.inside due.is (all.small i h) (omega arith)
        ∙ same Asked (λ (k : ℕ) (b : Block). Asked.sends (opened (standing j kind o)) (given (sent_by k run i) i (carriages_of k b)))

    abbrev arrived : ℕ → List ℕ
    arrived i = delivered X table turn.number (λ (j : ℕ). values_in (answer j)) carried i

    -- every row is as its source gives it, so the commit gives the run's values
    stepped : (i : ℕ) → i < n → committed n turn.kind turn.block i (arrived i) (own_of run i) ≡ own_of (run_turn n X table turn run) i
    stepped i h = due.steps run all.small (λ (j : ℕ). values_in (answer j)) (λ j l. ap values_in (answer_is j l)) i h

    turn_is : (i : ℕ) → i < n
        → beside_turn card plan X table turn states i ≡ standing (block_after j kind) (kind_after blocks j kind) (own_of (run_turn n X table turn run) i)
    unfolding beside_turn
    turn_is i h =
        let waiting = opened (standing j kind (own_of run i)) in
        ap (λ (w : State). state_after w (commit_call card plan i w (arrived i))) (ap (state_asked (states i)) (answer_is i h))
        ∙ ap (state_after waiting) (commits card plan n f blocks is i h j kind (own_of run i) (arrived i) due.inside due.is (all.small i h))
        ∙ ap (standing (block_after j kind) (kind_after blocks j kind))
        (ap₂ (λ (k : ℕ) (b : Block). committed n k b i (arrived i) (own_of run i)) (sym due.same) (sym due.block) ∙ stepped i h)

    turn_stands : Standing (block_after j kind) (kind_after blocks j kind) (run_turn n X table turn run) (beside_turn card plan X table turn states)
    turn_stands =
        record {
          each = turn_is;
          small = λ i h. subst Small (stepped i h) (committed_small n turn.kind turn.block i (arrived i) (own_of run i) (all.small i h));
        }

  place_is : (j kind : ℕ) (later : List Turn) → Chained n f plan blocks X table j kind later → (s : State) → s.block ≡ j → s.kind ≡ kind → StandsAt n f plan s later
  place_is j kind [] (last, end) s a b = b ∙ end
  place_is j kind (turn ∷ later) (due, c) s a b = (b ∙ sym due.same, ap (block_of n f plan) a ∙ sym due.block)

  follows : (j kind : ℕ) (later : List Turn) → Chained n f plan blocks X table j kind later → (run : Values) (states : States) → Standing j kind run states
      → (i : ℕ) → i < n → Follows n f plan (states i) i run later
  follows j kind later c run states all i h =
      let e = all.each i h in
      record {
        v = ap (λ (s : State). s.v) e;
        t = ap (λ (s : State). s.t) e;
        none = ap (λ (s : State). s.asked) e;
        place = place_is j kind later c (states i) (ap (λ (s : State). s.block) e) (ap (λ (s : State). s.kind) e);
      }

  some_stand : (m : ℕ) (later : List Turn) (j kind : ℕ) → Chained n f plan blocks X table j kind later
      → (run : Values) (states : States) → Standing j kind run states
      → (i : ℕ) → i < n → Follows n f plan (beside_over card plan X table (take m later) states i) i (run_over n X table (take m later) run) (drop m later)
  unfolding beside_over run_over
  some_stand zero later j kind c run states all i h = follows j kind later c run states all i h
  some_stand (suc m) [] j kind c run states all i h = follows j kind [] c run states all i h
  some_stand (suc m) (turn ∷ later) j kind (due, c) run states all i h =
      some_stand m later (block_after j kind) (kind_after blocks j kind) c (run_turn n X table turn run) (beside_turn card plan X table turn states)
      (turn_stands j kind turn due run states all) i h

  all_stand : (later : List Turn) (j kind : ℕ) → Chained n f plan blocks X table j kind later
      → (run : Values) (states : States) → Standing j kind run states
      → Standing blocks 0x15 (run_over n X table later run) (beside_over card plan X table later states)
  unfolding beside_over run_over
  all_stand [] j kind (last, end) run states all =
      record { each = λ i h. all.each i h ∙ ap₂ (λ (j kind : ℕ). standing j kind (own_of run i)) last end; small = all.small }
  all_stand (turn ∷ later) j kind (due, c) run states all =
      all_stand later (block_after j kind) (kind_after blocks j kind) c (run_turn n X table turn run) (beside_turn card plan X table turn states)
      (turn_stands j kind turn due run states all)

  begin_stand : n ≤ 8 → (inputs : List ℕ) → are_bits inputs ≡ true → Standing 0 0x11 (start_values inputs) (start_beside card plan inputs)
  unfolding start_beside first
  begin_stand few inputs bits =
      let v : (i : ℕ) → i < n → held (values (held inputs)) i ≡ held inputs i = λ i h. values_at (held inputs) i (omega arith) in
      let t : (i : ℕ) → i < n → held (replicate 8 2) i ≡ 2 = λ i h. get_or-replicate 8 i 2 0 (omega arith) in
      record {
        each = λ i h. ap (state_after (first 0)) (starts card plan n f blocks is i h (held inputs i) (bits_at inputs bits i))
            ∙ ap₂ (λ (x y : ℕ). record { block = 0; kind = 0x11; v = x; t = y; asked = 0 }) (sym (v i h)) (sym (t i h));
        small = λ i h. (rw (v i h) (bits_at inputs bits i), rw (t i h) (omega arith));
      }

-- an accepted plan and inputs of 0 and 1
module _ (card plan inputs : List ℕ) (X : ℕ) (table : List ℕ) (n f : ℕ) (links : Links) (e : read_card card ≡ network n f links)
    (blocks carriages : ℕ) (checked : check_plan card plan ≡ totals blocks carriages) (bits : are_bits inputs ≡ true) where
  abbrev whole : List Turn
  whole = turns 0 (decode_plan n f plan)

  pub is_site : site_of card plan ≡ site n f blocks
  is_site = site_is_lem card plan n f links e blocks carriages checked

  chained : Chained n f plan blocks X table 0 0x11 whole
  chained = plan_chained n f plan blocks X table card links e carriages checked

  begun : Standing card plan n f blocks is_site X table 0 0x11 (start_values inputs) (start_beside card plan inputs)
  begun = begin_stand card plan n f blocks is_site X table (card_proper card n f links e).most inputs bits

  pub followed : (m i : ℕ) → i < n
      → Follows n f plan (beside_over card plan X table (take m whole) (start_beside card plan inputs) i) i (run_over n X table (take m whole) (start_values inputs))
      (drop m whole)
  followed m i h = some_stand card plan n f blocks is_site X table m whole 0 0x11 chained (start_values inputs) (start_beside card plan inputs) begun i h

  pub end_stands : Standing card plan n f blocks is_site X table blocks 0x15 (run_over n X table whole (start_values inputs))
      (beside_over card plan X table whole (start_beside card plan inputs))
  end_stands = all_stand card plan n f blocks is_site X table whole 0 0x11 chained (start_values inputs) (start_beside card plan inputs) begun

pub step_by_step : StepByStep
step_by_step card plan inputs X table n f links e (blocks, carriages, checked) long bits m i h =
    followed card plan inputs X table n f links e blocks carriages checked bits m i h
