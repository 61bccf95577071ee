-- The answer of a run: the card's refusal, the plan's, or that of the call; and demand 3 with it.
--     answer_card    a refused card
--     answer_plan    a refused plan
--     answer_ground  a refused call
--     answer_run     a call that is run
-- Assumes nothing.
use mathlib.Core.Path.{◌≡◌, refl, sym, ap, ◌∙◌}
use mathlib.Core.List.{List, ◌++◌}
use Prim.Native.Nat.{ℕ}
use lib.ListN.{drop, replicate}
use Rattle.std.specs.Prelude.{Result, Ok, Err}
use Rattle.refusal.specs.Refused.{refusal_of}
use Rattle.refusal.specs.declared.CallGround.{CallGround}
use Rattle.refusal.specs.declared.Refusal.{Refusal}
use Rattle.network.specs.Links.{Links}
use Rattle.network.specs.Card.{network, refused, read_card}
use Rattle.plan.specs.Check.{Totals, totals, turned, check_plan}
use Rattle.plan.specs.declared.check.Totals as Checked
use Rattle.plan.specs.Answers.{checked_of}
use Rattle.rules.specs.Blocks.{decode_blocks, decode_plan}
use Rattle.steps.specs.Steps.{Values, held, values, run_blocks}
use Rattle.steps.specs.Run.{check_call, run_on, run_plan, decided, written, lent_after}
use Rattle.run.specs.Answers.{Answered}
use Rattle.carriage.proofs.Accepting.{accepted_blocks}
use Rattle.steps.proofs.Decides.{demand}

module _ (card plan inputs : List ℕ) (X : ℕ) (table lent : List ℕ) where
  -- demand 3 holds of every answer that is the definition's
  answered : (r : Result Checked.Totals Refusal) (after : List ℕ) → checked_of r ≡ run_plan card plan inputs X lent → after ≡ lent_after card plan inputs X table lent
      → Answered card plan inputs X table lent r after
  answered r after a b =
      record {
        answer = a;
        bytes = b;
        agreed = λ n f links e blocks carriages q. rw b (demand card plan inputs X table lent n f links e blocks carriages (sym a ∙ q));
      }

  -- a run that is refused leaves the lent buffer as it was
  kept : (g : Refusal) → turned (refusal_of g) ≡ run_plan card plan inputs X lent → Answered card plan inputs X table lent (Err g) lent
  unfolding lent_after
  kept g e = answered (Err g) lent e (rw (← e) refl)

  pub answer_card : (g : Refusal) → refused (refusal_of g) ≡ read_card card → Answered card plan inputs X table lent (Err g) lent
  unfolding run_plan run_on
  answer_card g is = kept g (rw (← is) refl)

  module _ (n f : ℕ) (links : Links) (is : network n f links ≡ read_card card) where
    pub answer_plan : (g : Refusal) → turned (refusal_of g) ≡ check_plan card plan → Answered card plan inputs X table lent (Err g) lent
    unfolding run_plan run_on
    answer_plan g stop = kept g (rw (← is, ← stop) refl)

    module _ (blocks carriages : ℕ) (ok : totals blocks carriages ≡ check_plan card plan) where
      run_is : run_plan card plan inputs X lent ≡ check_call n f inputs X lent (totals blocks carriages)
      unfolding run_plan run_on
      run_is = rw (← is, ← ok) refl

      pub answer_ground : (g : CallGround) → ((answer : Totals) → turned (refusal_of (Refusal.Call g)) ≡ check_call n f inputs X lent answer) → Answered card plan inputs X table lent (Err (Refusal.Call g)) lent
      answer_ground g e = kept (Refusal.Call g) (e (totals blocks carriages) ∙ sym run_is)

      -- the lent buffer is what the run leaves
      pub answer_run : ((answer : Totals) → answer ≡ check_call n f inputs X lent answer)
          → (first last : Values) → first ≡ record { v = values (held inputs); t = replicate 8 2 } → last ≡ run_blocks n X table 0 (decode_blocks n f plan blocks) first
          → (after : List ℕ) → after ≡ decided n X last.v ++ drop n lent
          → (t : Checked.Totals) → t.blocks ≡ blocks → t.carriages ≡ carriages → Answered card plan inputs X table lent (Ok t) after
      unfolding lent_after written decode_plan
      answer_run e first last a b after w t x y =
          let (many, short, runs) = accepted_blocks card plan n f links (sym is) blocks carriages (sym ok) in
          let run : totals t.blocks t.carriages ≡ run_plan card plan inputs X lent = rw (x, y) (e (totals blocks carriages) ∙ sym run_is) in
          answered (Ok t) after run (rw (← run, ← is, ← many) (w ∙ ap (λ (z : Values). decided n X z.v ++ drop n lent) (b ∙ ap (run_blocks n X table 0 (decode_blocks n f plan blocks)) a)))
