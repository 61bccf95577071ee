-- What servers stepped side by side show at the end: each the v that the run leaves it with, so a sound server its byte in the lent buffer of the run.
--     decides         the ask at the end
--     byte_is         the byte of a sound server after a run that is answered
--     shows_the_run   so that is what it shows; demand: and demand 3 of the run holds of what the servers show
-- Assumes nothing.
use mathlib.Core.Path.{◌≡◌, sym, ap, ◌∙◌}
use mathlib.Core.List.{List, [], ◌∷◌}
use Prim.Native.Nat.{ℕ, ◌+◌, ◌<◌}
use native.Mathlib.Omega.{arith}
use lib.ListN.{get_or}
use Rattle.sets.specs.Sets.{Out, has}
use Rattle.network.specs.Links.{Links}
use Rattle.network.specs.Card.{network, read_card}
use Rattle.plan.specs.Check.{totals}
use Rattle.rules.specs.Blocks.{decode_plan}
use Rattle.steps.specs.Steps.{Values, held, run_blocks}
use Rattle.steps.specs.Run.{run_plan, written, lent_after}
use Rattle.steps.proofs.Eight.{value_at}
use Rattle.steps.proofs.Decides.{called, decided_at}
use Rattle.steps.proofs.Main as Run
use Rattle.part.specs.State.{State}
use Rattle.part.specs.Calls.{Asked, ask_call, values_in}
use Rattle.part.specs.Beside.{turns, shown_beside, run_over}
use Rattle.part.specs.Theorems.{start_values, ending, Decides, ShowsTheRun, Demand3}
use Rattle.part.proofs.Turned.{turned}
use Rattle.part.proofs.Committed.{own_of}
use Rattle.part.proofs.Answers.{ends}
use Rattle.part.proofs.Followed.{is_site, end_stands}

pub decides : Decides
decides card plan inputs X table n f links e (blocks, carriages, checked) long bits i h lent room =
    let all = end_stands card plan inputs X table n f links e blocks carriages checked bits in
    let run = run_over n X table (turns 0 (decode_plan n f plan)) (start_values inputs) in
    let is = all.each i h in
    let v = ap (λ (s : Values). held s.v i) (turned n X table 0 (decode_plan n f plan) (start_values inputs)) in
    ap (λ (s : State). ask_call card plan i s lent) is
    ∙ ends card plan n f blocks (is_site card plan inputs X table n f links e blocks carriages checked bits) i h (own_of run i) lent (all.small i h) room
    ∙ ap (λ (s : State). Asked.sends s (held run.v i ∷ [])) (sym is)
    ∙ ap (λ (x : ℕ). Asked.sends (ending card plan inputs X table n f i) (x ∷ [])) v

byte_is : (card plan inputs : List ℕ) (X : ℕ) (table lent : List ℕ) (n f : ℕ) (links : Links) → read_card card ≡ network n f links
    → (blocks carriages : ℕ) → run_plan card plan inputs X lent ≡ totals blocks carriages → (i : ℕ) → i < n → Out (has X) i
    → get_or (lent_after card plan inputs X table lent) i 0 ≡ held (run_blocks n X table 0 (decode_plan n f plan) (start_values inputs)).v i
unfolding lent_after written
byte_is card plan inputs X table lent n f links e blocks carriages q i h sound =
    rw (q, e) (decided_at n X (run_blocks n X table 0 (decode_plan n f plan) (start_values inputs)).v _ i h sound)

pub shows_the_run : ShowsTheRun
unfolding shown_beside
shows_the_run card plan inputs X table lent n f links e blocks carriages q i h sound =
    let c = called card plan inputs X lent n f links e blocks carriages q in
    let asked = decides card plan inputs X table n f links e (blocks, carriages, c.checked) c.whole c.bits i h (0 ∷ []) (omega arith) in
    ap values_in asked ∙ ap (λ (x : ℕ). x ∷ []) (sym (byte_is card plan inputs X table lent n f links e blocks carriages q i h sound))

pub demand : Demand3
demand card plan inputs X table lent n f links e blocks carriages q =
    let a = Run.demand card plan inputs X table lent n f links e blocks carriages q in
    let shown : ℕ → ℕ = λ i. get_or (shown_beside n f card plan inputs X table i) 0 2 in
    record {
      bit = a.bit;
      small = a.small;
      server = a.server;
      among = a.among;
      sound = a.sound;
      input = a.input;
      decided = λ i h sound.
          let here : 0 + i ≡ i = omega arith in
          value_at n 0 shown i h ∙ ap shown here
          ∙ ap (λ (l : List ℕ). get_or l 0 2) (shows_the_run card plan inputs X table lent n f links e blocks carriages q i h sound)
          ∙ a.decided i h sound;
    }
