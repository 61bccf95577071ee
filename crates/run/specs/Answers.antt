-- What the code's answers stand for.
--     call_of r answer   == the answer of a call that passes with this answer, or is refused by the ground r
--     Answered ..       <-> the run's answer and the buffer after it are those of the definition, and demand 3 holds
use Rattle.std.specs.Prelude.{◌≡◌, List, ℕ, Result, Ok, Err}
use Rattle.refusal.specs.declared.CallGround.{CallGround}
use Rattle.refusal.specs.declared.Refusal.{Refusal}
use Rattle.refusal.specs.Refused.{refusal_of}
use Rattle.network.specs.Links.{Links}
use Rattle.network.specs.Card.{network, read_card}
use Rattle.plan.specs.Check.{Totals, totals, turned}
use Rattle.plan.specs.declared.check.Totals as Checked
use Rattle.plan.specs.Answers.{checked_of}
use Rattle.steps.specs.Steps
use Rattle.run.specs.Speaking.{bits_of, works_of}
use Rattle.steps.specs.Run.{run_plan, lent_after}
use Rattle.steps.specs.Demand.{Agreed}
use Rattle.run.specs.declared.values.Values as Code

abbrev pub values_of : Code.Values → Steps.Values
values_of s = record { v = bits_of s.v; t = works_of s.sure s.t }

abbrev pub call_of : Result (Unit {0}) CallGround → Totals → Totals
call_of (Ok x) answer = answer
call_of (Err g) answer = turned (refusal_of (Refusal.Call g))

-- the run's answer r, with the buffer lent and handed back; `agreed` is demand 3
pub record Answered (card plan inputs : List ℕ) (X : ℕ) (table lent : List ℕ) (r : Result Checked.Totals Refusal) (after : List ℕ) : Type 0 where
  pub answer : checked_of r ≡ run_plan card plan inputs X lent
  pub bytes : after ≡ lent_after card plan inputs X table lent
  pub agreed : (n f : ℕ) (links : Links) → read_card card ≡ network n f links → (blocks carriages : ℕ) → checked_of r ≡ totals blocks carriages → Agreed n X inputs after
