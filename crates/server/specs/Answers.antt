-- What the code's answers stand for.
--     value_of s            == what a server sends on each of its carriages in the state s; at the end its bit
--     site_is r             == card and plan as the code has checked them
--     refused_by r          == a call's answer that is refused by a ground of the call alone, as the call's refusal
--     started_of r          == the code's answer of start
--     Stepping before d r after   <-> the code's answer r of commit is the definition's answer d, with the state after; refused, the state is as it was before
--     Asking before d r after ..  <-> the same for ask, with the number of values and the lent bytes after; refused, they are as they were too
use Rattle.std.specs.Prelude.{◌≡◌, List, ℕ, length, Result, Ok, Err}
use Rattle.refusal.specs.declared.Refusal.{Refusal}
use Rattle.refusal.specs.declared.CallGround.{CallGround}
use Rattle.refusal.specs.Refused.{Refused, refusal_of}
use Rattle.part.specs.Own.{sent}
use Rattle.part.specs.State.{State}
use Rattle.part.specs.Calls.{Site, site, closed, Stepped, Asked, start_on, state_after, state_asked, values_in, lent_after_ask}
use Rattle.own.specs.declared.state.State as CodeState
use Rattle.own.specs.States.{state_of}
use Rattle.carriage.specs.declared.ready_blocks.Blocks.{Blocks}

abbrev pub site_is : Result Blocks Refusal → Site
site_is (Ok w) = site w.n w.f w.left
site_is (Err r) = closed (refusal_of r)

unfoldable pub value_of : State → ℕ
value_of s = sent s.kind s.v s.t

abbrev pub refused_by : {A : Type 0} → Result A CallGround → Result A Refusal
refused_by (Ok x) = Ok x
refused_by (Err g) = Err (Refusal.Call g)

-- answered, or refused
pub data Verdict : Type 0 where
  done : Verdict
  refused : Refused → Verdict

abbrev pub verdict_of : {A : Type 0} → Result A Refusal → Verdict
verdict_of (Ok x) = done
verdict_of (Err r) = refused (refusal_of r)

abbrev pub stepped_verdict : Stepped → Verdict
stepped_verdict (Stepped.at s) = done
stepped_verdict (Stepped.held r) = refused r

abbrev pub asked_verdict : Asked → Verdict
asked_verdict (Asked.sends s values) = done
asked_verdict (Asked.held r) = refused r

abbrev pub started_of : Result CodeState.State Refusal → Stepped
started_of (Ok s) = Stepped.at (state_of s)
started_of (Err r) = Stepped.held (refusal_of r)

-- how many values were laid into the lent buffer
abbrev pub counted_of : Result ℕ Refusal → ℕ
counted_of (Ok k) = k
counted_of (Err r) = 0

pub record Stepping (before : State) (d : Stepped) (r : Result (Unit {0}) Refusal) (after : State) : Type 0 where
  pub verdict : verdict_of r ≡ stepped_verdict d
  pub state : after ≡ state_after before d

pub record Asking (before : State) (d : Asked) (r : Result ℕ Refusal) (after : State) (lent lent' : List ℕ) : Type 0 where
  pub verdict : verdict_of r ≡ asked_verdict d
  pub state : after ≡ state_asked before d
  pub values : counted_of r ≡ length (values_in d)
  pub bytes : lent' ≡ lent_after_ask d lent

-- a start asks of card and plan only that they are accepted, and how many servers there are
pub record Starting (n server input : ℕ) (r : Result CodeState.State Refusal) : Type 0 where
  pub on : (f blocks : ℕ) → started_of r ≡ start_on (site n f blocks) server input
