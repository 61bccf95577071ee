-- The refusals as the table of docs/FORMATS.md has them: what is at fault, the number, and for a card or a plan the place.
--     Refused      == a line of the table with its values
--     refusal_of r  == the line that the code's refusal r stands for
use Rattle.std.specs.Prelude.{ℕ}
use Rattle.refusal.specs.declared.Refusal.{Refusal}
use Rattle.refusal.specs.declared.Refusal.TheVariants.{Card, Plan, Call}
use Rattle.refusal.specs.declared.CardGround.{CardGround}
use Rattle.refusal.specs.declared.PlanGround.{PlanGround}
use Rattle.refusal.specs.declared.CallGround.{CallGround}

pub data Refused : Type 0 where
  card plan : (number place : ℕ) → Refused
  call : (number : ℕ) → Refused

abbrev pub card_refusal : CardGround → Refused
card_refusal CardGround.TooLong = card 1 0
card_refusal (CardGround.Cut at) = card 2 at
card_refusal (CardGround.Trailing at) = card 3 at
card_refusal (CardGround.Head at) = card 4 at
card_refusal (CardGround.Range at) = card 5 at

abbrev pub plan_refusal : PlanGround → Refused
plan_refusal PlanGround.TooLong = plan 1 0
plan_refusal (PlanGround.Cut at) = plan 2 at
plan_refusal (PlanGround.Trailing at) = plan 3 at
plan_refusal (PlanGround.NotDue at) = plan 7 at
plan_refusal (PlanGround.Quorum at) = plan 8 at
plan_refusal (PlanGround.Route at) = plan 9 at
plan_refusal (PlanGround.Shared at) = plan 10 at
plan_refusal (PlanGround.Reporters at) = plan 11 at

abbrev pub call_refusal : CallGround → Refused
call_refusal CallGround.Inputs = call 12
call_refusal CallGround.FaultSet = call 13
call_refusal CallGround.Buffer = call 14
call_refusal CallGround.OneWay = call 15
call_refusal CallGround.OutOfTurn = call 16
call_refusal CallGround.BadSplit = call 17
call_refusal CallGround.PlanBuffer = call 18

abbrev pub refusal_of : Refusal → Refused
refusal_of (Card g) = card_refusal g
refusal_of (Plan g) = plan_refusal g
refusal_of (Call g) = call_refusal g

-- 0 for the card, 1 for the plan, 2 for the call
abbrev pub whose_of : Refused → ℕ
whose_of (card number place) = 0
whose_of (plan number place) = 1
whose_of (call number) = 2

abbrev pub number_of : Refused → ℕ
number_of (card number place) = number
number_of (plan number place) = number
number_of (call number) = number

-- a call's refusal has no place: 0 stands for it
abbrev pub place_of : Refused → ℕ
place_of (card number place) = place
place_of (plan number place) = place
place_of (call number) = 0
