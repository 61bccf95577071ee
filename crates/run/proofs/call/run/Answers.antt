-- `run::call::run` meets its contract. The card's refusal comes first, then the plan's, then the call's; what it answers is the definition's, so
-- demand 3 holds of it. Each answer is one lemma of `Answering`. Assumes nothing.
use mathlib.Core.Path.{refl}
use Rattle.std.proofs.lemmas.Result.{err_from_is_err_and}
use Rattle.carriage.proofs.Accepting.{accepted_whole}
use Rattle.run.proofs.Answering.{answer_card, answer_plan, answer_ground, answer_run}
use Rattle.run.proofs.call.run.Goals as goal

-- the card is refused
pub returns-in_err-network : goal.returns-in_err-network
returns-in_err-network c =
    let p = err_from_is_err_and c.from_residual.result c.from_residual.ensures.1 in
    rw (p.1, p.2) (answer_card _ _ _ _ _ _ _ c.in_err-network.ensures)

-- the plan is refused
pub returns-in_err-totals : goal.returns-in_err-totals
returns-in_err-totals c =
    let p = err_from_is_err_and c.from_residual-in_err-totals.result c.from_residual-in_err-totals.ensures.1 in
    rw (p.1, p.2) (answer_plan _ _ _ _ _ _ _ _ _ c.in_ok-network.ensures _ c.in_err-totals.ensures)

-- the call is refused
pub returns-in_err-check_call : goal.returns-in_err-check_call
returns-in_err-check_call c =
    let p = err_from_is_err_and c.from_residual-in_err-check_call.result c.from_residual-in_err-check_call.ensures.1 in
    rw (p.1, p.2) (answer_ground _ _ _ _ _ _ _ _ _ c.in_ok-network.ensures _ _ c.in_ok-totals.ensures _ c.in_err-check_call.ensures.ground)

-- what is known of an accepted plan
pub invariant_of-blocks : goal.invariant_of-blocks
invariant_of-blocks c = record { whole = accepted_whole c.args.card.now _ _ _ _ c.in_ok-network.ensures _ _ c.in_ok-totals.ensures }

-- the plan is accepted, and the call is answered
pub returns : goal.returns
returns c =
    let first = c.first_values.ensures in
    answer_run _ _ _ _ _ _ _ _ _ c.in_ok-network.ensures _ _ c.in_ok-totals.ensures c.in_ok-check_call.ensures.ground _ _ (λ i. record { v = first.0 i; t = first.1 i }) c.run_blocks-last.ensures _ c.write.ensures _ refl refl
