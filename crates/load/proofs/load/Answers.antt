-- `load::load` meets its contract. The plan check's refusal is the answer's, and the counts of an accepted plan are its load (`Answering`). Assumes
-- nothing.
use Rattle.std.proofs.lemmas.Result.{err_from_is_err_and}
use Rattle.load.proofs.Answering.{answer_refused, answer_counted}
use Rattle.load.proofs.load.Goals as goal

-- the card or the plan is refused
pub returns-in_err-check_plan : goal.returns-in_err-check_plan
returns-in_err-check_plan c =
    let p = err_from_is_err_and c.from_residual.result c.from_residual.ensures.1 in
    rw (p.1, p.2) (answer_refused _ _ _ _ c.in_err-check_plan.ensures)

-- the plan is accepted
pub returns : goal.returns
returns c = answer_counted _ _ _ _ _ c.in_ok-check_plan.ensures _ c.count_relays-found.ensures
