-- `server::turn::start` meets its contract: the card's refusal, the plan's, or the call's own answer. Assumes nothing.
use Rattle.std.proofs.lemmas.Result.{err_from_is_err_and}
use Rattle.server.proofs.Turning.{open_start, closed_start}
use Rattle.server.proofs.turn.start.Goals as goal

pub returns-in_err-blocks : goal.returns-in_err-blocks
returns-in_err-blocks c =
    let p = err_from_is_err_and c.from_residual.result c.from_residual.ensures.1 in
    rw (p.1, p.2) (closed_start _ _ _ c.in_err-blocks.ensures.site _ _)

pub returns-in_err-state : goal.returns-in_err-state
returns-in_err-state c =
    let p = err_from_is_err_and c.from_residual-in_err-state.result c.from_residual-in_err-state.ensures.1 in
    rw (p.1, p.2) (open_start _ _ _ _ _ c.in_ok-blocks.ensures.site _ _ _ c.in_err-state.ensures)

pub returns : goal.returns
returns c = open_start _ _ _ _ _ c.in_ok-blocks.ensures.site _ _ _ c.in_ok-state.ensures
