-- `server::turn::ask` meets its contract: the card's refusal, the plan's, or the call's own answer. Assumes nothing.
use Rattle.std.proofs.lemmas.Result.{err_from_is_err_and}
use Rattle.server.proofs.Turning.{open_ask, closed_ask}
use Rattle.server.proofs.turn.ask.Goals as goal

pub returns-in_err-blocks : goal.returns-in_err-blocks
returns-in_err-blocks c =
    let p = err_from_is_err_and c.from_residual.result c.from_residual.ensures.1 in
    rw (p.1, p.2) (closed_ask _ _ _ c.in_err-blocks.ensures.site _ _ _)

pub returns-in_err-count : goal.returns-in_err-count
returns-in_err-count c =
    let p = err_from_is_err_and c.from_residual-in_err-count.result c.from_residual-in_err-count.ensures.1 in
    rw (p.1, p.2) (open_ask _ _ _ _ _ c.in_ok-blocks.ensures.site _ c.in_ok-blocks.ensures.whole _ _ _ _ _ _ c.in_err-count.ensures)

pub returns : goal.returns
returns c = open_ask _ _ _ _ _ c.in_ok-blocks.ensures.site _ c.in_ok-blocks.ensures.whole _ _ _ _ _ _ c.in_ok-count.ensures
