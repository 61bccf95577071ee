-- `server::turn::commit` meets its contract: the card's refusal, the plan's, or the call's own answer. Assumes nothing.
use Rattle.std.proofs.lemmas.Result.{err_from_is_err_and}
use Rattle.server.proofs.Turning.{open_commit, closed_commit}
use Rattle.server.proofs.turn.commit.Goals as goal

pub returns-in_err-blocks : goal.returns-in_err-blocks
returns-in_err-blocks c =
    let p = err_from_is_err_and c.from_residual.result c.from_residual.ensures.1 in
    rw (p.1, p.2) (closed_commit _ _ _ c.in_err-blocks.ensures.site _ _ _)

pub returns-in_err-commit_on : goal.returns-in_err-commit_on
returns-in_err-commit_on c =
    let p = err_from_is_err_and c.from_residual-in_err-commit_on.result c.from_residual-in_err-commit_on.ensures.1 in
    rw (p.1, p.2) (open_commit _ _ _ _ _ c.in_ok-blocks.ensures.site _ c.in_ok-blocks.ensures.whole _ _ _ _ _ c.in_err-commit_on.ensures)

pub returns : goal.returns
returns c = open_commit _ _ _ _ _ c.in_ok-blocks.ensures.site _ c.in_ok-blocks.ensures.whole _ _ _ _ _ c.in_ok-commit_on.ensures
