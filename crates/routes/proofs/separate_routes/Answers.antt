-- `routes::separate_routes` meets its contract: the card reader gives the refusal, or a proper network, in which the routes are sought. Assumes nothing.
use Rattle.std.proofs.lemmas.Result.{err_from_is_err_and}
use Rattle.routes.proofs.Answering.{answered_refused, answered_network}
use Rattle.routes.proofs.separate_routes.Goals as goal

pub returns-in_err-network : goal.returns-in_err-network
returns-in_err-network c =
    let p = err_from_is_err_and c.from_residual.result c.from_residual.ensures.1 in
    rw (p.1, p.2) (answered_refused _ _ _ _ _ _ c.in_err-network.ensures)

pub returns : goal.returns
returns c = answered_network _ _ _ _ _ _ _ _ c.in_ok-network.ensures _ _ c.answer.ensures.answer c.answer.ensures.bytes
