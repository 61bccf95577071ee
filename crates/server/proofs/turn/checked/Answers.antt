-- `server::turn::checked` meets its contract: the card's refusal comes first, then the plan's. Assumes nothing.
use Rattle.std.proofs.lemmas.Result.{err_from_is_err_and}
use Rattle.server.proofs.Turning.{site_card, site_plan, site_found, site_whole}
use Rattle.server.proofs.turn.checked.Goals as goal

pub returns-in_err-network-clause-site : goal.returns-in_err-network-clause-site
returns-in_err-network-clause-site c =
    let p = err_from_is_err_and c.from_residual.result c.from_residual.ensures.1 in
    rw (p.1, p.2) (site_card _ _ _ c.in_err-network.ensures)

pub returns-in_err-totals-clause-site : goal.returns-in_err-totals-clause-site
returns-in_err-totals-clause-site c =
    let p = err_from_is_err_and c.from_residual-in_err-totals.result c.from_residual-in_err-totals.ensures.1 in
    rw (p.1, p.2) (site_plan _ _ _ _ _ c.in_ok-network.ensures _ c.in_err-totals.ensures)

pub invariant_of-result : goal.invariant_of-result
invariant_of-result c = record { whole = site_whole c.args.card.now _ _ _ _ c.in_ok-network.ensures _ _ c.in_ok-totals.ensures }

pub returns-clause-site : goal.returns-clause-site
returns-clause-site c = site_found _ _ _ _ _ c.in_ok-network.ensures _ _ c.in_ok-totals.ensures
