use mathlib.Core.Path.{ap, ◌∙◌}
use Rattle.std.proofs.lemmas.Result.{err_from_is_err_and}
use Rattle.network.specs.Card.{Network}
use Rattle.plan.specs.Check.{check_on, check_plan}
use Rattle.plan.proofs.check.check_plan.Goals as goal

pub returns-in_err-network : goal.returns-in_err-network
unfolding check_plan check_on
returns-in_err-network c =
    let p = err_from_is_err_and c.from_residual.result c.from_residual.ensures.1 in
    rw (p.1, p.2) (ap (λ (a : Network). check_on a c.args.plan.now) c.in_err-network.ensures)

pub returns-in_err-totals : goal.returns-in_err-totals
unfolding check_plan
returns-in_err-totals c =
    let p = err_from_is_err_and c.from_residual-in_err-totals.result c.from_residual-in_err-totals.ensures.1 in
    rw (p.1, p.2) (c.in_err-totals.ensures ∙ ap (λ (a : Network). check_on a c.args.plan.now) c.in_ok-network.ensures)

pub returns : goal.returns
unfolding check_plan
returns c = c.in_ok-totals.ensures ∙ ap (λ (a : Network). check_on a c.args.plan.now) c.in_ok-network.ensures
