use mathlib.Core.Path.{refl}
use Rattle.plan.proofs.Lists.{member_low}
use Rattle.std.proofs.lemmas.Result.{err_from_is_err_and}
use Rattle.plan.proofs.Walks.{reports_walk, walk_ends, walk_stops, walk_goes}
use Rattle.plan.proofs.check.check_reports.Goals as goal

pub loop-k-init : goal.loop-k-init
loop-k-init c = rw (c.into_iter-k-iterator.ensures.into_iter_gives, c.ascending-k-items.ensures) refl

pub check_report-requires : goal.check_report-requires
check_report-requires c = member_low _ c.in-Some.ensures.steps

pub returns-in_err-reached : goal.returns-in_err-reached
returns-in_err-reached c =
    let p = err_from_is_err_and c.from_residual.result c.from_residual.ensures.1 in
    rw (p.1, p.2) (walk_stops (reports_walk _ _ _ _ _) c.loop-k.invariant c.in-Some.ensures.steps c.in_err-reached.ensures)

pub loop-k-preserved : goal.loop-k-preserved
loop-k-preserved c = walk_goes (reports_walk _ _ _ _ _) c.loop-k.invariant c.in-Some.ensures.steps c.in_ok-reached.ensures

pub returns : goal.returns
returns c = walk_ends (reports_walk _ _ _ _ _) c.loop-k.invariant c.in-None.ensures.steps.0
