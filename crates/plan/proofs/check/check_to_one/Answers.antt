use mathlib.Core.Path.{sym, ap}
use mathlib.Core.List.{List}
use Rattle.plan.specs.Due.{Group}
use Rattle.plan.specs.Answers.{groups_in}
use Rattle.std.proofs.lemmas.Result.{err_from_is_err_and}
use Rattle.plan.proofs.Walks.{ones_walk, row_ones, walk_ends, walk_stops, walk_goes}
use Rattle.plan.proofs.check.check_to_one.Goals as goal

pub loop-source-init : goal.loop-source-init
loop-source-init c =
    let a = c.args in
    rw (c.into_iter-source-iterator.ensures.into_iter_gives, c.ascending-source-items.ensures)
    (ap (λ (gs : List Group). groups_in a.site.now a.plan.now gs a.start) (sym (row_ones a.receiver a.quorum _ _ c.single.ensures c.minus.ensures)))

pub returns-in_err-reached : goal.returns-in_err-reached
returns-in_err-reached c =
    let p = err_from_is_err_and c.from_residual.result c.from_residual.ensures.1 in
    rw (p.1, p.2) (walk_stops (ones_walk _ _ _ _) c.loop-source.invariant c.in-Some.ensures.steps (rw (← c.single-in-loop-source.ensures) c.in_err-reached.ensures))

pub loop-source-preserved : goal.loop-source-preserved
loop-source-preserved c = walk_goes (ones_walk _ _ _ _) c.loop-source.invariant c.in-Some.ensures.steps (rw (← c.single-in-loop-source.ensures) c.in_ok-reached.ensures)

pub returns : goal.returns
returns c = walk_ends (ones_walk _ _ _ _) c.loop-source.invariant c.in-None.ensures.steps.0
