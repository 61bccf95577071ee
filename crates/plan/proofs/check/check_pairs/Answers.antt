use mathlib.Core.Path.{refl}
use Rattle.std.proofs.lemmas.Result.{err_from_is_err_and}
use Rattle.plan.proofs.Walks.{pairs_walk, walk_ends, walk_stops, walk_goes}
use Rattle.plan.proofs.check.check_pairs.Goals as goal

pub loop-receiver-init : goal.loop-receiver-init
loop-receiver-init c = rw (c.into_iter-receiver-iterator.ensures.into_iter_gives, c.ascending-receiver-items.ensures) refl

pub returns-in_err-reached : goal.returns-in_err-reached
returns-in_err-reached c =
    let p = err_from_is_err_and c.from_residual.result c.from_residual.ensures.1 in
    rw (p.1, p.2) (walk_stops (pairs_walk _ _ _ _) c.loop-receiver.invariant c.in-Some.ensures.steps c.in_err-reached.ensures)

pub loop-receiver-preserved : goal.loop-receiver-preserved
loop-receiver-preserved c = walk_goes (pairs_walk _ _ _ _) c.loop-receiver.invariant c.in-Some.ensures.steps c.in_ok-reached.ensures

pub returns : goal.returns
returns c = walk_ends (pairs_walk _ _ _ _) c.loop-receiver.invariant c.in-None.ensures.steps.0
