use mathlib.Core.Path.{refl}
use Rattle.std.proofs.lemmas.Result.{err_from_is_err_and}
use Rattle.plan.proofs.Groups.{group_stops, route_alone}
use Rattle.plan.proofs.check.check_one.Goals as goal

pub returns-in_err-route_at : goal.returns-in_err-route_at
returns-in_err-route_at c =
    let p = err_from_is_err_and c.from_residual.result c.from_residual.ensures.1 in
    rw (p.1, p.2) (group_stops _ _ _ _ 0 _ _ _ refl c.in_err-route_at.ensures.gives)

pub returns : goal.returns
returns c = route_alone _ _ _ _ _ _ c.in_ok-route_at.ensures.gives
