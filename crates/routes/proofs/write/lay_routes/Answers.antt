use Rattle.std.proofs.Common.{rules}
use Rattle.routes.proofs.Laying.{routes_start, routes_room, routes_go, routes_end}
use Rattle.routes.proofs.write.lay_routes.Goals as goal

pub loop-x-init : goal.loop-x-init
loop-x-init c = routes_start _ _ _ c.requires _ (cc)

pub overflow_add-at : goal.overflow_add-at
overflow_add-at c = let r = routes_room _ _ _ _ _ _ c.loop-x.invariant _ _ c.in-Some.ensures.steps in search rules

pub slice_bounds-copy_from_slice-end : goal.slice_bounds-copy_from_slice-end
slice_bounds-copy_from_slice-end c = let r = routes_room _ _ _ _ _ _ c.loop-x.invariant _ _ c.in-Some.ensures.steps in search rules

pub loop-x-preserved : goal.loop-x-preserved
loop-x-preserved c = routes_go _ _ _ _ _ _ c.loop-x.invariant _ _ c.in-Some.ensures.steps _ _ c.operand-route.ensures c.copy_from_slice.ensures.after

pub returns : goal.returns
returns c = routes_end _ _ _ _ _ _ c.loop-x.invariant c.in-None.ensures.steps.0
