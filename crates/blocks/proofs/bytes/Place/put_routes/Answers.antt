use Rattle.std.proofs.Common.{arith}
use Rattle.blocks.proofs.Putting.{going_starts, going_near, going_on, going_ends}
use Rattle.blocks.proofs.Texts.{route_is, routes_text}
use Rattle.blocks.proofs.bytes.Place.put_routes.Goals as goal

pub loop-x-init : goal.loop-x-init
loop-x-init c = going_starts _ _ _ _ _ (cc)

pub put_route-requires : goal.put_route-requires
put_route-requires c = let n = going_near c.loop-x.invariant _ _ c.in-Some.ensures.steps in omega arith

pub loop-x-preserved : goal.loop-x-preserved
loop-x-preserved c = going_on c.loop-x.invariant _ _ c.in-Some.ensures.steps (route_is _ _ _ _ _ c.operand-route.ensures) c.put_route.ensures

pub returns : goal.returns
returns c = going_ends c.loop-x.invariant c.in-None.ensures.steps.0 (routes_text _ _ _) 72 (omega arith)
