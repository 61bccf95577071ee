use Rattle.std.proofs.Common.{arith}
use Rattle.separate.proofs.Trying.{listed_below}
use Rattle.blocks.proofs.Putting.{going_starts, going_near, going_on, going_ends}
use Rattle.blocks.proofs.Texts.{fan_is, fans_text}
use Rattle.blocks.proofs.bytes.Place.put_fans.Goals as goal

pub loop-r-init : goal.loop-r-init
loop-r-init c = going_starts _ _ _ _ _ (cc)

pub bounds-site-r : goal.bounds-site-r
bounds-site-r c = listed_below _ _ _ c.in-Some.ensures.steps

pub put_routes-requires : goal.put_routes-requires
put_routes-requires c = let n = going_near c.loop-r.invariant _ _ c.in-Some.ensures.steps in omega arith

pub loop-r-preserved : goal.loop-r-preserved
loop-r-preserved c = going_on c.loop-r.invariant _ _ c.in-Some.ensures.steps (fan_is _ _ _ _ _ _ _ _ c.flow_of-flow.ensures c.flow_to-sought.ensures) c.put_routes.ensures

pub returns : goal.returns
returns c = going_ends c.loop-r.invariant c.in-None.ensures.steps.0 (fans_text _ _ _ _ _ _ _ c.minus-others.ensures) 576 (omega arith)
