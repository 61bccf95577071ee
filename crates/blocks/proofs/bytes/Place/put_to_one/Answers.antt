use Rattle.std.proofs.Common.{arith}
use Rattle.blocks.proofs.Putting.{going_starts, going_near, going_on, going_ends}
use Rattle.blocks.proofs.Texts.{pair_is, one_text_lem}
use Rattle.blocks.proofs.bytes.Place.put_to_one.Goals as goal

pub loop-s-init : goal.loop-s-init
loop-s-init c = going_starts _ _ _ _ _ (cc)

pub put_routes-requires : goal.put_routes-requires
put_routes-requires c = let n = going_near c.loop-s.invariant _ _ c.in-Some.ensures.steps in omega arith

pub loop-s-preserved : goal.loop-s-preserved
loop-s-preserved c = going_on c.loop-s.invariant _ _ c.in-Some.ensures.steps (pair_is _ _ _ _ _ _ c.single-source.ensures _ _ c.flow_of-flow.ensures c.flow_to-sought.ensures) c.put_routes.ensures

pub returns : goal.returns
returns c = going_ends c.loop-s.invariant c.in-None.ensures.steps.0 (one_text_lem _ _ _ _ c.requires.1 _ _ _ c.single.ensures c.minus-others.ensures) 576 (omega arith)
