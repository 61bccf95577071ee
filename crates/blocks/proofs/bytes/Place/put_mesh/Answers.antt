use Rattle.std.proofs.Common.{arith}
use Rattle.separate.proofs.Trying.{listed_below}
use Rattle.blocks.proofs.Putting.{going_starts, going_near, going_on, going_ends}
use Rattle.blocks.proofs.Texts.{one_is, mesh_text}
use Rattle.blocks.proofs.bytes.Place.put_mesh.Goals as goal

pub loop-r-init : goal.loop-r-init
loop-r-init c = going_starts _ _ _ _ _ (cc)

pub put_to_one-requires : goal.put_to_one-requires
put_to_one-requires c = ((let n = going_near c.loop-r.invariant _ _ c.in-Some.ensures.steps in omega arith), listed_below _ _ _ c.in-Some.ensures.steps)

pub loop-r-preserved : goal.loop-r-preserved
loop-r-preserved c = going_on c.loop-r.invariant _ _ c.in-Some.ensures.steps (one_is _ _ _ _ _) c.put_to_one.ensures

pub returns : goal.returns
returns c = going_ends c.loop-r.invariant c.in-None.ensures.steps.0 (mesh_text _ _ _ _ _) 4608 (omega arith)
