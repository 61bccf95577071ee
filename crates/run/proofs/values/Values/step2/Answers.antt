-- `run::values::Values::step2` meets its contract: what the arrivals speak against settles their common value. Assumes nothing.
use Rattle.run.proofs.Speaking.{speaks_unpacked}
use Rattle.carriage.proofs.Placed.{block_inward}
use Rattle.run.proofs.Stepped.{step2_is}
use Rattle.run.proofs.values.Values.step2.Goals as goal

pub returns : goal.returns
returns c =
    let ready = c.args.block.now.ready in
    let heard = rw (c.inward.ensures, block_inward _ _ ready) at c.over_routes-inward.ensures in
    (c.gathered-after.ensures.0, step2_is _ _ ready _ _ _ _ _ _ (speaks_unpacked _ _ heard _ c.unpacked-against.ensures.0 c.unpacked-against.ensures.1) _ c.minus.ensures _ c.gathered-after.ensures.1)
