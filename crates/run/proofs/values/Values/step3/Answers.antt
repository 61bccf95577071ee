-- `run::values::Values::step3` meets its contract: a server stays sure if no arrival speaks against its t. Assumes nothing.
use mathlib.Core.Path.{refl}
use native.Mathlib.Omega.{arith}
use Rattle.carriage.proofs.Placed.{block_among, commands_low}
use Rattle.run.proofs.Speaking.{speaks_unpacked}
use Rattle.run.proofs.Stepped.{step3_is}
use Rattle.run.proofs.values.Values.step3.Goals as goal

-- the block's carriages are few
pub over_routes-among-requires : goal.over_routes-among-requires
over_routes-among-requires c = let low = commands_low _ _ c.args.block.now.ready in omega arith

pub returns : goal.returns
returns c =
    let ready = c.args.block.now.ready in
    let heard = rw (c.among.ensures, block_among _ _ ready) at c.over_routes-among.ensures in
    (refl, step3_is _ _ ready _ _ _ _ _ _ (speaks_unpacked _ _ heard _ c.unpacked-against.ensures.0 c.unpacked-against.ensures.1) _ c.replaced-differs.ensures _ c.meet.ensures _ c.minus-sure.ensures)
