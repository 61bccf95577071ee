-- `run::values::Values::step4` meets its contract: what the arrivals speak against settles their common value. Assumes nothing.
use Prim.Native.Nat.{◌+◌}
use mathlib.Core.Path.{◌≡◌}
use native.Mathlib.Omega.{arith}
use Rattle.carriage.proofs.Placed.{block_outward, commands_low}
use Rattle.run.proofs.Speaking.{speaks_unpacked}
use Rattle.run.proofs.Stepped.{step4_is}
use Rattle.run.proofs.values.Values.step4.Goals as goal

-- the block's carriages are few
pub over_routes-outward-requires : goal.over_routes-outward-requires
over_routes-outward-requires c = let low = commands_low _ _ c.args.block.now.ready in omega arith

pub returns : goal.returns
returns c =
    let ready = c.args.block.now.ready in
    let first : c.args.number + c.args.block.now.opening.inward + c.args.block.now.opening.among ≡ c.args.number + (c.args.block.now.opening.inward + c.args.block.now.opening.among) = omega arith in
    let heard = rw (c.outward.ensures, block_outward _ _ ready, first) at c.over_routes-outward.ensures in
    (c.gathered-after.ensures.0, step4_is _ _ ready _ _ _ _ _ _ (speaks_unpacked _ _ heard _ c.unpacked-against.ensures.0 c.unpacked-against.ensures.1) _ c.full.ensures _ c.minus-sound.ensures _ c.minus.ensures _ c.gathered-after.ensures.1)
