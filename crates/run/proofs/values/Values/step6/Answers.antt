-- `run::values::Values::step6` meets its contract: what the reports speak against settles their common value. Assumes nothing.
use mathlib.Core.Path.{◌≡◌, refl}
use Prim.Native.Nat.{◌+◌}
use native.Mathlib.Omega.{arith}
use Rattle.carriage.proofs.Placed.{block_reports, commands_low}
use Rattle.run.proofs.Stepped.{step6_is}
use Rattle.run.proofs.values.Values.step6.Goals as goal

-- the block's carriages are few
pub over_reports-against-requires : goal.over_reports-against-requires
over_reports-against-requires c = let low = commands_low _ _ c.args.block.now.ready in omega arith

pub returns : goal.returns
returns c =
    let ready = c.args.block.now.ready in
    let opening = c.args.block.now.opening in
    let first : c.args.number + opening.inward + opening.among + opening.outward ≡ c.args.number + (opening.inward + opening.among + opening.outward) = omega arith in
    let heard = rw (c.reports.ensures.are, block_reports _ _ ready, first) at c.over_reports-against.ensures in
    (step6_is _ _ ready _ _ _ _ _ heard _ c.alike.ensures _ c.meet-told.ensures _ c.replaced-v.ensures, refl, refl)
