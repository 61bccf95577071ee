use Rattle.std.proofs.Common.{refl, ◌-◌, ◌≡◌, suc, arith}
use Rattle.choice.proofs.Choosing.{thinning_starts, thinning_turn, thinning_ends}
use Rattle.choice.proofs.weak.Weak.thinned.Goals as goal

pub loop-x-init : goal.loop-x-init
loop-x-init c = thinning_starts _ _ _ _ _

pub loop-x-preserved : goal.loop-x-preserved
loop-x-preserved c = let e : c.loop-x.x ≡ suc (c.loop-x.x - 1) = omega arith in thinning_turn _ _ _ _ _ _ _ _ _ c.loop-x.invariant e c.without-quorum.ensures

pub returns : goal.returns
returns c = record { side = refl; quorum = thinning_ends _ _ _ _ _ _ _ c.loop-x.invariant (omega arith) }
