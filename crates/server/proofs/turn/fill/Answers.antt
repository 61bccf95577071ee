use Rattle.server.proofs.Filling.{filling_starts, filling_goes, filling_passes, filling_ends}
use Rattle.server.proofs.turn.fill.Goals as goal

pub loop-i-init : goal.loop-i-init
loop-i-init c = filling_starts _ _ _

pub returns : goal.returns
returns c = filling_ends _ _ _ c.requires _ _ c.loop-i.invariant c.loop-i-test.false
