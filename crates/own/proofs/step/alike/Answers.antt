use Rattle.own.proofs.Stepping.{alike_other, alike_goes, alike_ends}
use Rattle.own.proofs.step.alike.Goals as goal

-- one is not x
pub returns-then-message-x : goal.returns-then-message-x
returns-then-message-x c =
    alike_other _ _ _ _ c.loop-j.invariant c.loop-j-test.true _ c.message.ensures c.if-message-x.true

-- one more is x
pub loop-j-preserved : goal.loop-j-preserved
loop-j-preserved c = search alike_goes

-- none is left
pub returns : goal.returns
returns c = search alike_ends
