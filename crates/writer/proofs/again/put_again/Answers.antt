use native.Mathlib.Omega.{arith}
use Rattle.writer.proofs.Copies.{copying_starts, copying_turn}
use Rattle.writer.proofs.again.put_again.Goals as goal

pub loop-i-init : goal.loop-i-init
loop-i-init c = copying_starts _ _ _ _ (omega arith) (omega arith)

pub loop-i-preserved : goal.loop-i-preserved
loop-i-preserved c = copying_turn _ _ _ _ _ _ c.loop-i.invariant c.loop-i-test.true
