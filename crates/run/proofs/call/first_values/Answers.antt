use native.Mathlib.Omega.{arith}
use Rattle.run.proofs.Lent.{taking_starts, taking_skips, taking_adds, taking_done, unsure_first}
use Rattle.run.proofs.call.first_values.Goals as goal
use Rattle.run.proofs.call.first_values.Goals.{else-x-eq1, then-x-eq1}

pub loop-i-init : goal.loop-i-init
loop-i-init c = taking_starts _

pub loop-i-preserved : goal.loop-i-preserved
loop-i-preserved c = let l = c.loop-i in
    elim c.if-x-eq1.branch [ then-x-eq1 w ↦ rw w.v-is (taking_adds _ (omega arith) _ _ l.invariant (omega arith) _ _ w.single.ensures w.union-v.ensures w.if-x-eq1.true) | else-x-eq1 w ↦ rw w.v-is (taking_skips _ (omega arith) _ _ l.invariant (omega arith) w.if-x-eq1.false) ]

pub returns : goal.returns
returns c = (taking_done _ (omega arith) _ _ c.loop-i.invariant c.requires.1 (omega arith), unsure_first _)
