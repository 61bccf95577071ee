use native.Mathlib.Omega.{arith}
use Rattle.run.proofs.Lent.{writing_starts, writing_faulty, writing_sound}
use Rattle.run.proofs.call.write.Goals as goal
use Rattle.run.proofs.call.write.Goals.{else-member, then-member}

pub loop-i-init : goal.loop-i-init
loop-i-init c = writing_starts _ _ _ _

pub loop-i-preserved : goal.loop-i-preserved
loop-i-preserved c = let l = c.loop-i in
    let e = c.member.ensures in
    elim c.if-member.branch [ then-member w ↦ rw w.lent-is (writing_faulty _ _ _ _ (omega arith) (omega arith) _ _ l.invariant (omega arith) _ e w.if-member.true) | else-member w ↦ rw w.lent-is (writing_sound _ _ _ _ (omega arith) (omega arith) _ _ l.invariant (omega arith) _ e w.if-member.false _ w.bit.ensures) ]
