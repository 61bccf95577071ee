use native.Mathlib.Omega.{arith}
use Rattle.separate.proofs.Scans.{feeding_starts, feeding_found, feeding_on, feeding_none}
use Rattle.separate.proofs.sides.feeder.Goals as goal

pub loop-p-init : goal.loop-p-init
loop-p-init c = (omega arith, feeding_starts _ _)

pub returns-then-member : goal.returns-then-member
returns-then-member c = feeding_found _ _ _ c.loop-p.invariant.1 (omega arith) _ c.member.ensures c.if-member.true

pub loop-p-preserved : goal.loop-p-preserved
loop-p-preserved c = (omega arith, feeding_on _ _ _ c.loop-p.invariant.1 (omega arith) _ c.member.ensures c.if-member.false)

pub returns : goal.returns
returns c = feeding_none _ _ _ c.loop-p.invariant.1 (omega arith)
