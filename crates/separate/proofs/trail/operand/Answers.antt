use native.Mathlib.Omega.{arith}
use Rattle.separate.proofs.Laying.{laying_starts, laying_ends, laying_goes, laying_full}
use Rattle.separate.proofs.trail.operand.Goals as goal

pub loop-i-init : goal.loop-i-init
loop-i-init c = (omega arith, laying_starts _ _ _)

pub returns-then-member : goal.returns-then-member
returns-then-member c = laying_ends _ _ _ _ _ _ c.loop-i.invariant.1 (omega arith) _ c.member.ensures c.if-member.true

pub loop-i-preserved : goal.loop-i-preserved
loop-i-preserved c = (omega arith, laying_goes _ _ _ _ _ _ c.loop-i.invariant.1 (omega arith) _ c.member.ensures c.if-member.false _ c.following-x.ensures)

pub returns : goal.returns
returns c = laying_full _ _ _ _ _ _ c.loop-i.invariant.1 (omega arith)
