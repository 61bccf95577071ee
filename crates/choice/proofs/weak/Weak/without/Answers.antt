-- `Weak::without` meets its contract: x is taken out if it is in the set and the rest of the set meets every weak set. Assumes nothing.
use Rattle.choice.proofs.Choosing.{without_none, without_needed, without_free}
use Rattle.choice.proofs.weak.Weak.without.Goals as goal

pub returns-then-meets_all : goal.returns-then-meets_all
returns-then-meets_all c = without_free _ _ _ _ _ _ _ c.member.ensures c.if-member.true _ _ c.single.ensures c.minus-less.ensures _ c.meets_all.ensures c.if-meets_all.true

pub returns-else-meets_all : goal.returns-else-meets_all
returns-else-meets_all c = without_needed _ _ _ _ _ _ _ c.member.ensures c.if-member.true _ _ c.single.ensures c.minus-less.ensures _ c.meets_all.ensures c.if-meets_all.false

pub returns-else-member : goal.returns-else-member
returns-else-member c = without_none _ _ _ _ _ _ _ c.member.ensures c.if-member.false
