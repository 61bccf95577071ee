-- `choice::less_at` meets its contract. The table is looked up at the set without x (`less_there`). Assumes nothing.
use Rattle.choice.proofs.Filled.{less_there, less_gone}
use Rattle.choice.proofs.less_at.Goals as goal

pub returns-then-member : goal.returns-then-member
returns-then-member c = less_there _ _ _ _ c.member.ensures c.if-member.true _ _ c.single-alone.ensures c.minus-less.ensures

pub returns : goal.returns
returns c = less_gone _ _ _ _ c.member.ensures c.if-member.false
