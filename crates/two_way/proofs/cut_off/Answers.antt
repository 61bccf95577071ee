-- `two_way::cut_off` meets its contract: each difference is the definition's. Assumes nothing.
use Rattle.two_way.proofs.Around.{cut_none, cut_some}
use Rattle.two_way.proofs.cut_off.Goals as goal

pub returns-then-others-eq0 : goal.returns-then-others-eq0
returns-then-others-eq0 c = cut_none _ _ _ _ _ _ _ _ c.linked_into-into.ensures c.minus-neighbours.ensures c.minus-without.ensures c.minus-others.ensures c.if-others-eq0.true

pub returns : goal.returns
returns c = cut_some _ _ _ _ _ _ _ _ c.linked_into-into.ensures c.minus-neighbours.ensures c.minus-without.ensures c.minus-others.ensures c.if-others-eq0.false _ c.size-cut.ensures
