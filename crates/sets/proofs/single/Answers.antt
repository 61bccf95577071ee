-- `sets::single` meets its contract. A one that is shifted within a byte is the power of two. Assumes nothing.
use Rattle.sets.proofs.Members.{single_is, single_past}
use Rattle.sets.proofs.single.Goals as goal

pub returns-then-i-lt8 : goal.returns-then-i-lt8
returns-then-i-lt8 c = single_is _ c.if-i-lt8.true

pub returns : goal.returns
returns c = single_past _ c.if-i-lt8.false
