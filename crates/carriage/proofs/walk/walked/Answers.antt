use mathlib.Core.Path.{refl}
use borrow.Author.Rules.{rules}
use Rattle.carriage.proofs.Walking.{receiver_short, passing_starts, passing_stops, passing_goes, passing_ends}
use Rattle.carriage.proofs.walk.walked.Goals as goal

-- the bytes are no operand
pub returns-then-operand-lt8 : goal.returns-then-operand-lt8
returns-then-operand-lt8 c = receiver_short _ _ c.if-operand-lt8.true _ refl refl

pub loop-k-init : goal.loop-k-init
loop-k-init c = search passing_starts

-- the fill comes next
pub returns-then-operand-k : goal.returns-then-operand-k
returns-then-operand-k c = search (rules, passing_stops)

pub loop-k-preserved : goal.loop-k-preserved
loop-k-preserved c = search passing_goes

-- there is no fill
pub returns : goal.returns
returns c = search (rules, passing_ends)
