use native.Mathlib.Omega.{arith}
use Rattle.load.proofs.Counting.{adding_stops, adding_goes, adding_ends}
use borrow.Author.Rules.{rules}
use Rattle.load.proofs.add_relays.Goals as goal

pub returns-then-operand-after : goal.returns-then-operand-after
returns-then-operand-after c = adding_stops _ _ (search rules) _ _ c.loop-k.invariant (omega arith) c.if-operand-after.true

pub loop-k-preserved : goal.loop-k-preserved
loop-k-preserved c = adding_goes _ _ (search rules) _ _ c.loop-k.invariant (omega arith) c.if-operand-after.false _ c.add_one.ensures

pub returns : goal.returns
returns c = adding_ends _ _ (search rules) _ _ c.loop-k.invariant c.loop-k-test.false
