use native.Mathlib.Omega.{arith}
use Rattle.choice.proofs.Filled.{passing_hits, passing_ends}
use Rattle.choice.proofs.any_less.Goals as goal

pub returns-then-less_at : goal.returns-then-less_at
returns-then-less_at c = passing_hits _ _ _ c.loop-x.invariant (omega arith) _ c.less_at.ensures c.if-less_at.true

pub returns : goal.returns
returns c = passing_ends _ _ _ c.loop-x.invariant (omega arith)
