use native.Mathlib.Omega.{arith}
use borrow.Author.Rules.{rules}
use Rattle.two_way.proofs.Returns.{compared_differs, compared_ends}
use Rattle.two_way.proofs.unlike.Goals as goal

pub returns-then-rows-u : goal.returns-then-rows-u
returns-then-rows-u c = compared_differs _ _ _ c.loop-u.invariant (omega arith) (search rules)

pub returns : goal.returns
returns c = compared_ends _ _ _ c.loop-u.invariant (omega arith)
