-- `sets::full` meets its contract. One less than the next power of two. Assumes nothing.
use native.Mathlib.Omega.{arith}
use lib.Pow.{pow_pos}
use Rattle.sets.proofs.Members.{one_shifted, full_is, full_past}
use Rattle.sets.proofs.full.Goals as goal

pub overflow_sub-result : goal.overflow_sub-result
overflow_sub-result c = let e = one_shifted _ c.if-n-lt8.true in let p = pow_pos c.args.n in omega arith

pub returns-then-n-lt8 : goal.returns-then-n-lt8
returns-then-n-lt8 c = full_is _ c.if-n-lt8.true

pub returns : goal.returns
returns c = full_past _ c.if-n-lt8.false
