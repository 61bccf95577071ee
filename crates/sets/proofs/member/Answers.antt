-- `sets::member` meets its contract. The digit is read off by a shift; past the eighth server a byte has no digit (`has_beyond`). Assumes nothing.
use mathlib.Core.Path.{refl, sym}
use Rattle.sets.specs.Sets.{has}
use Rattle.sets.proofs.Members.{has_beyond}
use borrow.Author.Rules.{rules}
use Rattle.sets.proofs.member.Goals as goal

pub returns-then-i-lt8 : goal.returns-then-i-lt8
unfolding has
returns-then-i-lt8 c = refl

pub returns : goal.returns
returns c = sym (has_beyond 8 _ _ (search rules) c.if-i-lt8.false)
