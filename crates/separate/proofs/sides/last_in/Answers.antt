-- `separate::sides::last_in` meets its contract: the test is the definition's, and what its callees ensure is put together. Assumes nothing.
use mathlib.Core.Path.{refl, sym, ◌∙◌}
use Rattle.flow.specs.Search.{last_in}
use Rattle.separate.proofs.sides.last_in.Goals as goal

pub returns-then-member : goal.returns-then-member
unfolding last_in
returns-then-member c =
    let inside = sym c.member.ensures ∙ c.if-member.true in
    rw (inside, c.meet.ensures, c.minus-others.ensures, c.single.ensures) refl

pub returns : goal.returns
unfolding last_in
returns c = rw (sym c.member.ensures ∙ c.if-member.false) refl
