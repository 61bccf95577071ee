-- `run::hearing::bit` meets its contract. Assumes nothing.
use mathlib.Core.Path.{refl, sym, ◌∙◌}
use Rattle.run.specs.Speaking.{bit_of}
use Rattle.run.proofs.hearing.bit.Goals as goal

pub returns-then-member : goal.returns-then-member
unfolding bit_of
returns-then-member c = rw (sym c.member.ensures ∙ c.if-member.true) refl

pub returns : goal.returns
unfolding bit_of
returns c = rw (sym c.member.ensures ∙ c.if-member.false) refl
