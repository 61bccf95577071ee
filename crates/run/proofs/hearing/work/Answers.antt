-- `run::hearing::work` meets its contract. Assumes nothing.
use mathlib.Core.Path.{refl, sym, ◌∙◌}
use Rattle.run.specs.Speaking.{work_of}
use Rattle.run.proofs.hearing.work.Goals as goal

pub returns-then-member : goal.returns-then-member
unfolding work_of
returns-then-member c = rw (sym c.member.ensures ∙ c.if-member.true) c.bit.ensures

pub returns : goal.returns
unfolding work_of
returns c = rw (sym c.member.ensures ∙ c.if-member.false) refl
