-- `run::hearing::reported` meets its contract. Assumes nothing.
use mathlib.Core.Path.{sym, ◌∙◌}
use Rattle.run.specs.Speaking.{bit_of}
use Rattle.steps.proofs.Eight.{values_at}
use Rattle.run.proofs.hearing.reported.Goals as goal

pub returns : goal.returns
returns c = rw (sym c.member.ensures ∙ c.if-member.false) (c.bit.ensures ∙ sym (values_at (bit_of c.args.ones) c.args.m c.requires))
