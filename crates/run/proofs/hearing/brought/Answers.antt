-- `run::hearing::brought` meets its contract. Assumes nothing.
use mathlib.Core.Path.{sym, ◌∙◌}
use Rattle.run.specs.Speaking.{work_of}
use Rattle.steps.proofs.Eight.{values_at}
use Rattle.run.proofs.hearing.brought.Goals as goal

pub returns : goal.returns
returns c = rw c.if-hit.false (c.work.ensures ∙ sym (values_at (work_of c.args.sure c.args.ones) c.args.source c.requires))
