-- `run::values::alike` meets its contract. Assumes nothing.
use mathlib.Core.Path.{ap₂, ◌∙◌}
use Rattle.sets.specs.Sets.{minus}
use Rattle.run.specs.Speaking.{alike}
use Rattle.run.proofs.values.alike.Goals as goal

pub returns : goal.returns
unfolding alike
returns c = c.minus.ensures ∙ ap₂ minus c.union-some.ensures c.meet-both.ensures
