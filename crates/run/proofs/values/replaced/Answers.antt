-- `run::values::replaced` meets its contract. Assumes nothing.
use mathlib.Core.Path.{ap₂, ◌∙◌}
use Rattle.sets.specs.Sets.{union}
use Rattle.run.specs.Speaking.{replaced}
use Rattle.run.proofs.values.replaced.Goals as goal

pub returns : goal.returns
unfolding replaced
returns c = c.union.ensures ∙ ap₂ union c.minus-kept.ensures c.meet-taken.ensures
