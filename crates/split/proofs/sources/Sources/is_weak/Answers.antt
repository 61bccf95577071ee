use mathlib.Core.Path.{◌≡◌}
use Rattle.split.specs.Sources.{outside_rows}
use Rattle.split.proofs.sources.Sources.is_weak.Goals as goal

pub returns : goal.returns
unfolding outside_rows
returns c = cc
