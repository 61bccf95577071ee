use mathlib.Core.Path.{refl}
use Rattle.transcript.specs.Text.{is_long}
use Rattle.transcript.proofs.is_long.Goals as goal

pub returns : goal.returns
unfolding is_long
returns c = refl
