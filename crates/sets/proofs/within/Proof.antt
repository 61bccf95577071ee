-- `sets::within` meets its contract. The definition is what the code computes. Assumes nothing.
use mathlib.Core.Path.{refl}
use Rattle.sets.specs.Sets.{within}
use Rattle.sets.proofs.within.Statement.{statement}
use Rattle.sets.proofs.within.Tie as tie

returns : tie.Need-returns
unfolding within
returns c = refl

pub within_spec : {M : Type 1} → statement M
within_spec = tie.close (tie.spec returns)
