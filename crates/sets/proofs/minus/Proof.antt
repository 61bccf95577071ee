-- `sets::minus` meets its contract. The definition is what the code computes. Assumes nothing.
use mathlib.Core.Path.{refl}
use Rattle.sets.specs.Sets.{minus}
use Rattle.sets.proofs.minus.Statement.{statement}
use Rattle.sets.proofs.minus.Tie as tie

returns : tie.Need-returns
unfolding minus
returns c = refl

pub minus_spec : {M : Type 1} → statement M
minus_spec = tie.close (tie.spec returns)
