-- `sets::meet` meets its contract. The definition is what the code computes. Assumes nothing.
use mathlib.Core.Path.{refl}
use Rattle.sets.specs.Sets.{meet}
use Rattle.sets.proofs.meet.Statement.{statement}
use Rattle.sets.proofs.meet.Tie as tie

returns : tie.Need-returns
unfolding meet
returns c = refl

pub meet_spec : {M : Type 1} → statement M
meet_spec = tie.close (tie.spec returns)
