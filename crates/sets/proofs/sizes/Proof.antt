-- `sets::sizes` meets its contract. The table has 256 entries, each the size of its set (`Tables.sizes-are`). Assumes nothing.
use mathlib.Core.Path.{refl}
use Rattle.sets.proofs.Tables.{sizes_are}
use Rattle.sets.proofs.sizes.Statement.{statement}
use Rattle.sets.proofs.sizes.Tie as tie

returns : tie.Need-returns
returns c = record { long = refl; entry = sizes_are }

pub sizes_spec : {M : Type 1} → statement M
sizes_spec = tie.close (tie.spec returns)
