-- `run::values::Values::gathered` meets its contract: server by server it is what the arrivals settle. Assumes nothing.
use mathlib.Core.Path.{refl}
use Rattle.run.proofs.Stepped.{gathered_is}
use Rattle.run.proofs.values.Values.gathered.Goals as goal

pub returns : goal.returns
returns c = (refl, gathered_is _ _ _ _ _ c.alike.ensures _ c.replaced-sure.ensures _ c.replaced-t.ensures)
