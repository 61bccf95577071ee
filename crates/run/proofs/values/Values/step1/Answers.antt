-- `run::values::Values::step1` meets its contract: server by server it is what the step says. Assumes nothing.
use mathlib.Core.Path.{refl}
use Rattle.run.proofs.Stepped.{step1_is}
use Rattle.run.proofs.values.Values.step1.Goals as goal

pub returns : goal.returns
returns c = (refl, step1_is _ _ _ _ _ c.union-sure.ensures _ c.replaced-t.ensures)
