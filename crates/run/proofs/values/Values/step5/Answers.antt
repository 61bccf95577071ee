-- `run::values::Values::step5` meets its contract: server by server it is what the step says. Assumes nothing.
use mathlib.Core.Path.{refl}
use Rattle.run.proofs.Stepped.{step5_is}
use Rattle.run.proofs.values.Values.step5.Goals as goal

pub returns : goal.returns
returns c = (step5_is _ _ _ _ _ _ c.minus.ensures _ c.meet-changing.ensures _ c.replaced-v.ensures, refl, refl)
