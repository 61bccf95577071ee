-- `run::hearing::spoken` meets its contract. Assumes nothing.
use Rattle.run.proofs.Speaking.{adds_one}
use Rattle.run.proofs.hearing.spoken.Goals as goal

pub returns : goal.returns
returns c = adds_one _ _ _ c.requires _ c.single-here.ensures _ _ c.chosen.ensures c.chosen-2.ensures _ c.union.ensures c.union-2.ensures
