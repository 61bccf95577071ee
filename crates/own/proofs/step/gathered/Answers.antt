-- `own::step::gathered` meets its contract. Assumes nothing.
use Rattle.own.proofs.Stepping.{gather_in, gather_out}
use Rattle.own.proofs.step.gathered.Goals as goal

pub returns-then-member : goal.returns-then-member
returns-then-member c = search gather_in

pub returns : goal.returns
returns c = search gather_out
