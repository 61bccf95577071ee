-- `own::step::step1` meets its contract. Assumes nothing.
use Rattle.own.proofs.Stepping.{own1_in, own1_out}
use Rattle.own.proofs.step.step1.Goals as goal

pub returns-then-member : goal.returns-then-member
returns-then-member c = search own1_in

pub returns : goal.returns
returns c = search own1_out
