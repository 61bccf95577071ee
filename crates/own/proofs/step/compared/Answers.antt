-- `own::step::compared` meets its contract. Assumes nothing.
use Rattle.own.proofs.Stepping.{compare_alike, compare_other, compare_out}
use Rattle.own.proofs.step.compared.Goals as goal

pub returns-then-alike : goal.returns-then-alike
returns-then-alike c = search compare_alike

pub returns-then-member : goal.returns-then-member
returns-then-member c = search compare_other

pub returns : goal.returns
returns c = search compare_out
