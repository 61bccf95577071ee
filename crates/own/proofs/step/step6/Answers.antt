-- `own::step::step6` meets its contract. Assumes nothing.
use Rattle.own.proofs.Stepping.{own6_bit, own6_unsure, own6_out}
use Rattle.own.proofs.step.step6.Goals as goal

pub returns-then-x-lt2 : goal.returns-then-x-lt2
returns-then-x-lt2 c = search own6_bit

-- what arrived is not alike, or is 2
pub returns-else-x-lt2 : goal.returns-else-x-lt2
returns-else-x-lt2 c = search own6_unsure

-- not in F
pub returns-else-member : goal.returns-else-member
returns-else-member c = search own6_out
