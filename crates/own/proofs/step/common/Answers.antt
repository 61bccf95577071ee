-- `own::step::common` meets its contract. Assumes nothing.
use Rattle.own.proofs.Stepping.{common_none, common_alike, common_other}
use Rattle.own.proofs.step.common.Goals as goal

-- there is none
pub returns-then-due-eq0 : goal.returns-then-due-eq0
returns-then-due-eq0 c = search common_none

pub returns-then-alike : goal.returns-then-alike
returns-then-alike c = search common_alike

pub returns : goal.returns
returns c = search common_other
