-- `own::step::step5` meets its contract. Assumes nothing.
use Rattle.own.proofs.Stepping.{own5_kept, own5_bit, own5_unsure, own5_out}
use Rattle.own.proofs.step.step5.Goals as goal

-- in A∩S
pub returns-then-member-2 : goal.returns-then-member-2
returns-then-member-2 c = search own5_kept

pub returns-then-t-lt2 : goal.returns-then-t-lt2
returns-then-t-lt2 c = search own5_bit

-- t is 2
pub returns-else-t-lt2 : goal.returns-else-t-lt2
returns-else-t-lt2 c = search own5_unsure

-- not in V−F
pub returns-else-member : goal.returns-else-member
returns-else-member c = search own5_out
