-- `lengths::plan_length` meets its contract: the computed table gives every length. Assumes nothing.
use Rattle.lengths.proofs.Table.{length_at, length_many, length_bound}
use Rattle.lengths.proofs.plan_length.Goals as goal
use Rattle.lengths.proofs.plan_length.Goals.{then-n-gt8-via-then-n-gt8, then-n-gt8-via-else-n-gt8+then-f-gt2}

pub returns-then-n-gt8 : goal.returns-then-n-gt8
returns-then-n-gt8 c =
    elim c.then-n-gt8.branch [
      | then-n-gt8-via-then-n-gt8 w ↦ length_many _ _ w.if-n-gt8.true
      | then-n-gt8-via-else-n-gt8+then-f-gt2 w ↦ length_bound _ _ w.if-f-gt2.true
    ]

pub returns : goal.returns
returns c = length_at _ _ c.if-n-gt8.false c.if-f-gt2.false
