use Rattle.sets.proofs.Members.{meet_nothing}
use Rattle.plan.proofs.due.parts.Goals as goal

pub invariant_of-result : goal.invariant_of-result
invariant_of-result c = record { inside = meet_nothing _ }
