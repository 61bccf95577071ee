-- The invariant of its loop: the sources that are left give the answer of the whole. Assumes nothing.
use mathlib.Core.Path.{◌≡◌}
use Rattle.sets.specs.Members.{members}
use Rattle.plan.specs.Due.{to_one}
use Rattle.plan.specs.Answers.{groups_in}
use Rattle.plan.proofs.Walks.{ones}
use Rattle.plan.proofs.check.check_to_one.Given as goal

abbrev pub invariant-loop-source : goal.invariant-loop-source
invariant-loop-source l = groups_in l.site l.plan (ones l.receiver (members l.source-iterator.left)) l.reached ≡ groups_in l.site l.plan (to_one l.receiver (members l.quorum)) l.fn.start
