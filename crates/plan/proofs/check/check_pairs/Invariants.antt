-- The invariant of its loop: the receivers that are left give the answer of the whole. Assumes nothing.
use mathlib.Core.Path.{◌≡◌}
use Rattle.sets.specs.Members.{members}
use Rattle.plan.specs.Due.{pairs}
use Rattle.plan.specs.Answers.{groups_in}
use Rattle.plan.proofs.check.check_pairs.Given as goal

abbrev pub invariant-loop-receiver : goal.invariant-loop-receiver
invariant-loop-receiver l = groups_in l.site l.plan (pairs (members l.quorum) (members l.receiver-iterator.left)) l.reached ≡ groups_in l.site l.plan (pairs (members l.quorum) (members l.quorum)) l.fn.start
