-- The invariant of its loop: the receivers that are left give the answer of the whole. Assumes nothing.
use mathlib.Core.Path.{◌≡◌}
use Rattle.sets.specs.Members.{members}
use Rattle.plan.specs.Due.{fan}
use Rattle.plan.specs.Answers.{command_of, groups_in}
use Rattle.plan.proofs.check.check_fan.Given as goal

abbrev pub invariant-loop-receiver : goal.invariant-loop-receiver
invariant-loop-receiver l =
    groups_in l.site l.plan (fan l.site.f (command_of l.kind) l.sources (members l.receiver-iterator.left)) l.reached
    ≡ groups_in l.site l.plan (fan l.site.f (command_of l.kind) l.sources (members l.fn.receivers)) l.fn.start
