-- The invariant of its loop: the servers that are left give the answer of the whole. Assumes nothing.
use mathlib.Core.Path.{◌≡◌}
use Rattle.sets.specs.Members.{members}
use Rattle.plan.specs.Answers.{reports_in}
use Rattle.plan.proofs.check.check_reports.Given as goal

abbrev pub invariant-loop-k : goal.invariant-loop-k
invariant-loop-k l = reports_in l.site l.plan (members l.k-iterator.left) l.reached ≡ reports_in l.site l.plan (members l.site.fault) l.fn.start
