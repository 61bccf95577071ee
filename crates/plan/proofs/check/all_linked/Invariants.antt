-- The invariant of its loop: the servers that are left give the answer of the whole. Assumes nothing.
use mathlib.Core.Path.{◌≡◌}
use Rattle.sets.specs.Members.{members}
use Rattle.network.specs.Rows.{links_of}
use Rattle.plan.specs.Check.{all_linked}
use Rattle.plan.proofs.check.all_linked.Given as goal

abbrev pub invariant-loop-m : goal.invariant-loop-m
invariant-loop-m l = all_linked (links_of l.rows) l.k (members l.m-iterator.left) ≡ all_linked (links_of l.rows) l.k (members l.set)
