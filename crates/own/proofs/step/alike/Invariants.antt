-- `own::step::alike` meets its contract. The invariant of its loop, `Alike`: whether the arrivals left are x is whether all are. The measure is how many
-- are left. Assumes nothing.
use Rattle.own.proofs.Stepping.{Alike}
use Rattle.own.proofs.step.alike.Given as goal

abbrev pub invariant-loop-j : goal.invariant-loop-j
invariant-loop-j l = Alike l.arrived l.due l.x l.j
