-- `run::call::first_values` meets its contract. The invariant of its loop: the set has the servers below i with input 1 (`Lent`). Assumes nothing.
use Rattle.run.proofs.Lent.{Taking}
use Rattle.run.proofs.call.first_values.Given as goal

abbrev pub invariant-loop-i : goal.invariant-loop-i
invariant-loop-i l = Taking l.inputs l.v l.i
