-- `run::call::write` meets its contract. The invariant of its loop: the decided bits of the servers below i, then the bytes as they were (`Lent`).
-- The measure is how many servers are left. Assumes nothing.
use Rattle.run.proofs.Lent.{Writing}
use Rattle.run.proofs.call.write.Given as goal

abbrev pub invariant-loop-i : goal.invariant-loop-i
invariant-loop-i l = Writing l.n l.faulty l.v l.initial.lent l.lent l.i
