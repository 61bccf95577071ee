-- `run::hearing::over_report` meets its contract. The invariant of its loop, `Telling`: with what is left of the reporters, what is held becomes that of
-- the whole. Assumes nothing.
use Rattle.steps.specs.Steps.{held}
use Rattle.run.specs.Speaking.{bits_of}
use Rattle.run.proofs.Reported.{Telling}
use Rattle.run.proofs.hearing.over_report.Given as goal

abbrev pub invariant-loop-k : goal.invariant-loop-k
invariant-loop-k l =
    Telling l.faults.servers l.faults.table.now l.first (held (bits_of l.ones)) l.fn.before l.receiver l.reporters l.against l.k-iterator.count l.k-iterator.iter.left
