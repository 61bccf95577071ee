-- `run::hearing::over_reports` meets its contract. The invariant of its loop: with what is left of the commands, what is held becomes that of the whole
-- (`Reported`). Assumes nothing.
use Rattle.rules.specs.Blocks.{report_carriages}
use Rattle.steps.specs.Hearing.{heard}
use Rattle.steps.specs.Steps.{held}
use Rattle.carriage.specs.Passing.{reports_of}
use Rattle.run.specs.Speaking.{bits_of}
use Rattle.run.proofs.Reported.{Gathering}
use Rattle.run.proofs.hearing.over_reports.Given as goal

abbrev pub invariant-loop-report : goal.invariant-loop-report
invariant-loop-report l =
    let X = l.faults.servers in
    let table = l.faults.table.now in
    let h = held (bits_of l.ones) in
    Gathering X table h (heard X table l.first h (report_carriages (reports_of l.fn.reports))) l.each l.against (reports_of l.report-iterator) l.number
