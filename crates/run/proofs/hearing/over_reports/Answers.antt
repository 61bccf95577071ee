use Prim.Native.Nat.{◌+◌, ◌<◌}
use native.Mathlib.Omega.{arith}
use borrow.Author.Rules.{rules}
use Rattle.run.proofs.Reported.{gathering_starts, gathering_eight, gathering_fits, gathering_goes, gathering_done}
use Rattle.run.proofs.hearing.over_reports.Goals as goal

pub loop-report-init : goal.loop-report-init
loop-report-init c = rw c.into_iter-report-iterator.ensures.into_iter_gives (gathering_starts _ _ _ _ c.requires _ _ _ _ c.args.reports.there)

pub over_report-next-requires : goal.over_report-next-requires
over_report-next-requires c =
    let step = c.in-Some.ensures.steps in
    (gathering_fits _ _ _ _ _ _ _ _ c.loop-report.invariant _ _ _ step, gathering_eight _ _ _ _ _ _ _ _ c.loop-report.invariant _ _ _ step)

pub overflow_add-number : goal.overflow_add-number
overflow_add-number c =
    let most = c.loop-report.invariant.most in
    let room = gathering_fits _ _ _ _ _ _ _ _ c.loop-report.invariant _ _ _ c.in-Some.ensures.steps in
    let fits : (c.loop-report.number + c.args.reports.each < 18446744073709551616) = omega arith in
    search rules

pub loop-report-preserved : goal.loop-report-preserved
loop-report-preserved c = gathering_goes _ _ _ _ _ _ _ _ c.loop-report.invariant _ _ _ c.in-Some.ensures.steps _ c.over_report-next.ensures

pub returns : goal.returns
returns c = gathering_done _ _ _ _ _ _ _ _ c.loop-report.invariant c.in-None.ensures.steps.0
