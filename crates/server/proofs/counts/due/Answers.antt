-- `server::counts::due` meets its contract, kind by kind (`Carrying`). Assumes nothing.
use Prim.Native.Nat.{◌*◌, ◌<◌}
use borrow.Author.Rules.{rules}
use Rattle.part.specs.Own.{carriages_of}
use Rattle.server.proofs.Carrying.{due_routes, due_reports, due_fits}
use Rattle.server.proofs.counts.due.Goals as goal

pub returns-in-Inward : goal.returns-in-Inward
unfolding carriages_of
returns-in-Inward c = rw c.in-Inward.is (due_routes _ _ _ _ c.inward.ensures c.routes_to.ensures)

pub returns-in-Among : goal.returns-in-Among
unfolding carriages_of
returns-in-Among c = rw c.in-Among.is (due_routes _ _ _ _ c.among.ensures c.routes_to-in-Among.ensures)

pub returns-in-Outward : goal.returns-in-Outward
unfolding carriages_of
returns-in-Outward c = rw c.in-Outward.is (due_routes _ _ _ _ c.outward.ensures c.routes_to-in-Outward.ensures)

-- at most eight commands of at most eight reports each
pub overflow_mul-result : goal.overflow_mul-result
overflow_mul-result c =
    let there = c.reports-reports.result.there in
    let fits : (c.reports_to.result * c.reports-reports.result.each < 18446744073709551616) = due_fits _ _ _ _ _ _ there c.reports_to.ensures in
    search rules

pub returns-in-Reports : goal.returns-in-Reports
unfolding carriages_of
returns-in-Reports c = rw c.in-Reports.is (due_reports _ _ _ _ c.reports-reports.ensures.are _ c.reports-reports.result.there.told c.reports_to.ensures)
