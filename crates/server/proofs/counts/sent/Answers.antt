-- `server::counts::sent` meets its contract, kind by kind (`Carrying`). Assumes nothing.
use Rattle.part.specs.Own.{carriages_of}
use Rattle.server.proofs.Carrying.{sent_routes, sent_reports}
use Rattle.server.proofs.counts.sent.Goals as goal

pub returns-in-Inward : goal.returns-in-Inward
unfolding carriages_of
returns-in-Inward c = rw c.in-Inward.is (sent_routes _ _ _ _ c.inward.ensures c.routes_from.ensures)

pub returns-in-Among : goal.returns-in-Among
unfolding carriages_of
returns-in-Among c = rw c.in-Among.is (sent_routes _ _ _ _ c.among.ensures c.routes_from-in-Among.ensures)

pub returns-in-Outward : goal.returns-in-Outward
unfolding carriages_of
returns-in-Outward c = rw c.in-Outward.is (sent_routes _ _ _ _ c.outward.ensures c.routes_from-in-Outward.ensures)

pub returns-in-Reports : goal.returns-in-Reports
unfolding carriages_of
returns-in-Reports c = rw c.in-Reports.is (sent_reports _ _ _ _ c.reports.ensures.are c.requires c.reports_from.ensures)
