use Rattle.std.proofs.Common.{arith}
use Rattle.separate.proofs.Trying.{listed_below}
use Rattle.blocks.proofs.Putting.{going_starts, going_near, going_on, going_ends}
use Rattle.blocks.proofs.Texts.{report_is, reports_text}
use Rattle.blocks.proofs.bytes.Place.put_reports.Goals as goal

pub loop-k-init : goal.loop-k-init
loop-k-init c = going_starts _ _ _ _ _ (cc)

pub put_report-requires : goal.put_report-requires
put_report-requires c = ((let n = going_near c.loop-k.invariant _ _ c.in-Some.ensures.steps in omega arith), listed_below _ _ _ c.in-Some.ensures.steps)

pub loop-k-preserved : goal.loop-k-preserved
loop-k-preserved c = going_on c.loop-k.invariant _ _ c.in-Some.ensures.steps (report_is _ _ _ _) c.put_report.ensures

pub returns : goal.returns
returns c = going_ends c.loop-k.invariant c.in-None.ensures.steps.0 (reports_text _ _ _ _) 24 (omega arith)
