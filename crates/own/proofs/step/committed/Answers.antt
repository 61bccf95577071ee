-- `own::step::committed` meets its contract: the commit of each kind is one lemma of `Stepping`. Assumes nothing.
use borrow.Author.Rules.{rules}
use Rattle.own.proofs.Stepping.{commits_inward, commits_among, commits_outward, commits_reports, both}
use Rattle.own.proofs.step.committed.Goals as goal

-- 14: step 6
pub returns-in-Reports : goal.returns-in-Reports
returns-in-Reports c = both _ _ _ _ _ _ (commits_reports _ _ _ _ _ c.in-Reports.ensures _ (search rules))

-- 11: steps 1 and 2
pub returns-in-Inward : goal.returns-in-Inward
returns-in-Inward c = both _ _ _ _ _ _ (commits_inward _ _ _ _ _ c.in-Inward.ensures _ c.step1-begun.ensures _ c.minus-receivers.ensures _ c.gathered-t.ensures)

-- 12: step 3
pub returns-in-Among : goal.returns-in-Among
returns-in-Among c = both _ _ _ _ _ _ (commits_among _ _ _ _ _ c.in-Among.ensures _ c.compared-t.ensures)

-- 13: steps 4 and 5
pub returns-in-Outward : goal.returns-in-Outward
returns-in-Outward c = both _ _ _ _ _ _ (commits_outward _ _ _ _ _ c.in-Outward.ensures _ c.full.ensures _ c.minus-sound.ensures _ c.minus-receivers-in-Outward.ensures _ c.gathered-t-in-Outward.ensures _ c.meet.ensures _ c.step5-v.ensures)
