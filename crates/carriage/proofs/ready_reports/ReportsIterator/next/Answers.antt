-- `carriage::ready_reports::Reports` hands on the next command. Assumes nothing.
use Rattle.carriage.proofs.Operands.{reports_none, reports_next, reports_go}
use Rattle.carriage.proofs.ready_reports.ReportsIterator.next.Goals as goal

pub returns-then-self-eq0-clause-steps : goal.returns-then-self-eq0-clause-steps
returns-then-self-eq0-clause-steps c = let e = reports_none c.args.self.now.block.now c.args.self.now.at _ c.if-self-eq0.true in (e, e)

pub invariant_of-self : goal.invariant_of-self
invariant_of-self c = record { there = reports_go _ _ _ c.if-self-eq0.false _ c.args.self.now.there }

pub returns-clause-steps : goal.returns-clause-steps
returns-clause-steps c = reports_next _ _ _ c.if-self-eq0.false
