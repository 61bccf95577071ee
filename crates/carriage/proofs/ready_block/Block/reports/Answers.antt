-- `carriage::ready_block::Block::reports` meets its contract. Assumes nothing.
use mathlib.Core.Path.{sym}
use Rattle.carriage.proofs.Placed.{block_reports, reports_there}
use Rattle.carriage.proofs.ready_block.Block.reports.Goals as goal

pub invariant_of-result : goal.invariant_of-result
invariant_of-result c = record { there = reports_there _ _ c.args.self.now.ready }

pub returns-clause-are : goal.returns-clause-are
returns-clause-are c = sym (block_reports _ _ c.args.self.now.ready)
