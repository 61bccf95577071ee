-- `carriage::ready_block::Block::among` meets its contract. Assumes nothing.
use mathlib.Core.Path.{sym}
use Rattle.carriage.proofs.Placed.{block_among, among_there}
use Rattle.carriage.proofs.ready_block.Block.among.Goals as goal

pub invariant_of-result : goal.invariant_of-result
invariant_of-result c = record { there = among_there _ _ c.args.self.now.ready }

pub returns : goal.returns
returns c = sym (block_among _ _ c.args.self.now.ready)
