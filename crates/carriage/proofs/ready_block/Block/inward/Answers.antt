-- `carriage::ready_block::Block::inward` meets its contract. Assumes nothing.
use mathlib.Core.Path.{sym}
use Rattle.carriage.proofs.Placed.{block_inward, inward_there}
use Rattle.carriage.proofs.ready_block.Block.inward.Goals as goal

pub invariant_of-result : goal.invariant_of-result
invariant_of-result c = record { there = inward_there _ _ c.args.self.now.ready }

pub returns : goal.returns
returns c = sym (block_inward _ _ c.args.self.now.ready)
