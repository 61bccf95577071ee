-- `carriage::ready_block::Block::outward` meets its contract. Assumes nothing.
use mathlib.Core.Path.{sym}
use Rattle.carriage.proofs.Placed.{block_outward, outward_there}
use Rattle.carriage.proofs.ready_block.Block.outward.Goals as goal

pub invariant_of-result : goal.invariant_of-result
invariant_of-result c = record { there = outward_there _ _ c.args.self.now.ready }

pub returns : goal.returns
returns c = sym (block_outward _ _ c.args.self.now.ready)
