use borrow.Author.Rules.{rules}
use Rattle.run.proofs.Blockwise.{blocks_start, blocks_end, blocks_room, blocks_turn}
use Rattle.run.proofs.call.run_blocks.Goals as goal

pub loop-part-init : goal.loop-part-init
loop-part-init c = rw c.into_iter-part-iterator.ensures.into_iter_gives (blocks_start _ _ _ _ _)

-- the block is ready to run
pub run_block-next-requires : goal.run_block-next-requires
run_block-next-requires c = (blocks_room _ _ _ _ _ _ _ c.loop-part.invariant _ _ c.in-Some.ensures.steps).0

pub overflow_add-number : goal.overflow_add-number
overflow_add-number c = let room = blocks_room _ _ _ _ _ _ _ c.loop-part.invariant _ _ c.in-Some.ensures.steps in let fits = room.1 in search rules

pub loop-part-preserved : goal.loop-part-preserved
loop-part-preserved c = blocks_turn _ _ _ _ _ _ _ c.loop-part.invariant _ _ c.in-Some.ensures.steps _ _ c.run_block-next.ensures

pub returns : goal.returns
returns c = blocks_end _ _ _ _ _ _ _ c.loop-part.invariant c.in-None.ensures.steps.0
