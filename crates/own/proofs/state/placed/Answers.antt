-- `own::state::placed` meets its contract: each way out is one lemma of `Standing`. Assumes nothing.
use Rattle.own.proofs.Standing.{placed_end, placed_no_end, placed_past, placed_low, placed_high, placed_kind}
use Rattle.own.proofs.state.placed.Goals as goal

-- at the end
pub returns-then-state-blocks : goal.returns-then-state-blocks
returns-then-state-blocks c = placed_end _ _ c.if-state-eq21.true c.if-state-blocks.true

pub returns-then-state-eq21 : goal.returns-then-state-eq21
returns-then-state-eq21 c = search placed_no_end

-- at a kind of a block
pub returns-then-state-lt21 : goal.returns-then-state-lt21
returns-then-state-lt21 c =
    placed_kind _ _ c.if-state-eq21.false c.if-state-blocks-2.true c.if-state-gt16.true c.if-state-lt21.true

pub returns-else-state-lt21 : goal.returns-else-state-lt21
returns-else-state-lt21 c = search placed_high

pub returns-else-state-gt16 : goal.returns-else-state-gt16
returns-else-state-gt16 c = search placed_low

pub returns-else-state-blocks-2 : goal.returns-else-state-blocks-2
returns-else-state-blocks-2 c = search placed_past
