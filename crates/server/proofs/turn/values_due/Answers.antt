-- `server::turn::values_due` meets its contract. Assumes nothing.
use Rattle.server.proofs.Turning.{values_end, values_sent}
use Rattle.server.proofs.Carrying.{kind_counts}
use Rattle.server.proofs.turn.values_due.Goals as goal

pub returns-then-state-eq21 : goal.returns-then-state-eq21
returns-then-state-eq21 c = search values_end

pub returns : goal.returns
returns c = values_sent _ _ _ _ _ c.if-state-eq21.false _ _ (rw (kind_counts _ _ _ c.from.ensures) at c.sent.ensures) c.block_at-block.ensures.block
