-- `server::turn::moved` meets its contract. Assumes nothing.
use Rattle.server.proofs.Carrying.{kind_counts}
use Rattle.server.proofs.Turning.{moves}
use Rattle.server.proofs.turn.moved.Goals as goal

pub returns : goal.returns
returns c =
    let block = c.block_at-block in
    let ready = block.result.ready in
    moves _ _ ready _ _ _ _ _ (rw (kind_counts _ _ _ c.from.ensures) at c.due-due.ensures) _ _ _ _ _ _ block.ensures.servers block.ensures.block _
    (c.committed-after.ensures.few ready.few) c.next.ensures.any c.requires.0
