-- `server::turn::block_at` meets its contract: the blocks before j are passed over, and j is below how many there are. Assumes nothing.
use Rattle.server.proofs.Ways.{way_some, way_block}
use Rattle.server.proofs.turn.block_at.Goals as goal

pub unwrap-requires : goal.unwrap-requires
unwrap-requires c = way_some c.args.plan.now _ c.requires _ _ c.nth.ensures.ran

pub returns : goal.returns
returns c =
    let w = rw c.unwrap.ensures at c.nth.ensures.ran in
    let b = way_block c.args.plan.now _ c.requires _ _ w in
    record { servers = b.0; block = b.1 }
