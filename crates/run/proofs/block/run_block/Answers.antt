-- `run::block::run_block` meets its contract. The six steps' results make up the block's: `half` is what holds after three of them, and the lemmas are
-- those of `Blockwise`, whose premises `search` finds. Assumes nothing.
use Rattle.run.proofs.Blockwise.{Half, half_runs, block_runs}
use Rattle.run.proofs.block.run_block.Goals as goal

-- A∩S, and the other three
pub returns : goal.returns
returns c =
    let half : (let a = c.args in
    let r = c.step3-s3.result in
    Half a.block.now.opening a.block.now.bytes.now a.faults.now.servers a.faults.now.table.now a.number a.before.v a.before.sure a.before.t c.minus-sound.result r.v r.sure r.t) = let ready = c.args.block.now.ready in search half_runs in
    search (block_runs, half, c.meet-kept.ensures)
