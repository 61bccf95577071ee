-- `Fault::put_new` meets its contract: what `put_block` lays at the front of the part stands at the part's place in the buffer. Assumes nothing.
use Rattle.writer.proofs.Repeats.{block_new, long_new}
use Rattle.writer.proofs.fault.Fault.put_new.Goals as goal

pub returns-clause-bytes : goal.returns-clause-bytes
returns-clause-bytes c = block_new _ _ _ _ _ _ _ _ c.args.self.now.ready _ _ _ c.requires c.put_block.ensures

pub returns-clause-long : goal.returns-clause-long
returns-clause-long c = long_new _ _ _ _ _ _ _ _ c.args.self.now.ready _ _ _ c.requires c.put_block.ensures
