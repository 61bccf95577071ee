-- `blocks::put_block` meets its contract: the head, the routes of 12, those of 13 and the reports, one after the other. Assumes nothing.
use Rattle.std.proofs.Common.{refl, rules}
use Rattle.blocks.proofs.Texts.{block_put}
use Rattle.blocks.proofs.put_block.Goals as goal

pub returns : goal.returns
returns c = block_put _ _ _ _ _ _ _ refl c.put_head.ensures c.put_mesh.ensures c.put_fans.ensures c.put_reports.ensures (search rules)
