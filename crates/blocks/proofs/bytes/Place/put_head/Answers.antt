-- `Place::put_head` meets its contract: four bytes, one after the other. Assumes nothing.
use Rattle.blocks.proofs.Texts.{head_put}
use Rattle.blocks.proofs.bytes.Place.put_head.Goals as goal

pub returns : goal.returns
returns c = search head_put
