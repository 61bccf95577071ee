-- `Place::put_whole` meets its contract: the bytes of the route stand behind the command. Assumes nothing.
use Rattle.std.proofs.Common.{refl, rules}
use Rattle.blocks.proofs.Putting.{whole_put}
use Rattle.blocks.proofs.bytes.Place.put_whole.Goals as goal

pub returns : goal.returns
returns c = record { same = refl; put = whole_put _ _ _ _ _ (search rules) c.requires c.copy_from_slice.ensures.after }
