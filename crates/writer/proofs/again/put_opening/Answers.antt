-- `writer::again::put_opening` meets its contract: four bytes stored at once. Assumes nothing.
use Rattle.std.proofs.Common.{refl}
use Rattle.writer.proofs.Copies.{piece_laid}
use Rattle.writer.proofs.again.put_opening.Goals as goal

pub returns : goal.returns
returns c = piece_laid _ _ _ _ _ refl c.requires c.copy_from_slice.ensures.after
