-- `Place::put` meets its contract: past the buffer's end a byte goes nowhere. Assumes nothing.
use Rattle.std.proofs.Common.{refl}
use Rattle.blocks.proofs.Putting.{put_stored, put_past}
use Rattle.blocks.proofs.bytes.Place.put.Goals as goal
use Rattle.blocks.proofs.bytes.Place.put.Goals.{then-self, else-self}

-- the byte is stored, or its place is past the end
pub returns : goal.returns
returns c =
    elim c.if-self.branch [
      | then-self w ↦ rw w.self-is record { same = refl; put = put_stored _ _ _ _ refl }
      | else-self w ↦ rw w.self-is record { same = refl; put = put_past _ _ _ _ w.if-self.false refl }
    ]
