-- `Text::put_byte` meets its contract: the byte is stored, or stands past the buffer's end (`Laying`). Assumes nothing.
use Rattle.transcript.proofs.Laying.{put_stored, put_past}
use Rattle.transcript.proofs.text.Text.put_byte.Goals as goal
use Rattle.transcript.proofs.text.Text.put_byte.Goals.{else-self, then-self}

pub returns-clause-put : goal.returns-clause-put
returns-clause-put c = elim c.if-self.branch [ then-self w ↦ rw w.self-is (search put_stored) | else-self w ↦ rw w.self-is (search put_past) ]
