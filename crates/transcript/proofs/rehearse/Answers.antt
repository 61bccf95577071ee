-- `transcript::rehearse` meets its contract: the buffer is handed back with the text in it. Assumes nothing.
use Rattle.std.proofs.Common.{rules}
use Rattle.transcript.proofs.Lines.{put_back}
use Rattle.transcript.proofs.rehearse.Goals as goal

pub returns : goal.returns
returns c = put_back c.put_all.ensures.put (search rules)
