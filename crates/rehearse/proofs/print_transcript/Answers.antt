-- The text has at most 1,000 bytes, so the buffer holds all of it.
use Rattle.std.proofs.Common.{rules, sym}
use Rattle.transcript.proofs.Laying.{put_whole}
use Rattle.rehearse.proofs.print_transcript.Goals as goal

pub returns : goal.returns
returns g c = rw (sym (put_whole c.rehearse-length.ensures (search rules))) c.write_all.ensures.bytes
