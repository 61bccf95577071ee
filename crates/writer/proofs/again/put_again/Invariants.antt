-- `writer::again::put_again` meets its contract. The invariant of its loop, `Copying`: so many bytes are laid; those that are read stand before them and
-- are as they were. The measure is how many are left. Assumes nothing.
use Rattle.writer.proofs.Copies.{Copying}
use Rattle.writer.proofs.again.put_again.Given as goal

abbrev pub invariant-loop-i : goal.invariant-loop-i
invariant-loop-i l = Copying l.from l.at l.bytes l.initial.lent l.i l.lent
