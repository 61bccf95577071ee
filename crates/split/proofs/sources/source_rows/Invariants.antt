-- `split::sources::source_rows` meets its contract. The invariant of its loop, `Rows`: the rows below v are made. The measure is what is left of the
-- eight. Assumes nothing.
use Rattle.split.proofs.SourceRows.{Rows}
use Rattle.split.proofs.sources.source_rows.Given as goal

abbrev pub invariant-loop-v : goal.invariant-loop-v
invariant-loop-v l = Rows l.links l.v l.rows
