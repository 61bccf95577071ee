-- `split::sources::half_table` meets its contract. The invariant of its loop, `Halving`: the entries below x are made. The measure is what is left of
-- the sixteen. Assumes nothing.
use Rattle.split.proofs.SourceRows.{Halving}
use Rattle.split.proofs.sources.half_table.Given as goal

abbrev pub invariant-loop-x : goal.invariant-loop-x
invariant-loop-x l = Halving l.rows l.first l.x l.table
