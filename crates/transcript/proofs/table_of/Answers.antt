-- `transcript::table_of` meets its contract. Assumes nothing.
use Rattle.transcript.proofs.RunIn.{table_none, table_whole}
use Rattle.transcript.proofs.table_of.Goals as goal

pub returns-then-run_in-start : goal.returns-then-run_in-start
returns-then-run_in-start c = table_none _ _ c.if-run_in-start.true

pub returns : goal.returns
returns c = table_whole _ _
