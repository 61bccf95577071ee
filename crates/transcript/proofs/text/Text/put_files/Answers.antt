-- `Text::put_files` meets its contract. Assumes nothing.
use Rattle.transcript.proofs.Lines.{files_refused, files_run}
use Rattle.transcript.proofs.text.Text.put_files.Goals as goal

pub put_run-requires : goal.put_run-requires
put_run-requires c = (c.requires, c.in-Ok.network.proper.most)

pub returns-in-Err-clause-put : goal.returns-in-Err-clause-put
returns-in-Err-clause-put c = files_refused _ _ _ _ c.in-Err.ensures c.put_refusal.ensures.put

pub returns-in-Ok-clause-put : goal.returns-in-Ok-clause-put
returns-in-Ok-clause-put c = files_run _ _ _ _ _ _ c.in-Ok.ensures c.put_run.ensures.put
