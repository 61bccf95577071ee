-- `Text::put_run` meets its contract: the lines of the answer (`Lines`). Assumes nothing.
use Rattle.transcript.proofs.Lines.{answer_refused, answer_lines_lem}
use Rattle.transcript.proofs.text.Text.put_run.Goals as goal

pub returns-in-Err-clause-put : goal.returns-in-Err-clause-put
returns-in-Err-clause-put c =
    answer_refused _ _ _ _ c.faulty_of-faulty.ensures c.inputs_of-inputs.ensures c.table_of-table.ensures c.run.ensures _ c.in-Err.is c.put_refusal.ensures.put

pub returns-in-Ok-clause-put : goal.returns-in-Ok-clause-put
returns-in-Ok-clause-put c =
    answer_lines_lem _ _ _ _ c.faulty_of-faulty.ensures c.inputs_of-inputs.ensures c.table_of-table.ensures c.run.ensures _ c.in-Ok.is c.put_totals.ensures.put c.put_servers.ensures.put
