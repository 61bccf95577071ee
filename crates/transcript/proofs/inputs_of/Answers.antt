-- `transcript::inputs_of` meets its contract. Assumes nothing.
use Rattle.transcript.proofs.RunIn.{inputs_none, inputs_short, inputs_whole}
use Rattle.transcript.proofs.inputs_of.Goals as goal

pub returns-then-run_in-eq0 : goal.returns-then-run_in-eq0
returns-then-run_in-eq0 c = inputs_none _ _ c.if-run_in-eq0.true

pub returns-then-run_in-end : goal.returns-then-run_in-end
returns-then-run_in-end c = inputs_short _ _ c.if-run_in-end.true

pub returns : goal.returns
returns c = inputs_whole _ _
