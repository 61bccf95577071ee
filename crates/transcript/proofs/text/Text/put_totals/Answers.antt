-- `Text::put_totals` meets its contract: the words are joined (`Lines`). Assumes nothing.
use Rattle.transcript.specs.Text.{blocks_word, carriages_word, newline}
use Rattle.transcript.proofs.Lines.{totals_put}
use Rattle.transcript.proofs.text.Text.put_totals.Goals as goal

pub returns-clause-put : goal.returns-clause-put
unfolding blocks_word carriages_word newline
returns-clause-put c = totals_put _ _ c.put.ensures.put c.put_number.ensures.put c.put-2.ensures.put c.put_number-2.ensures.put c.put-3.ensures.put
