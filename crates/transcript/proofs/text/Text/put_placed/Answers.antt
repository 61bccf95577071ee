-- `Text::put_placed` meets its contract: the words are joined (`Lines`). Assumes nothing.
use Rattle.transcript.specs.Text.{refused_word, gap, newline}
use Rattle.transcript.proofs.Lines.{placed_put}
use Rattle.transcript.proofs.text.Text.put_placed.Goals as goal

pub returns-clause-put : goal.returns-clause-put
unfolding refused_word gap newline
returns-clause-put c = placed_put _ _ _ c.put.ensures.put (rw c.told-file at c.put-2.ensures.put) (rw c.from.ensures at c.put_number.ensures.put) c.put-3.ensures.put c.put_number-2.ensures.put c.put-4.ensures.put
