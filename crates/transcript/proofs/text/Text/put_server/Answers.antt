-- `Text::put_server` meets its contract: the words are joined (`Lines`). Assumes nothing.
use Rattle.transcript.specs.Text.{server_word, decided_word, newline}
use Rattle.transcript.proofs.Lines.{server_put}
use Rattle.transcript.proofs.text.Text.put_server.Goals as goal

pub returns-clause-put : goal.returns-clause-put
unfolding server_word decided_word newline
returns-clause-put c = server_put _ _ _ c.member.ensures c.put.ensures.put (rw c.from.ensures at c.put_number.ensures.put) c.put-2.ensures.put c.put_word.ensures.put c.put-3.ensures.put
