use Rattle.transcript.specs.Text.{too_long}
use Rattle.transcript.proofs.Lines.{long_put, short_put}
use Rattle.transcript.proofs.text.Text.put_all.Goals as goal

pub returns-then-any_long-clause-put : goal.returns-then-any_long-clause-put
unfolding too_long
returns-then-any_long-clause-put c = long_put _ _ _ c.any_long.ensures c.if-any_long.true (rw c.requires at c.put.ensures.put)

pub returns-else-any_long-clause-put : goal.returns-else-any_long-clause-put
returns-else-any_long-clause-put c = short_put _ _ _ c.any_long.ensures c.if-any_long.false (rw c.requires at c.put_files.ensures.put)
