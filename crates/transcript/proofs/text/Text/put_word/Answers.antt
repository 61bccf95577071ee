use native.Mathlib.Omega.{arith}
use Rattle.transcript.specs.Text.{faulty_word}
use Rattle.transcript.proofs.Lines.{word_taken}
use Rattle.transcript.proofs.text.Text.put_word.Goals as goal

pub returns-then-faulty-clause-put : goal.returns-then-faulty-clause-put
unfolding faulty_word
returns-then-faulty-clause-put c = word_taken 20 c.put.ensures.put (omega arith) _ c.if-faulty.true
