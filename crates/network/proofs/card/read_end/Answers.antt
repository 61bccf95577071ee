-- `network::card::read_end` meets its contract. Each answer is the step at `at`, by what stands there: one lemma of `Reading`, whose premises
-- `search` finds. Assumes nothing.
use Rattle.network.proofs.Reading.{step_none, step_rest, end_trailing, end_read, head_cut, head_again}
use Rattle.network.proofs.card.read_end.Goals as goal

-- no byte where a command is due
pub returns-then-card-at : goal.returns-then-card-at
returns-then-card-at c = λ n f l. search step_none

-- a byte after the end
pub returns-then-after-card : goal.returns-then-after-card
returns-then-after-card c = λ n f l. search end_trailing

-- the end, and nothing after it
pub returns-then-command-eq3 : goal.returns-then-command-eq3
returns-then-command-eq3 c = λ n f l. search end_read

-- a head that is cut off
pub returns-then-card-at-lt3 : goal.returns-then-card-at-lt3
returns-then-card-at-lt3 c = λ n f l. search head_cut

-- a head that is not the first command
pub returns-then-command-eq1 : goal.returns-then-command-eq1
returns-then-command-eq1 c = λ n f l. search head_again

-- a link that is cut off, or an unknown command
pub returns : goal.returns
returns c = λ n f l. search step_rest
