-- `server::turn::start_on` meets its contract. Each answer is one lemma of `Turning`. Assumes nothing.
use native.Mathlib.Omega.{arith}
use Rattle.server.proofs.Turning.{start_12, start_13, start_first}
use Rattle.server.proofs.turn.start_on.Goals as goal

pub returns-then-input-gt1 : goal.returns-then-input-gt1
returns-then-input-gt1 c = start_12 _ _ _ (omega arith)

pub returns-then-server-n : goal.returns-then-server-n
returns-then-server-n c = start_first _ _ _ (omega arith) (omega arith) _ c.first.ensures

pub returns : goal.returns
returns c = start_13 _ _ _ (omega arith) (omega arith)
