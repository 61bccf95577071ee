-- `server::turn::value` meets its contract. Each way is one lemma of `Turning`. Assumes nothing.
use Rattle.own.specs.States.{state_of}
use Rattle.server.proofs.Turning.{value_works, value_bits}
use Rattle.server.proofs.turn.value.Goals as goal

pub returns-in-Among : goal.returns-in-Among
returns-in-Among c = value_works (state_of c.args.state) _ c.from.ensures c.in-Among.is

pub returns-in-Inward : goal.returns-in-Inward
returns-in-Inward c = value_bits (state_of c.args.state) _ c.from.ensures c.in-Inward.is
