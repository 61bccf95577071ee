-- `words::state_row` meets its contract. Assumes nothing.
use Rattle.std.proofs.Common.{rules, ◌-◌}
use native.Mathlib.Omega.{arith}
use Rattle.words.proofs.Rows.{state_laid}
use Rattle.words.proofs.state_row.Goals as goal

pub returns : goal.returns
returns g c = state_laid g.row.N (g.row.N - 6) (omega arith) c.args.state.block c.args.state.kind c.args.state.v c.args.state.t c.args.state.asked
