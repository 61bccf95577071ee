-- `own::state::opened` meets its contract. Assumes nothing.
use Rattle.own.proofs.Standing.{opened_end, opened_kind}
use Rattle.own.proofs.state.opened.Goals as goal

pub returns-then-state-eq21 : goal.returns-then-state-eq21
returns-then-state-eq21 c = opened_end _ c.if-state-eq21.true

pub returns : goal.returns
returns c = opened_kind _ c.if-state-eq21.false
