-- `own::state::stands` meets its contract: each way out is one lemma of `Standing`. Assumes nothing.
use Rattle.own.proofs.Standing.{stands_nowhere, stands_no_bit, stands_bit}
use Rattle.own.proofs.state.stands.Goals as goal

pub returns-then-state-lt2 : goal.returns-then-state-lt2
returns-then-state-lt2 c =
    stands_bit _ _ _ _ c.if-server-n.true _ c.placed.ensures c.if-placed.true c.if-state-lt2.true

pub returns-else-state-lt2 : goal.returns-else-state-lt2
returns-else-state-lt2 c = search stands_no_bit

pub returns-else-placed : goal.returns-else-placed
returns-else-placed c = search stands_nowhere
