-- `own::state::first` meets its contract. Assumes nothing.
use Rattle.part.specs.State.{first}
use Rattle.own.proofs.state.first.Goals as goal

pub returns : goal.returns
unfolding first
returns c = c.at.ensures
