-- `split::sources::into` meets its contract: the union of what the two tables hold for the two halves of s. Assumes nothing.
use Rattle.split.specs.Sources.{into_of}
use Rattle.split.proofs.sources.into.Goals as goal

pub returns : goal.returns
unfolding into_of
returns c = c.union.ensures
