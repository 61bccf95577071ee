-- `Sources::linked_into` meets its contract: the two tables give what the rows give. Assumes nothing.
use mathlib.Core.Path.{◌∙◌}
use Rattle.split.proofs.SourceRows.{tables_give}
use Rattle.split.proofs.sources.Sources.linked_into.Goals as goal

pub returns : goal.returns
returns c = let own = c.args.self.now in c.into.ensures ∙ tables_give own.rows own.lower own.upper own.low own.high c.args.s c.ranges.s.fits
