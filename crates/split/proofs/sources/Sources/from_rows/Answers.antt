-- Each table is the one that its field is said to be. Assumes nothing.
use Rattle.split.proofs.sources.Sources.from_rows.Goals as goal

pub invariant_of-result : goal.invariant_of-result
invariant_of-result c = record { low = c.lower_table-lower.ensures; high = c.upper_table-upper.ensures }
