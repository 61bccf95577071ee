-- `split::sources::source_row` meets its contract. The invariant of its loop: the row holds the servers below u with a link to v. The measure is what is
-- left of the eight. Assumes nothing.
use Prim.Native.Nat.{◌≤◌}
use Rattle.split.specs.Sources.{SourcesOf}
use Rattle.split.proofs.sources.source_row.Given as goal

abbrev pub invariant-loop-u : goal.invariant-loop-u
invariant-loop-u l = (l.u ≤ 8) × SourcesOf l.links l.v l.u l.row
