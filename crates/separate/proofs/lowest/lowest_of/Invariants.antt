-- `separate::lowest::lowest_of` meets its contract. The invariant of its loop, `Taking`: those taken, with the first of what is left, are the lowest of the
-- whole. Assumes nothing.
use Rattle.sets.specs.Members.{members}
use Rattle.flow.specs.Search.{lowest_of}
use Rattle.separate.proofs.Taking.{Taking}
use Rattle.separate.proofs.lowest.lowest_of.Given as goal

abbrev pub invariant-loop-first : goal.invariant-loop-first
invariant-loop-first l = Taking (lowest_of l.count l.set) l.first-iterator.n l.chosen (members l.first-iterator.iter.left)
