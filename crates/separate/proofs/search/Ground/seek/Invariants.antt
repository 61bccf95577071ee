-- `Ground::seek` meets its contract. The invariant of its loop: what the rest of the sources give is what the whole gives. Assumes nothing.
use Rattle.sets.specs.Members.{members}
use Rattle.separate.proofs.Adding.{TryingSources}
use Rattle.separate.proofs.search.Ground.seek.Given as goal

abbrev pub invariant-loop-x : goal.invariant-loop-x
invariant-loop-x l = let g = l.self in TryingSources g.rows.now g.inner g.last l.sources l.flow (members l.x-iterator.left) l.tried
