-- `load::add_relays` meets its contract. The invariant of its loop, `Adding`: the counts and what is still to come make up the counts of the whole. The
-- measure is how many bytes are left. Assumes nothing.
use Rattle.load.proofs.Counting.{Adding}
use Rattle.load.proofs.add_relays.Given as goal

abbrev pub invariant-loop-k : goal.invariant-loop-k
invariant-loop-k l = Adding l.operand l.initial.counts l.counts l.k
