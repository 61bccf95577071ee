-- `carriage::walk::walked` meets its contract. The invariant of its loop, `Passing`: the receiver is here or later, and the mark says whether a server
-- passed is faulty. The measure is what is left of the eight bytes. Each need of a turn is one lemma of `Walking`, whose premises `search` finds.
-- Assumes nothing.
use Rattle.carriage.proofs.Walking.{Passing}
use Rattle.carriage.proofs.walk.walked.Given as goal

abbrev pub invariant-loop-k : goal.invariant-loop-k
invariant-loop-k l = Passing l.faulty l.operand l.hit l.k
