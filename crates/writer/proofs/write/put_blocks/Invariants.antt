-- `writer::write::put_blocks` meets its contract. The invariant of its loop is `Faulting`. Assumes nothing.
use Rattle.plan.specs.Ahead.{faults_left}
use Rattle.writer.proofs.Faulting.{Faulting}
use Rattle.writer.proofs.write.put_blocks.Given as goal

abbrev pub invariant-loop-fault : goal.invariant-loop-fault
invariant-loop-fault l = let w = l.network in Faulting w.n w.f w.links l.initial.lent (faults_left l.fault-iterator) l.at l.lent
