-- `writer::write::put_fault` meets its contract. The invariant of its loop, `Filling`: the entries of the sets apart from F before this one are made.
-- Assumes nothing.
use Rattle.choice.proofs.Filled.{Filling}
use Rattle.writer.proofs.write.put_fault.Given as goal

abbrev pub invariant-loop-set : goal.invariant-loop-set
invariant-loop-set l = let w = l.network in let i = l.set-iterator in Filling w.n w.f w.links l.fault i.next i.last i.busy l.table
