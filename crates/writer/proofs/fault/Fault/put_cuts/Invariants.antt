-- `Fault::put_cuts` meets its contract. The invariant of its loop is `Cutting`. Assumes nothing.
use Rattle.plan.specs.Ahead.{parts_left}
use Rattle.writer.proofs.Cutting.{Cutting}
use Rattle.writer.proofs.fault.Fault.put_cuts.Given as goal

abbrev pub invariant-loop-k : goal.invariant-loop-k
invariant-loop-k l =
    let w = l.self.weak in
    Cutting w.network.now.n w.network.now.f w.network.now.links w.fault l.start l.initial.lent (parts_left l.k-iterator.iter) l.k-iterator.count l.at l.each l.numbers l.lent
