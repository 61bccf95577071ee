-- `Weak::thinned` meets its contract. The invariant of its loop, `Thinning`: what is left to take out gives the quorum. Assumes nothing.
use Rattle.choice.proofs.Choosing.{Thinning}
use Rattle.choice.proofs.weak.Weak.thinned.Given as goal

abbrev pub invariant-loop-x : goal.invariant-loop-x
invariant-loop-x l = let w = l.self in Thinning w.network.now.n w.network.now.f w.network.now.links w.fault l.side l.x l.quorum
