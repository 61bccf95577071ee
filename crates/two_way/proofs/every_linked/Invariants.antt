-- `two_way::every_linked` meets its contract. The invariant of its loop, `Joining`: each server below v has, with itself, all servers for its sources.
-- Assumes nothing.
use Rattle.two_way.proofs.Linked.{Joining}
use Rattle.two_way.proofs.every_linked.Given as goal

abbrev pub invariant-loop-v : goal.invariant-loop-v
invariant-loop-v l = Joining l.n l.sources l.v
