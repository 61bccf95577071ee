-- `two_way::least_taken` meets its contract. The invariant of its loop, `Scan`: the least number that cuts off a part below this one. Assumes
-- nothing.
use Rattle.two_way.proofs.Scanned.{Scan}
use Rattle.two_way.proofs.least_taken.Given as goal

abbrev pub invariant-loop-part : goal.invariant-loop-part
invariant-loop-part l = Scan l.fn.network.n l.sources.rows l.servers l.half l.most l.least l.part
