-- `server::turn::fill` meets its contract. The invariant of its loop is `Filling`. Assumes nothing.
use Rattle.server.proofs.Filling.{Filling}
use Rattle.server.proofs.turn.fill.Given as goal

abbrev pub invariant-loop-i : goal.invariant-loop-i
invariant-loop-i l = Filling l.value l.count l.initial.lent l.i l.lent
