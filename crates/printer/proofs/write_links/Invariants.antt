-- `printer::write_links` meets its contract. The invariant of its loop, `Laying`: to lay the links left over what is there gives the whole.
-- The measure is how many pairs are left. Assumes nothing.
use Rattle.printer.proofs.Pairs.{Laying}
use Rattle.printer.proofs.write_links.Given as goal

abbrev pub invariant-loop-pair : goal.invariant-loop-pair
invariant-loop-pair l = Laying l.links l.initial.lent l.lent l.at l.pair
