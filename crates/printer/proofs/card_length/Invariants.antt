-- `printer::card_length` meets its contract. The invariant of its loop, `Counting`: the bytes counted and those of the links left are those of
-- the card. The measure is how many pairs are left. Assumes nothing.
use Rattle.printer.proofs.Pairs.{Counting}
use Rattle.printer.proofs.card_length.Given as goal

abbrev pub invariant-loop-pair : goal.invariant-loop-pair
invariant-loop-pair l = Counting l.links l.bytes l.pair
