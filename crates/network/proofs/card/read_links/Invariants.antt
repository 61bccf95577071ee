-- `network::card::read_links` meets its contract. The invariant of its loop, `Turn`: what is left to read from `at` on gives the answer of the whole
-- card. The measure is what is left of the card. What a turn finds is said by `linking` and `fitting`. Assumes nothing.
use Prim.Native.Nat.{◌-◌}
use lib.ListN.{length}
use Rattle.network.proofs.Reading.{Turn}
use Rattle.network.proofs.card.read_links.Given as goal

abbrev pub invariant-loop-head : goal.invariant-loop-head
invariant-loop-head l = Turn l.card l.at l.head.n l.head.f l.marks

abbrev pub decreases-loop-head : goal.decreases-loop-head
decreases-loop-head l = length l.card - l.at
