-- `load::count_relays` meets its contract. The invariant of its loop, `Counting`: the counts and those of the commands still to come make up the counts
-- of the whole. The measure is how many bytes are left. Assumes nothing.
use Prim.Native.Nat.{◌-◌}
use lib.ListN.{length}
use Rattle.load.proofs.Counting.{Counting}
use Rattle.load.proofs.count_relays.Given as goal

abbrev pub invariant-loop-command : goal.invariant-loop-command
invariant-loop-command l = Counting l.plan l.counts l.at

abbrev pub decreases-loop-command : goal.decreases-loop-command
decreases-loop-command l = length l.plan - l.at
