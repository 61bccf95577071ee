-- `route::check_route` meets its contract. The invariant of its loop, `Walking`: the walk from here on gives the answer of the whole. The measure is
-- how many of the eight bytes are left. Assumes nothing.
use Prim.Native.Nat.{◌+◌}
use Rattle.route.proofs.Turns.{Walking}
use Rattle.route.proofs.check_route.Given as goal

abbrev pub invariant-loop-server : goal.invariant-loop-server
invariant-loop-server l = Walking l.sound l.rows l.sources l.receiver l.operand l.last l.free l.left (l.server-index + 1)
