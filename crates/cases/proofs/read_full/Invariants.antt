use Rattle.std.proofs.Common.{◌≤◌, length}
use Rattle.cases.proofs.read_full.Given as goal

-- what was read lies within the buffer
abbrev pub invariant-loop : goal.invariant-loop
invariant-loop g l = l.done ≤ length l.buf
