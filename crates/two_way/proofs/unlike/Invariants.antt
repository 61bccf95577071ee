-- `two_way::unlike` meets its contract. The invariant of its loop, `Compared`: no server below u has other links than sources. Assumes nothing.
use Rattle.two_way.proofs.Returns.{Compared}
use Rattle.two_way.proofs.unlike.Given as goal

abbrev pub invariant-loop-u : goal.invariant-loop-u
invariant-loop-u l = Compared l.rows l.sources l.u
