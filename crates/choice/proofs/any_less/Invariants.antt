-- `choice::any_less` meets its contract. The invariant of its loop, `Passing`: no server below x can be left out. The measure is what is left of the
-- eight. Assumes nothing.
use Rattle.choice.proofs.Filled.{Passing}
use Rattle.choice.proofs.any_less.Given as goal

abbrev pub invariant-loop-x : goal.invariant-loop-x
invariant-loop-x l = Passing l.table l.set l.x
