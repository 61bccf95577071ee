-- Each turn takes a byte for the kind, so what is left gets shorter.
use Rattle.std.specs.Prelude.{⊤}
use Rattle.std.proofs.Common.{length}
use Rattle.cases.proofs.answer_all.Given as goal

abbrev pub invariant-loop-kind : goal.invariant-loop-kind
invariant-loop-kind g l = ⊤

abbrev pub decreases-loop-kind : goal.decreases-loop-kind
decreases-loop-kind g l = length l.left
