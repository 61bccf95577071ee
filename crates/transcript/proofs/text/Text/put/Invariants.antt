-- `Text::put` meets its contract. The invariant of its loop: the bytes before this one are put (`Laying`). Assumes nothing.
use mathlib.Core.Path.{◌≡◌}
use Rattle.transcript.proofs.Laying.{Laying}
use Rattle.transcript.proofs.text.Text.put.Given as goal

abbrev pub invariant-loop-byte : goal.invariant-loop-byte
invariant-loop-byte l = record {
  same : l.self.out.ghost_name ≡ l.initial.self.out.ghost_name;
  laying : Laying l.initial.self.at l.text l.initial.self.out.now l.self.out.now l.self.at l.byte-index;
}
