-- What the code's answers stand for.
--     written_of r    == the answer that r stands for
--     Wrote ..      <-> the answer and every lent byte are those of the definition; and of a plan that is written: it is accepted, and no accepted
--                       plan for the card is shorter
use Rattle.std.specs.Prelude.{◌≡◌, List, ℕ, ◌≤◌, length, take, Result, Ok, Err}
use Rattle.refusal.specs.Refused.{call_refusal, refusal_of}
use Rattle.refusal.specs.declared.CallGround.{CallGround}
use Rattle.refusal.specs.declared.Refusal.{Refusal}
use Rattle.rules.specs.Theorems.{Accepted}
use Rattle.planner.specs.Write.{Writing, wrote, broken, unwritten, write_into, written_in}
use Rattle.writer.specs.declared.write.Unwritten.{Unwritten}

abbrev pub written_of : Result ℕ Unwritten → Writing
written_of (Ok bytes) = wrote bytes
written_of (Err (Unwritten.Split x)) = broken (call_refusal CallGround.BadSplit) x.f x.l x.c x.r
written_of (Err (Unwritten.Refused r)) = unwritten (refusal_of r)

-- the same of a network without a bad split, where only the buffer may be refused
abbrev pub filled_of : Result ℕ Refusal → Writing
filled_of (Ok bytes) = wrote bytes
filled_of (Err r) = unwritten (refusal_of r)

pub record Wrote (card lent : List ℕ) (r : Result ℕ Unwritten) (after : List ℕ) : Type 0 where
  pub answer : written_of r ≡ write_into card lent
  pub bytes : after ≡ written_in card lent
  pub accepted : (bytes : ℕ) → written_of r ≡ wrote bytes → Accepted card (take bytes after)
  pub shortest : (bytes : ℕ) → written_of r ≡ wrote bytes → (s : List ℕ) → Accepted card s → bytes ≤ length s
