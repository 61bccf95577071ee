-- What the code's answer stands for.
use Rattle.std.specs.Prelude.{◌≡◌, List, ℕ, Result, Ok, Err}
use Rattle.refusal.specs.Refused.{refusal_of}
use Rattle.refusal.specs.declared.Refusal.{Refusal}
use Rattle.printer.specs.Print.{Print, wrote, unwritten, print_into, printed_in}

abbrev pub printed_of : Result ℕ Refusal → Print
printed_of (Ok bytes) = wrote bytes
printed_of (Err r) = unwritten (refusal_of r)

-- the printer's answer r on the card s, with the buffer lent and handed back
pub record Printing (s lent : List ℕ) (r : Result ℕ Refusal) (after : List ℕ) : Type 0 where
  pub answer : printed_of r ≡ print_into s lent
  pub bytes : after ≡ printed_in s lent
