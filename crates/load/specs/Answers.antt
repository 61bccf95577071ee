-- What the code's answers stand for.
--     loaded_of r after               == the load that the answer r tells with the counts after it
--     counts_after l lent             == the counts after the load l, where these were lent: refused, they are as they were
--     Answered card plan lent r after <-> the code's answer r and the counts after it are the definition's, and the counts add up
use Rattle.std.specs.Prelude.{◌≡◌, List, ℕ, Result, Ok, Err}
use Rattle.refusal.specs.declared.Refusal.{Refusal}
use Rattle.refusal.specs.Refused.{refusal_of}
use Rattle.load.specs.Load.{added, Load, counted, turned, load_call}
use Rattle.load.specs.Places.{places_in}

abbrev pub loaded_of : Result (Unit {0}) Refusal → List ℕ → Load
loaded_of (Ok x) counts = counted counts
loaded_of (Err r) counts = turned (refusal_of r)

abbrev pub counts_after : Load → List ℕ → List ℕ
counts_after (counted counts) lent = counts
counts_after (turned r) lent = lent

pub record Answered (card plan lent : List ℕ) (r : Result (Unit {0}) Refusal) (after : List ℕ) : Type 0 where
  pub answer : loaded_of r after ≡ load_call card plan
  pub counts : after ≡ counts_after (load_call card plan) lent
  pub sum : loaded_of r after ≡ counted after → added after ≡ places_in plan
