-- What the code holds in place of lists: the values of the servers as sets, and the arrivals of a step as the sets of servers that they speak against
-- a value at.
--     bit_of s i        == the value of server i where s are the servers with 1
--     work_of s o i     == the t of server i where s are the servers that are sure and o those of them with 1; 2 for one that is not sure
--     replaced o s n   == the members of n in s, and of o outside it
--     alike z o        == the servers whose arrivals are alike and 0 or 1, where z have one that is not 0 and o one that is not 1
--     against x l     <-> some arrival of l is not x
--     reported ..      == what the reports of the servers of a list bring
--     Adds a hears b   <-> b is a with what each server i hears, hears i
--     Speaks hears a   <-> a is what each server i hears, and nothing else
--     settled z o      == the common value of arrivals, where z says that some is not 0 and o that some is not 1
use Rattle.std.specs.Prelude.{◌≡◌, Bool, cond, not, ◌||◌, List, [], ◌∷◌, ℕ, suc}
use Rattle.sets.specs.Sets.{has, union, meet, minus}
use Rattle.steps.specs.Hearing.{message, all}
use Rattle.steps.specs.Steps.{values}
use Rattle.run.specs.declared.hearing.Against.{Against}

unfoldable pub bit_of : ℕ → ℕ → ℕ
bit_of ones i = cond (has ones i) 1 0

unfoldable pub work_of : ℕ → ℕ → ℕ → ℕ
work_of sure ones i = cond (has sure i) (bit_of ones i) 2

-- v of the eight servers
abbrev pub bits_of : ℕ → List ℕ
bits_of ones = values (bit_of ones)

-- t of the eight servers
abbrev pub works_of : ℕ → ℕ → List ℕ
works_of sure ones = values (work_of sure ones)

unfoldable pub replaced : ℕ → ℕ → ℕ → ℕ
replaced old inside new = union (minus old inside) (meet new inside)

unfoldable pub alike : ℕ → ℕ → ℕ
alike z o = minus (union z o) (meet z o)

-- some arrival of l is not x
unfoldable pub against : ℕ → List ℕ → Bool
against x l = not (all x l)

-- what the reports of the servers of a list bring; the first has number k
unfoldable pub reported : ℕ → List ℕ → ℕ → (ℕ → ℕ) → List ℕ → List ℕ
reported X table k held [] = []
reported X table k held (m ∷ ms) = cond (has X m) (message table k) (held m) ∷ reported X table (suc k) held ms

pub record Adds (a : Against) (hears : ℕ → List ℕ) (b : Against) : Type 0 where
  pub zero : (i : ℕ) → has b.zero i ≡ (has a.zero i || against 0 (hears i))
  pub one : (i : ℕ) → has b.one i ≡ (has a.one i || against 1 (hears i))

-- what each server hears, and nothing else
pub record Speaks (hears : ℕ → List ℕ) (a : Against) : Type 0 where
  pub zero : (i : ℕ) → has a.zero i ≡ against 0 (hears i)
  pub one : (i : ℕ) → has a.one i ≡ against 1 (hears i)

-- none at all settle nothing
unfoldable pub settled : Bool → Bool → ℕ
settled z o = cond z (cond o 2 1) (cond o 0 2)
