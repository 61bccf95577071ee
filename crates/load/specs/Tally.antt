-- What the code counts, on any bytes. Counts are those of the eight servers that there can be.
--     between i s     == how often i stands among the bytes of s before the first that has the fill next or is the last
--     tally i os      == how often i stands between source and receiver in the operands os
--     Room m a       <-> a are eight counts, none above m
--     Adds f a b     <-> the counts b are those of a, with f i more for server i
--     Tallies s a    <-> the counts a are those of all operands in the bytes s
use Rattle.std.specs.Prelude.{◌≡◌, cond, List, [], ◌∷◌, ℕ, ◌+◌, ◌≤◌, ◌<◌, eqb, length, get_or, drop}
use Rattle.load.specs.Places.{operands_in}

unfoldable pub between : ℕ → List ℕ → ℕ
between i [] = 0
between i (b ∷ []) = 0
between i (b ∷ c ∷ bs) = cond (eqb c 0xff) 0 (cond (eqb b i) 1 0 + between i (c ∷ bs))

-- the source is the first byte of an operand, whatever it is
unfoldable pub tally : ℕ → List (List ℕ) → ℕ
tally i [] = 0
tally i (o ∷ os) = between i (drop 1 o) + tally i os

pub record Room (m : ℕ) (a : List ℕ) : Type 0 where
  pub long : length a ≡ 8
  pub few : (i : ℕ) → i < 8 → get_or a i 0 ≤ m

pub record Adds (f : ℕ → ℕ) (a b : List ℕ) : Type 0 where
  pub long : length b ≡ 8
  pub each : (i : ℕ) → i < 8 → get_or b i 0 ≡ get_or a i 0 + f i

pub record Tallies (s a : List ℕ) : Type 0 where
  pub long : length a ≡ 8
  pub each : (i : ℕ) → i < 8 → get_or a i 0 ≡ tally i (operands_in s)
