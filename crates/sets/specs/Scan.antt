-- A scan over the sets that keep clear of a set.
--     Passes at last b r at' last' b'   <-> a step from the set `at` on: none after the last; else that set, and on to the next without a server of b
use Rattle.std.specs.Prelude.{◌≡◌, Option, Some, None, ℕ, ◌≤◌, ◌<◌}
use Rattle.sets.specs.Sets.{next}

abbrev pub Passes : (at last b : ℕ) → Option ℕ → (at' last' b' : ℕ) → Type 0
Passes at last b None at' last' b' = last < at
Passes at last b (Some s) at' last' b' = (at ≤ last) × (s ≡ at) × (at' ≡ next at b) × (last' ≡ last) × (b' ≡ b)
