-- How far bytes are from being all fill, as one number: 0 exactly for fill. Not to be believed: only a function within the crate cites it.
--     lack_of bytes   == for each byte what it lacks to FF, the first byte's as the lowest digit
use Rattle.std.specs.Prelude.{List, [], ◌∷◌, ℕ, ◌+◌, ◌-◌, ◌*◌}

unfoldable pub lack_of : List ℕ → ℕ
lack_of [] = 0
lack_of (b ∷ bs) = 255 - b + 256 * lack_of bs
