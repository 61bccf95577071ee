-- Bytes laid over a lent buffer, from a place on; those past its end go nowhere.
use Rattle.std.specs.Prelude.{List, [], ◌∷◌, ℕ, suc, set}

unfoldable pub laid : ℕ → List ℕ → List ℕ → List ℕ
laid at [] l = l
laid at (b ∷ bs) l = laid (suc at) bs (set l at b)
