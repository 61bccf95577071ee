-- The members of a set as a list, ascending, of the eight that there can be.
use Rattle.std.specs.Prelude.{cond, List, [], ◌∷◌, ℕ, zero, suc}
use Rattle.sets.specs.Sets.{Set, has}

-- the members of p among the k numbers from lo on
unfoldable pub list_from : ℕ → ℕ → Set → List ℕ
list_from zero lo p = []
list_from (suc k) lo p = cond (p lo) (lo ∷ list_from k (suc lo) p) (list_from k (suc lo) p)

unfoldable pub members : ℕ → List ℕ
members s = list_from 8 0 (has s)
