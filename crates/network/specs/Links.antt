-- The one-way links of a network: eight rows of eight marks, row u with a mark at v for a link from u to v.
use Rattle.std.specs.Prelude.{Bool, true, false, List, [], ℕ, get_or, set, replicate}

abbrev pub Links : Type 0
Links = List (List Bool)

unfoldable pub no_links : Links
no_links = replicate 8 (replicate 8 false)

-- there is a link from u to v
unfoldable pub linked_in : Links → ℕ → ℕ → Bool
linked_in links u v = get_or (get_or links u []) v false

-- the links and one from u to v
unfoldable pub with_link : Links → ℕ → ℕ → Links
with_link links u v = set links u (set (get_or links u []) v true)
