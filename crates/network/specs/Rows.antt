-- The links of a network as sets of servers, a row for each server. E is a test on pairs of servers, as in Theorem 1.
--     row_of E u    == the servers that u has a link to, of the eight that there can be, as a number
--     rows_of E     == the rows of the eight servers
--     links_of rows == the links that rows stand for, row u being the servers that u has a link to
use Rattle.std.specs.Prelude.{Bool, List, [], ◌∷◌, ℕ, zero, suc, get_or}
use Rattle.sets.specs.Sets.{Set, Edges, has, encode}
use Rattle.network.specs.Links.{Links}

unfoldable pub row_of : Edges → ℕ → ℕ
row_of E u = encode 8 (E u)

-- the rows of the k servers from u on
unfoldable pub rows_from : ℕ → ℕ → Edges → List ℕ
rows_from zero u E = []
rows_from (suc k) u E = row_of E u ∷ rows_from k (suc u) E

unfoldable pub rows_of : Edges → List ℕ
rows_of E = rows_from 8 0 E

-- a mark for each of the k servers from v on that is in p
unfoldable pub marks_from : ℕ → ℕ → Set → List Bool
marks_from zero v p = []
marks_from (suc k) v p = p v ∷ marks_from k (suc v) p

-- the marks of the k rows from row u on
unfoldable pub links_from : ℕ → ℕ → List ℕ → Links
links_from zero u rows = []
links_from (suc k) u rows = marks_from 8 0 (has (get_or rows u 0)) ∷ links_from k (suc u) rows

unfoldable pub links_of : List ℕ → Links
links_of rows = links_from 8 0 rows
