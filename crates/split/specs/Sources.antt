-- Who has a link into a set, as the code holds it: a row of sources for each server, and a table for the sets of each half of the eight servers.
--     sources_to links v          == the servers with a link to v, of the eight that there can be
--     SourceRows links rows      <-> rows has these for each of the eight servers
--     into_half rows first x      == the servers in the rows of the members of x, which are counted from `first` on
--     HalfTable rows first table <-> the table has these for each set of four servers
--     into_of lower upper s       == what the two tables give for s
--     Halves n links lower upper <-> the tables are those of the servers of V with a link into a set; Tables with the sizes
--     into_rows rows s            == the servers with a link into s
--     outside_rows rows F s       == how many of them are neither in s nor in F
use Rattle.std.specs.Prelude.{◌≡◌, cond, ◌&&◌, List, ℕ, ◌+◌, ◌/◌, ◌%◌, ◌<◌, get_or, ltb}
use Rattle.sets.specs.Sets.{has, union, minus, size, encode, TableOf}
use Rattle.network.specs.Links.{Links, linked_in}

unfoldable pub sources_to : Links → ℕ → ℕ
sources_to links v = encode 8 (λ (u : ℕ). linked_in links u v)

abbrev pub SourceRows : Links → List ℕ → Type 0
SourceRows links rows = (v : ℕ) → v < 8 → get_or rows v 0 ≡ sources_to links v

-- the row of server first + i, if i is in x
unfoldable pub row_if : List ℕ → ℕ → ℕ → ℕ → ℕ
row_if rows first x i = cond (has x i) (get_or rows (first + i) 0) 0

unfoldable pub into_half : List ℕ → ℕ → ℕ → ℕ
into_half rows first x = union (row_if rows first x 3) (union (row_if rows first x 2) (union (row_if rows first x 1) (row_if rows first x 0)))

abbrev pub HalfTable : List ℕ → ℕ → List ℕ → Type 0
HalfTable rows first table = (x : ℕ) → x < 16 → get_or table x 0 ≡ into_half rows first x

unfoldable pub into_of : List ℕ → List ℕ → ℕ → ℕ
into_of lower upper s = union (get_or upper (s / 16) 0) (get_or lower (s % 16) 0)

-- the servers with a link into s
unfoldable pub into_rows : List ℕ → ℕ → ℕ
into_rows rows s = union (into_half rows 4 (s / 16)) (into_half rows 0 (s % 16))

-- how many incoming neighbours s has outside F
unfoldable pub outside_rows : List ℕ → ℕ → ℕ → ℕ
outside_rows rows F s = size (minus (minus (into_rows rows s) s) F)

-- row holds the servers below m with a link to v
abbrev pub SourcesOf : Links → ℕ → ℕ → ℕ → Type 0
SourcesOf links v m row = (u : ℕ) → has row u ≡ (ltb u m && linked_in links u v)

abbrev pub Sources : ℕ → Links → List ℕ → Type 0
Sources n links rows = (v : ℕ) → v < 8 → SourcesOf links v n (get_or rows v 0)

pub record Halves (n : ℕ) (links : Links) (lower upper : List ℕ) : Type 0 where
  pub rows : List ℕ
  pub sources : Sources n links rows
  pub low : HalfTable rows 0 lower
  pub high : HalfTable rows 4 upper

pub record Tables (n : ℕ) (links : Links) (sizes lower upper : List ℕ) : Type 0 where
  pub sized : TableOf size sizes
  pub halves : Halves n links lower upper
