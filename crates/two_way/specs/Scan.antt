-- What makes the quick test fast. With links that all have a return, the fewest servers that cut a part L off from the others are the neighbours
-- of L, so one scan over L finds the least number, and no K is tried (`Scanned.scan_ends`).
--     unlike rows sources      == some server has other links than it has sources
--     every_linked n sources    == each server of V has, with itself, all servers of V for its sources
--     neighbours n links L     == the servers outside L with a link into it, as a number
--     cut_off n links most L    == how many they are; `most` if they leave no others; cut_rows from the rows of sources
use Rattle.std.specs.Prelude.{Bool, cond, not, List, ℕ, eqb, get_or}
use Rattle.sets.specs.Sets.{single, union, minus, full, encode, size}
use Rattle.network.specs.Links.{Links}
use Rattle.split.specs.Sources.{into_rows}
use Rattle.split.specs.Split.{some_below, incoming}
use Rattle.two_way.specs.Separation.{others}

unfoldable pub unlike : List ℕ → List ℕ → Bool
unlike rows sources = some_below 8 (λ (u : ℕ). not (eqb (get_or rows u 0) (get_or sources u 0)))

unfoldable pub every_linked : ℕ → List ℕ → Bool
every_linked n sources = not (some_below n (λ (v : ℕ). not (eqb (union (get_or sources v 0) (single v)) (full n))))

unfoldable pub neighbours : ℕ → Links → ℕ → ℕ
neighbours n links L = encode n (incoming n links L)

unfoldable pub cut_off : ℕ → Links → ℕ → ℕ → ℕ
cut_off n links most L = cond (eqb (others n (neighbours n links L) L) 0) most (size (neighbours n links L))

-- the same from the rows of sources
unfoldable pub cut_rows : List ℕ → (servers most L : ℕ) → ℕ
cut_rows rows servers most L =
    let near = minus (into_rows rows L) L in
    cond (eqb (minus (minus servers near) L) 0) most (size near)
