-- The rules that a route keeps on its own. The operand is eight bytes: the servers, source first and receiver last, then the fill. W is V−F.
--     path bytes        == the servers: the bytes before the first FF
--     is_route ..        == at least two servers, none twice and all in W, each linked to the next, from a source to the receiver
--     checked_route ..   == the servers of the route that the bytes start with, none where they start with no route
--     route_set ..       == the set of those servers
use Rattle.std.specs.Prelude.{Bool, true, false, cond, ◌&&◌, List, [], ◌∷◌, ℕ, eqb, leb, length, take}
use Rattle.sets.specs.Sets.{has, union, minus, single}
use Rattle.network.specs.Links.{Links, linked_in}

unfoldable pub path : List ℕ → List ℕ
path [] = []
path (b ∷ bs) = cond (eqb b 0xff) [] (b ∷ path bs)

-- every byte is FF
unfoldable pub is_fill : List ℕ → Bool
is_fill [] = true
is_fill (b ∷ bs) = eqb b 0xff && is_fill bs

-- nothing but fill after the servers
unfoldable pub filled : List ℕ → Bool
filled [] = true
filled (b ∷ bs) = cond (eqb b 0xff) (is_fill bs) (filled bs)

-- the servers of a path
unfoldable pub servers_of : List ℕ → ℕ
servers_of [] = 0
servers_of (b ∷ bs) = union (single b) (servers_of bs)

-- from a server on: each one of `free` (W without the servers before), linked from the one before, and the last one is the receiver
unfoldable pub goes_on : Links → ℕ → ℕ → ℕ → List ℕ → Bool
goes_on links free from receiver [] = eqb from receiver
goes_on links free from receiver (b ∷ bs) = has free b && (linked_in links from b && goes_on links (minus free (single b)) b receiver bs)

-- the source and one server more at least
unfoldable pub is_path : ℕ → Links → ℕ → ℕ → List ℕ → Bool
is_path W links sources receiver [] = false
is_path W links sources receiver (b ∷ []) = false
is_path W links sources receiver (b ∷ c ∷ bs) = has W b && (has sources b && goes_on links (minus W (single b)) b receiver (c ∷ bs))

unfoldable pub is_route : ℕ → Links → ℕ → ℕ → List ℕ → Bool
is_route W links sources receiver bytes = filled bytes && is_path W links sources receiver (path bytes)

unfoldable pub checked_route : ℕ → Links → ℕ → ℕ → List ℕ → List ℕ
checked_route W links sources receiver s = cond (leb 8 (length s) && is_route W links sources receiver (take 8 s)) (path (take 8 s)) []

unfoldable pub route_set : ℕ → Links → ℕ → ℕ → List ℕ → ℕ
route_set W links sources receiver s = servers_of (checked_route W links sources receiver s)
