-- What must be taken away before a network falls apart, in the words of network people. V is the servers below n; a set is a number.
--     one_way n links        == some link has no return
--     separates n links K   == without K the servers fall into two parts that are not empty, with no link between them
--     connectivity n links  == the least number of servers that separate; n − 1 if none do
use Rattle.std.specs.Prelude.{Bool, not, ◌&&◌, ◌||◌, ℕ, ◌-◌, ◌^◌, eqb}
use Rattle.sets.specs.Sets.{has, meet, minus, full, size, first_in}
use Rattle.network.specs.Links.{Links, linked_in}
use Rattle.split.specs.Split.{some_below}

unfoldable pub one_way : ℕ → Links → Bool
one_way n links = some_below n (λ (u : ℕ). some_below n (λ (v : ℕ). linked_in links u v && not (linked_in links v u)))

-- some server of a has a link to one of b
unfoldable pub link_to : ℕ → Links → ℕ → ℕ → Bool
link_to n links a b = some_below n (λ (u : ℕ). has a u && some_below n (λ (v : ℕ). has b v && linked_in links u v))

-- V without K and L
unfoldable pub others : ℕ → ℕ → ℕ → ℕ
others n K L = minus (minus (full n) K) L

-- without K the servers fall into L and the others: neither is empty, and no link is between them
unfoldable pub parts : ℕ → Links → ℕ → ℕ → Bool
parts n links K L =
    eqb (meet K L) 0 && (not (eqb L 0) && (not (eqb (others n K L) 0)
    && not (link_to n links L (others n K L) || link_to n links (others n K L) L)))

unfoldable pub separates : ℕ → Links → ℕ → Bool
separates n links K = some_below (2 ^ n) (parts n links K)

-- some k servers separate
unfoldable pub separable : ℕ → Links → ℕ → Bool
separable n links k = some_below (2 ^ n) (λ (K : ℕ). eqb (size K) k && separates n links K)

-- the first of 0 to n − 2 that is enough; n − 1 if none of them is
unfoldable pub connectivity : ℕ → Links → ℕ
connectivity n links = first_in (n - 1) 0 (separable n links)
