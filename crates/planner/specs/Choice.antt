-- The planner's choice for a block: which part of the cut is A, and which servers are S.
-- A set is weak for F if it is not empty, apart from F, and has at most f incoming neighbours outside F. A quorum S serves V−F if it meets every
-- weak set: then f + 1 separate routes lead from S to each other server, since servers that cut one off would be all incoming neighbours of a weak
-- set without S. Where no split is bad one of the two parts of a cut meets every weak set. Servers that are not needed for that are taken out of it
-- one after the other, from the highest on, and what is left is S, the lowest set within the part that meets every weak set. It has exactly f + 1
-- servers, so no block is shorter. Where both parts meet every weak set, A is the one with the lower S: so few S serve many cuts.
--     holds_weak n f links F X   == some set within X is weak for F
--     quorum_of n f links F A    == S: the servers left of A
--     side_of n f links F P      == A: the part P or the rest of V−F, of those that meet every weak set the one with the lower S
use Rattle.std.specs.Prelude.{Bool, cond, not, ◌&&◌, ◌||◌, ℕ, zero, suc, ◌^◌, ltb}
use Rattle.sets.specs.Sets.{has, single, minus, within, full}
use Rattle.network.specs.Links.{Links}
use Rattle.split.specs.Split.{some_below}
use Rattle.split.specs.Weak.{weak}

unfoldable pub holds_weak : (n f : ℕ) → Links → (F X : ℕ) → Bool
holds_weak n f links F X = some_below (2 ^ n) (λ (R : ℕ). within R X && weak n f links F R)

-- S meets every weak set: what it leaves of V−F holds none
unfoldable pub meets_all : (n f : ℕ) → Links → (F S : ℕ) → Bool
meets_all n f links F S = not (holds_weak n f links F (minus (minus (full n) F) S))

-- S without x, if x is in it and not needed
unfoldable pub without : (n f : ℕ) → Links → (F S x : ℕ) → ℕ
without n f links F S x = cond (has S x && meets_all n f links F (minus S (single x))) (minus S (single x)) S

-- without those of the k lowest servers that are not needed, from the highest on
unfoldable pub thinned : (n f : ℕ) → Links → (F k S : ℕ) → ℕ
thinned n f links F zero S = S
thinned n f links F (suc k) S = thinned n f links F k (without n f links F S k)

unfoldable pub quorum_of : (n f : ℕ) → Links → (F A : ℕ) → ℕ
quorum_of n f links F A = thinned n f links F 8 A

unfoldable pub side_of : (n f : ℕ) → Links → (F P : ℕ) → ℕ
side_of n f links F P =
    let Q = minus (minus (full n) F) P in
    cond (meets_all n f links F P && (not (meets_all n f links F Q) || ltb (quorum_of n f links F P) (quorum_of n f links F Q))) P Q
