-- What makes the split test fast. In a split, L∪C is V−F−R, so whether L∪C holds at most f incoming neighbours of R depends on F and R alone;
-- in the same way for L. So a set is weak for F or not, and a split is bad exactly if L and R are both weak (`Weakness.split_weak`).
--     outside n links F s    == how many incoming neighbours of s there are outside F
--     weak n f links F s     == s can be a side of a bad split: not empty, apart from F, at most f incoming neighbours outside F
use Rattle.std.specs.Prelude.{Bool, not, ◌&&◌, ℕ, eqb, leb}
use Rattle.sets.specs.Sets.{has, meet, count}
use Rattle.network.specs.Links.{Links}
use Rattle.split.specs.Split.{incoming}

unfoldable pub outside : ℕ → Links → ℕ → ℕ → ℕ
outside n links F s = count n (λ (u : ℕ). not (has F u) && incoming n links s u)

unfoldable pub weak : ℕ → ℕ → Links → ℕ → ℕ → Bool
weak n f links F s = not (eqb s 0) && (eqb (meet F s) 0 && leb (outside n links F s) f)
