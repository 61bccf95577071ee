-- What a plan for n and f has, in order: a block for each F of at most f servers and each way of cutting V−F into two parts that are not empty.
-- A way is known by the part that holds the lowest server of V−F.
--     due n f            == the blocks that are due, in order: F and that part
--     routes_due ..       == the routes that are due in a block with this F, A and S, in order, by receiver
use Rattle.std.specs.Prelude.{Bool, cond, not, ◌&&◌, List, [], ◌∷◌, ◌++◌, ℕ, ◌+◌, ◌^◌, eqb, leb}
use Rattle.sets.specs.Sets.{has, single, minus, within, full, size, lowest}
use Rattle.sets.specs.Members.{list_from, members}

pub record DueBlock : Type 0 where
  pub faults : ℕ
  pub part : ℕ

-- p holds the lowest server of W, lies within W and is not all of it
unfoldable pub is_part : ℕ → ℕ → Bool
is_part W p = within p W && (has p (lowest W) && not (eqb p W))

unfoldable pub blocks_of : ℕ → List ℕ → List DueBlock
blocks_of F [] = []
blocks_of F (p ∷ ps) = record { faults = F; part = p } ∷ blocks_of F ps

unfoldable pub blocks_of_all : ℕ → List ℕ → List DueBlock
blocks_of_all n [] = []
blocks_of_all n (F ∷ Fs) = blocks_of F (list_from (2 ^ n) 0 (is_part (minus (full n) F))) ++ blocks_of_all n Fs

unfoldable pub due : ℕ → ℕ → List DueBlock
unfolding blocks_of blocks_of_all
due n f = blocks_of_all n (list_from (2 ^ n) 0 (λ (F : ℕ). leb (size F) f))

-- the separate routes that are due to one receiver: their command, where they may start, where they end, and how many there are
pub record Group : Type 0 where
  pub command : ℕ
  pub sources : ℕ
  pub receiver : ℕ
  pub count : ℕ

-- f + 1 routes to each receiver of the list, from the sources
unfoldable pub fan : ℕ → ℕ → ℕ → List ℕ → List Group
fan f command sources [] = []
fan f command sources (r ∷ rs) = record { command = command; sources = sources; receiver = r; count = f + 1 } ∷ fan f command sources rs

-- one route to r from each other server of the list
unfoldable pub to_one : ℕ → List ℕ → List Group
to_one r [] = []
to_one r (s ∷ ss) = cond (eqb s r) (to_one r ss) (record { command = 0x12; sources = single s; receiver = r; count = 1 } ∷ to_one r ss)

-- one route for each receiver and each other server as its source
unfoldable pub pairs : List ℕ → List ℕ → List Group
pairs sources [] = []
pairs sources (r ∷ rs) = to_one r sources ++ pairs sources rs

unfoldable pub routes_due : ℕ → ℕ → ℕ → ℕ → ℕ → List Group
routes_due n f F A S =
    fan f 0x11 A (members (minus S A)) ++ pairs (members S) (members S) ++ fan f 0x13 S (members (minus (minus (full n) F) S))
