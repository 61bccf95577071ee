-- The blocks of a plan, one after the other, against the iterations of Algorithm BC.
--     block_bits   an iteration keeps bits
--     run_same     the steps of all blocks give what the iterations of Algorithm BC give, for every server below n
-- Assumes nothing.
use mathlib.Core.Path.{◌≡◌, refl}
use mathlib.Core.Bool.{Bool, cond, not, ◌&&◌}
use mathlib.Core.List.Memᴰ
use mathlib.Core.List.{List, [], ◌∷◌, map}
use Prim.Native.Nat.{ℕ, ◌+◌, ◌≤◌, ◌<◌}
use lib.Dec.{ltb}
use lib.ListN.{length}
use borrow.Author.Tests.{ltb-true}
use Rattle.facts.proofs.Bools.{by_cond, and_right}
use Rattle.sets.specs.Sets.{Set, has}
use Rattle.network.specs.Links.{Links}
use Rattle.plan.specs.Due.{DueBlock}
use Rattle.rules.specs.Blocks.{Block, carriages_of}
use Rattle.facts.specs.Lists.{Each}
use Rattle.rules.specs.Rules.{InOrder}
use Rattle.steps.specs.Steps.{held, Values, run_block, run_blocks}
use Rattle.bc.specs.Algorithm.{Choice, arrives, agreed, propagate, equality, adopt, rest, step_j, within, case1, case2, bc_block, bc}
use Rattle.bc.specs.Allowed.{Sound}
use Rattle.steps.specs.Choices.{choice_of, choices_of}
use Rattle.steps.proofs.Same.{block_same}

-- a value is taken only if it is below 2
pub taken : (d : Bool) (x y : ℕ) → y < 2 → cond (d && ltb x 2) x y < 2
taken d x y h = by_cond (λ (z : ℕ). z < 2) (d && ltb x 2) x y (λ e. ltb-true x 2 (and_right d (ltb x 2) e)) (λ e. h)

adopt_bits : (D : Set) (t w : ℕ → ℕ) (i : ℕ) → w i < 2 → adopt D t w i < 2
unfolding adopt
adopt_bits D t w i h = taken (D i) (t i) (w i) h

case1_bits : (n : ℕ) (X : Set) (b : Choice) (w : ℕ → ℕ) (i : ℕ) → w i < 2 → case1 n X b w i < 2
unfolding case1
case1_bits n X b w i h =
    adopt_bits (rest b) (propagate X (rest b) b.outward (equality n X b.S b.between w)) w i h

case2_bits : (n : ℕ) (X : Set) (b : Choice) (w : ℕ → ℕ) (i : ℕ) → w i < 2 → case2 n X b w i < 2
unfolding case2
case2_bits n X b w i h =
    let t = propagate X (λ (i : ℕ). b.S i && not (b.A i)) b.inward w in
    adopt_bits (λ (i : ℕ). not (b.F i) && not (b.A i && b.S i)) (propagate X (rest b) b.outward (equality n X b.S b.between t)) w i h

-- an iteration keeps bits: only t below 2 and arrivals below 2 are taken
pub block_bits : (n : ℕ) (X : Set) (b : Choice) (w : ℕ → ℕ) (i : ℕ) → w i < 2 → bc_block n X b w i < 2
unfolding bc_block step_j
block_bits n X b w i h =
    let u : ℕ → ℕ = cond (within n b.S b.A) (case1 n X b w) (case2 n X b w) in
    taken (b.F i) (agreed (map (arrives X u) (b.reports i))) (u i)
    (by_cond (λ (u : ℕ → ℕ). u i < 2) (within n b.S b.A) (case1 n X b w) (case2 n X b w) (λ e. case1_bits n X b w i h) (λ e. case2_bits n X b w i h))

-- the blocks, one after the other
pub run_same : (n f : ℕ) (links : Links) (ds : List DueBlock) (bs : List Block) → n ≤ 8 → InOrder n f links ds bs → (X : ℕ) (table : List ℕ) (number : ℕ)
    → Each (Sound n f) (choices_of table number bs) → (s : Values) (w : ℕ → ℕ) → ((i : ℕ) → i < n → held s.v i ≡ w i) → ((i : ℕ) → i < n → w i < 2)
    → (i : ℕ) → i < n → held (run_blocks n X table number bs s).v i ≡ bc n (has X) (choices_of table number bs) w i
unfolding run_blocks bc choices_of
run_same n f links [] [] few o X table number c s w e bits i k = e i k
run_same n f links [] (b ∷ bs) few o X table number c s w e bits i k = absurd o
run_same n f links (d ∷ ds) [] few o X table number c s w e bits i k = absurd o
run_same n f links (d ∷ ds) (b ∷ bs) few o X table number c s w e bits i k =
    run_same n f links ds bs few o.1 X table (number + length (carriages_of b)) (λ a m. c a (Memᴰ.tail m))
    (run_block n X table number b s)
    (bc_block n (has X) (choice_of table number b) w)
    (block_same n f links d b few o.0 X table number (c (choice_of table number b) (Memᴰ.head refl)) s w e bits)
    (λ j l. block_bits n (has X) (choice_of table number b) w j (bits j l))
    i k
