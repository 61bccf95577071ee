-- The turns of a plan, taken in the run's own words, are the run: the four kinds of a block are its six steps, and the numbers of its carriages are
-- counted on from kind to kind as they are within the block.
--     kinds_long   how many carriages a block has, kind by kind
--     turned       the statement, by induction on the blocks
-- Assumes nothing.
use mathlib.Core.Path.{◌≡◌, refl, ap, ◌∙◌}
use mathlib.Core.List.{[], ◌∷◌, ◌++◌, map}
use Prim.Native.Nat.{ℕ, ◌+◌}
use native.Mathlib.Omega.{arith}
use lib.ListN.{length, length-append}
use Rattle.rules.specs.Blocks.{Block, carriage_of, report_carriages}
use Rattle.rules.specs.Blocks as Blocks
use Rattle.steps.specs.Steps.{run_block, run_blocks}
use Rattle.part.specs.Own.{carriages_of}
use Rattle.part.specs.Beside.{turns, run_turn, run_over}
use Rattle.part.specs.Theorems.{Turned}

-- the number after the carriages of the four kinds
abbrev counted : ℕ → Block → ℕ
counted number b = number + length (carriages_of 0x11 b) + length (carriages_of 0x12 b) + length (carriages_of 0x13 b) + length (carriages_of 0x14 b)

kinds_long : (number : ℕ) (b : Block) → counted number b ≡ number + length (Blocks.carriages_of b)
unfolding carriages_of Blocks.carriages_of
kinds_long number b =
    let i = map carriage_of b.inward in
    let a = map carriage_of b.among in
    let o = map carriage_of b.outward in
    let x = length-append (i ++ a ++ o) (report_carriages b.reports) in
    let y = length-append (i ++ a) o in
    let z = length-append i a in
    omega arith

-- the four turns of a block give what its six steps give, by computation
pub turned : Turned
unfolding turns run_over run_turn run_blocks run_block carriages_of
turned n X table number [] s = refl
turned n X table number (b ∷ bs) s =
    let after = run_block n X table number b s in
    turned n X table (counted number b) bs after ∙ ap (λ (k : ℕ). run_blocks n X table k bs after) (kinds_long number b)
