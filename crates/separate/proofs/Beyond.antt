-- What the definitions give for a server past the eighth, on plain values: it has no row.
--     row_beyond       its row is empty
--     follows_beyond   no route goes on from it
-- Assumes nothing.
use mathlib.Core.Path.{◌≡◌, sym, ap, ◌∙◌}
use mathlib.Core.List.{List}
use Prim.Native.Nat.{ℕ, ◌≤◌}
use native.Mathlib.Omega.{arith}
use lib.ListN.{length, get_or, get_or-eq_default}
use Rattle.sets.specs.Sets.{lowest}
use Rattle.sets.proofs.LowestMember.{lowest_empty}

row_beyond : (rows : List ℕ) (x : ℕ) → length rows ≡ 8 → 8 ≤ x → get_or rows x 0 ≡ 0
row_beyond rows x l h = get_or-eq_default rows 0 {n = x} (omega arith)

pub follows_beyond : (rows : List ℕ) (x : ℕ) → length rows ≡ 8 → 8 ≤ x → 8 ≡ lowest (get_or rows x 0)
follows_beyond rows x l h = sym (ap lowest (row_beyond rows x l h) ∙ lowest_empty)
