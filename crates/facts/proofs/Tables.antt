-- A table's rule: one test that is computed over all entries gives the rule at each entry.
-- Assumes nothing.
use mathlib.Core.Path.{◌≡◌}
use mathlib.Core.Bool.{Bool, true, ◌&&◌}
use mathlib.Core.List.{List, [], ◌∷◌}
use Prim.Native.Nat.{ℕ, zero, suc, ◌+◌, ◌<◌}
use native.Mathlib.Nat.{add-zero, add-suc, suc-add, zero-add}
use native.Mathlib.Omega.{arith}
use lib.ListN.{length, get_or}
use Rattle.facts.proofs.Bools.{and_left, and_right}

-- the test holds of each entry and its place, the first place being i
abbrev pub every_entry : (ℕ → ℕ → Bool) → ℕ → List ℕ → Bool
every_entry test i [] = true
every_entry test i (x ∷ xs) = test i x && every_entry test (suc i) xs

pub entry_from : (test : ℕ → ℕ → Bool) (xs : List ℕ) (i : ℕ) → every_entry test i xs ≡ true → (k : ℕ) → k < length xs → test (i + k) (get_or xs k 0) ≡ true
entry_from test [] i e k h = absurd (omega arith)
entry_from test (x ∷ xs) i e zero h = rw add-zero (and_left (test i x) (every_entry test (suc i) xs) e)
entry_from test (x ∷ xs) i e (suc k) h =
    rw (add-suc, ← suc-add) (entry_from test xs (suc i) (and_right (test i x) (every_entry test (suc i) xs) e) k (omega arith))

pub entry : (test : ℕ → ℕ → Bool) (xs : List ℕ) → every_entry test 0 xs ≡ true → (k : ℕ) → k < length xs → test k (get_or xs k 0) ≡ true
entry test xs e k h = rw zero-add at (entry_from test xs 0 e k h)
