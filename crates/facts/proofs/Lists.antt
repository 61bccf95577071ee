-- The elements of a list by their places.
--     at_mem    what stands at a place of a list is an element of it
-- Assumes nothing.
use mathlib.Core.Path.{refl}
use mathlib.Core.List.{List, [], ◌∷◌, Memᴰ}
use Prim.Native.Nat.{ℕ, zero, suc, ◌<◌}
use native.Mathlib.Omega.{arith}
use lib.ListN.{length, get_or}

pub at_mem : {A : Type 0} (l : List A) (none : A) (i : ℕ) → i < length l → Memᴰ (get_or l i none) l
at_mem [] none i k = absurd (omega arith)
at_mem (x ∷ xs) none zero k = Memᴰ.head refl
at_mem (x ∷ xs) none (suc i) k = Memᴰ.tail (at_mem xs none i (omega arith))
