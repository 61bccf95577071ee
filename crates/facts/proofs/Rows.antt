-- The length of a row of an array of arrays: what owning the array tells, taken out for one row.
-- Assumes nothing.
use mathlib.Core.Path.{◌≡◌}
use mathlib.Core.List.{List, [], ◌∷◌}
use Prim.Native.Nat.{ℕ, zero, suc, ◌<◌}
use native.Mathlib.Omega.{arith}
use base.Fml.{Fml}
use mir.Val.{Val}
use lib.ListN.{length, get_or}
use denote.Array.{each, in_array}
use denote.Shadow.{shadow}

pub row_long : (d : Type 0) (own : d → List Val → Fml) (n : ℕ) (rows : List (List d)) (us : List Val) (u : ℕ) → shadow (each (List d) (in_array d own n) rows us) → u < length rows → length (get_or rows u []) ≡ n
row_long d own n [] us u p h = absurd (omega arith)
row_long d own n (x ∷ xs) [] u p h = absurd p
row_long d own n (x ∷ xs) (v ∷ us) zero p h = p.0.1.0.1
row_long d own n (x ∷ xs) (v ∷ us) (suc u) p h = row_long d own n xs us u p.1 (omega arith)
