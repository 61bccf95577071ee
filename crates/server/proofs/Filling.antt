-- The loop that lays one value down so many times, and stores only where another byte stands.
--     Filling        the bytes so far have the value, the later ones are as they were
--     filling-..     its start; a byte that is stored; one that has the value already; and its end
-- Assumes nothing.
use mathlib.Core.Path.{◌≡◌, refl, sym, ap, ◌∙◌}
use mathlib.Core.List.{List, [], ◌∷◌, ◌++◌}
use Prim.Native.Nat.{ℕ, zero, suc, ◌+◌, ◌≤◌, ◌<◌}
use native.Mathlib.Omega.{arith}
use native.Mathlib.Numerals.{add-one}
use lib.ListN.{length, get_or, set, drop, replicate, length-set}
use Rattle.std.proofs.lemmas.List.{set-get_or}

filled : (x i : ℕ) (lent : List ℕ) → i < length lent → set (replicate i x ++ drop i lent) i x ≡ replicate (suc i) x ++ drop (suc i) lent
filled x i [] h = absurd (omega arith)
filled x zero (y ∷ lent) h = refl
filled x (suc i) (y ∷ lent) h = ap (λ (l : List ℕ). x ∷ l) (filled x i lent (omega arith))

pub record Filling (x count : ℕ) (lent : List ℕ) (i : ℕ) (now : List ℕ) : Type 0 where
  pub most : i ≤ count
  pub long : length now ≡ length lent
  pub same : now ≡ replicate i x ++ drop i lent

pub filling_starts : (x count : ℕ) (lent : List ℕ) → Filling x count lent 0 lent
filling_starts x count lent = record { most = omega arith; long = refl; same = refl }

module _ (x count : ℕ) (lent : List ℕ) (fits : count ≤ length lent) (i : ℕ) (now : List ℕ) (so : Filling x count lent i now) where
  pub filling_goes : i < count → Filling x count lent (i + 1) (set now i x)
  filling_goes h =
      let next = add-one i in
      let e = so.same in
      record { most = omega arith; long = length-set now i x ∙ so.long; same = rw (next, e) (filled x i lent (omega arith)) }

  pub filling_passes : i < count → get_or now i 0 ≡ x → Filling x count lent (i + 1) now
  filling_passes h e = rw (sym (ap (set now i) e) ∙ set-get_or now i 0) at (filling_goes h)

  pub filling_ends : count ≤ i → now ≡ replicate count x ++ drop count lent
  filling_ends h = let a = so.most in let e : i ≡ count = omega arith in rw e at so.same
