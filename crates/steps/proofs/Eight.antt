-- The values of the servers as a list of eight.
--     values_at     the value of a server
--     values_ext    two such lists are the same if the values of all servers are
--     values_held   a list of eight is the list of its values
-- Assumes nothing.
use mathlib.Core.Path.{◌≡◌, refl, sym, ap, ◌∙◌}
use mathlib.Core.List.{List, [], ◌∷◌}
use Prim.Native.Nat.{ℕ, zero, suc, ◌+◌, ◌<◌}
use native.Mathlib.Omega.{arith}
use lib.ListN.{length, get_or}
use Rattle.steps.specs.Steps.{held, values_from, values}

pub value_at : (k lo : ℕ) (g : ℕ → ℕ) (i : ℕ) → i < k → get_or (values_from k lo g) i 0 ≡ g (lo + i)
unfolding values_from
value_at zero lo g i h = absurd (omega arith)
value_at (suc k) lo g zero h = let z : lo + 0 ≡ lo = omega arith in sym (ap g z)
value_at (suc k) lo g (suc i) h = let z : suc lo + i ≡ lo + suc i = omega arith in value_at k (suc lo) g i (omega arith) ∙ ap g z

pub values_long : (k lo : ℕ) (g : ℕ → ℕ) → length (values_from k lo g) ≡ k
unfolding values_from
values_long zero lo g = refl
values_long (suc k) lo g = ap suc (values_long k (suc lo) g)

from_ext : (k lo : ℕ) (g h : ℕ → ℕ) → ((i : ℕ) → i < k → g (lo + i) ≡ h (lo + i)) → values_from k lo g ≡ values_from k lo h
unfolding values_from
from_ext zero lo g h e = refl
from_ext (suc k) lo g h e =
    let z : lo + 0 ≡ lo = omega arith in
    let first : g lo ≡ h lo = rw z at (e 0 (omega arith)) in
    let rest = from_ext k (suc lo) g h (λ i l. let y : lo + suc i ≡ suc lo + i = omega arith in rw y at (e (suc i) (omega arith))) in
    λ i. first i ∷ rest i

from_held : (l : List ℕ) (lo : ℕ) (g : ℕ → ℕ) → ((i : ℕ) → i < length l → g (lo + i) ≡ get_or l i 0) → values_from (length l) lo g ≡ l
unfolding values_from
from_held [] lo g e = refl
from_held (x ∷ xs) lo g e =
    let z : lo + 0 ≡ lo = omega arith in
    let first : g lo ≡ x = rw z at (e 0 (omega arith)) in
    let rest = from_held xs (suc lo) g (λ i l. let y : lo + suc i ≡ suc lo + i = omega arith in rw y at (e (suc i) (omega arith))) in
    λ i. first i ∷ rest i

pub values_at : (g : ℕ → ℕ) (i : ℕ) → i < 8 → get_or (values g) i 0 ≡ g i
unfolding values
values_at g i h = value_at 8 0 g i h ∙ (let z : 0 + i ≡ i = omega arith in ap g z)

pub values_ext : (g h : ℕ → ℕ) → ((i : ℕ) → i < 8 → g i ≡ h i) → values g ≡ values h
unfolding values
values_ext g h e = from_ext 8 0 g h (λ i l. let z : 0 + i ≡ i = omega arith in rw z (e i l))

-- a list of eight whose values are those of g
pub values_is : (l : List ℕ) (g : ℕ → ℕ) → length l ≡ 8 → ((i : ℕ) → i < 8 → g i ≡ get_or l i 0) → values g ≡ l
unfolding values
values_is l g long e =
    let same = from_held l 0 g (λ i h. let z : 0 + i ≡ i = omega arith in rw z (e i (omega arith))) in
    rw long at same

pub values_held : (l : List ℕ) → length l ≡ 8 → values (held l) ≡ l
values_held l long = values_is l (held l) long (λ i h. refl)
