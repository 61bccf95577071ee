-- Bytes laid over a buffer.
--     laid_append    two parts, one after the other, are their join
--     length_laid    the buffer keeps its length
--     laid_whole     a buffer that is long enough holds the whole, and its later bytes are untouched
--     laid_mid       so it does from a place on
-- Assumes nothing.
use mathlib.Core.Path.{◌≡◌, refl, sym, ap, ◌∙◌}
use mathlib.Core.List.{List, [], ◌∷◌, ◌++◌}
use Prim.Native.Nat.{ℕ, zero, suc, ◌+◌, ◌≤◌}
use native.Mathlib.Nat.{add-zero, add-suc, suc-add}
use native.Mathlib.Omega.{arith}
use lib.ListN.{length, set, take, drop, length-set}
use Rattle.facts.specs.Laid.{laid}

pub laid_append : (at : ℕ) (a b l : List ℕ) → laid at (a ++ b) l ≡ laid (at + length a) b (laid at a l)
unfolding laid
laid_append at [] b l = rw add-zero refl
laid_append at (x ∷ a) b l = rw (add-suc, ← suc-add) (laid_append (suc at) a b (set l at x))

pub length_laid : (at : ℕ) (text l : List ℕ) → length (laid at text l) ≡ length l
unfolding laid
length_laid at [] l = refl
length_laid at (b ∷ bs) l = length_laid (suc at) bs (set l at b) ∙ length-set l at b

-- what stands before the place is untouched
laid_after : (at : ℕ) (text : List ℕ) (x : ℕ) (l : List ℕ) → laid (suc at) text (x ∷ l) ≡ x ∷ laid at text l
unfolding laid
laid_after at [] x l = refl
laid_after at (b ∷ bs) x l = laid_after (suc at) bs x (set l at b)

pub laid_whole : (text l : List ℕ) → length text ≤ length l → laid 0 text l ≡ text ++ drop (length text) l
unfolding laid
laid_whole [] l h = refl
laid_whole (b ∷ bs) [] h = absurd (omega arith)
laid_whole (b ∷ bs) (x ∷ l) h = laid_after 0 bs b l ∙ ap (λ (r : List ℕ). b ∷ r) (laid_whole bs l (omega arith))

pub laid_mid : (at : ℕ) (text l : List ℕ) → at + length text ≤ length l → take at l ++ (text ++ drop (length text) (drop at l)) ≡ laid at text l
laid_mid zero text l h = sym (laid_whole text l (omega arith))
laid_mid (suc at) text [] h = absurd (omega arith)
laid_mid (suc at) text (x ∷ l) h = ap (λ (r : List ℕ). x ∷ r) (laid_mid at text l (omega arith)) ∙ sym (laid_after at text x l)
