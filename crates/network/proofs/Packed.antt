-- Eight marks as the number of the marked servers, the way the code goes: a word with a byte for each mark, brought side by side. One test over the
-- 256 rows that eight marks can make is computed (`all_packed`) and holds of each row (`every_at`).
--     packed l     == what the code makes of the marks l
--     packed_is    it is the number of the marked servers
-- Assumes nothing.
use mathlib.Core.Path.{◌≡◌, refl}
use mathlib.Core.Bool.{Bool, true, false, ◌&&◌}
use mathlib.Core.List.{List, [], ◌∷◌}
use Prim.Native.Nat.{ℕ, zero, suc, ◌*◌, ◌/◌, ◌%◌, ◌^◌}
use native.Mathlib.Omega.{arith}
use mir.Val.{bool_byte}
use lib.ListN.{length, get_or}
use lib.Bits.{bit_or}
use lib.Dec.{eqb}
use borrow.Author.Tests.{eqb-true}
use Rattle.facts.proofs.Bools.{and_left, and_right}
use Rattle.sets.specs.Sets.{encode}

-- p holds of every row of k marks
unfoldable every : ℕ → (List Bool → Bool) → Bool
every zero p = p []
every (suc k) p = every k (λ l. p (true ∷ l)) && every k (λ l. p (false ∷ l))

every_at : (k : ℕ) (p : List Bool → Bool) → every k p ≡ true → (l : List Bool) → length l ≡ k → p l ≡ true
unfolding every
every_at zero p e [] h = e
every_at zero p e (b ∷ l) h = absurd (omega arith)
every_at (suc k) p e [] h = absurd (omega arith)
every_at (suc k) p e (true ∷ l) h = every_at k (λ l. p (true ∷ l)) (and_left _ (every k (λ l. p (false ∷ l))) e) l (omega arith)
every_at (suc k) p e (false ∷ l) h = every_at k (λ l. p (false ∷ l)) (and_right (every k (λ l. p (true ∷ l))) _ e) l (omega arith)

abbrev mark : List Bool → ℕ → ℕ
mark l v = bool_byte (get_or l v false)

abbrev lower : List Bool → ℕ
lower l = bit_or (bit_or (bit_or (mark l 0) (mark l 1 * 2 ^ 8 % 2 ^ 64)) (mark l 2 * 2 ^ 16 % 2 ^ 64)) (mark l 3 * 2 ^ 24 % 2 ^ 64)

abbrev upper : List Bool → ℕ
upper l = bit_or (bit_or (bit_or (mark l 4 * 2 ^ 32 % 2 ^ 64) (mark l 5 * 2 ^ 40 % 2 ^ 64)) (mark l 6 * 2 ^ 48 % 2 ^ 64)) (mark l 7 * 2 ^ 56 % 2 ^ 64)

-- x with what stands k digits higher laid over it
abbrev beside : ℕ → ℕ → ℕ
beside k x = bit_or x (x / 2 ^ k)

abbrev packed : List Bool → ℕ
packed l = beside 28 (beside 14 (beside 7 (bit_or (lower l) (upper l)))) % 256

abbrev rightly : List Bool → Bool
rightly l = eqb (packed l) (encode 8 (λ (v : ℕ). get_or l v false))

all_packed : every 8 rightly ≡ true
unfolding every encode
all_packed = refl

pub packed_is : (l : List Bool) → length l ≡ 8 → packed l ≡ encode 8 (λ (v : ℕ). get_or l v false)
packed_is l h = eqb-true _ _ (every_at 8 rightly all_packed l h)
