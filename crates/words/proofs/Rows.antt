-- The rows of words, laid entry by entry.
--     rows_laid      four words and eight rows
--     counts_laid    0 and eight counts
--     values_laid    the six words of a state and one more
--     front_laid     four words and what follows them
--     card_refused   a refused card: rows without links are zeros
--     cut_laid       a cut and how many servers it has
--     yes_laid       the yes or no of the quick test
--     state_laid     the words of a state, with zeros behind
-- Assumes nothing.
use mathlib.Core.Path.{◌≡◌, refl, sym, ap, ap₂, ◌∙◌}
use mathlib.Core.Bool.{Bool, true, false}
use mathlib.Core.List.{List, [], ◌∷◌, ◌++◌}
use Prim.Native.Nat.{ℕ, zero, suc, ◌+◌}
use native.Mathlib.Omega.{arith}
use lib.ListN.{length, get_or, drop, replicate, drop_of_length-le}
use Rattle.std.proofs.Common.{slice_set}
use lib.Seq.{drop-cons}
use mir.Val.{bool_byte}
use Rattle.sets.specs.Sets.{size}
use Rattle.network.specs.Links.{no_links, linked_in}
use Rattle.network.specs.Rows.{rows_of}
use Rattle.network.proofs.LinkRows.{rows_none}
use Rattle.two_way.specs.Quick.{ruled}
use Rattle.routes.specs.Routing.{cut_off}
use Rattle.words.specs.Words.{quick_words, route_words}

-- the k entries of l from i on
abbrev entries : ℕ → ℕ → List ℕ → List ℕ
entries zero i l = []
entries (suc k) i l = get_or l i 0 ∷ entries k (suc i) l

entries_are : (k i : ℕ) (l : List ℕ) → length l ≡ i + k → entries k i l ≡ drop i l
entries_are zero i l h = sym (drop_of_length-le l {i = i} (omega arith))
entries_are (suc k) i l h = let ih = entries_are k (suc i) l (omega arith) in let d = drop-cons l i 0 (omega arith) in cc

pub rows_laid : (front rows : List ℕ) → length front ≡ 4 → length rows ≡ 8 → (all : List ℕ) → rows ≡ all → entries 4 0 front ++ entries 8 0 rows ≡ front ++ all
rows_laid front rows h k all e = ap₂ (λ (x y : List ℕ). x ++ y) (entries_are 4 0 front (omega arith)) (entries_are 8 0 rows (omega arith) ∙ e)

pub counts_laid : (counts : List ℕ) → length counts ≡ 8 → 0 ∷ entries 8 0 counts ≡ 0 ∷ counts
counts_laid counts h = ap (λ (x : List ℕ). 0 ∷ x) (entries_are 8 0 counts h)

pub values_laid : (words : List ℕ) (values : ℕ) → length words ≡ 6 → (all : List ℕ) → words ≡ all → entries 6 0 words ++ values ∷ [] ≡ all ++ values ∷ []
values_laid words values h all e = ap (λ (x : List ℕ). x ++ values ∷ []) (entries_are 6 0 words h ∙ e)

pub front_laid : (front all : List ℕ) → front ≡ all → (rest : List ℕ) → entries 4 0 front ++ rest ≡ entries 4 0 all ++ rest
front_laid front all e rest = ap (λ (x : List ℕ). entries 4 0 x ++ rest) e

pub card_refused : (front all : List ℕ) → front ≡ all → front ++ rows_of (linked_in no_links) ≡ all ++ 0 ∷ 0 ∷ 0 ∷ 0 ∷ 0 ∷ 0 ∷ 0 ∷ 0 ∷ []
card_refused front all h = rw (h, rows_none) refl

pub cut_laid : (servers many : ℕ) → many ≡ size servers → 0 ∷ 0 ∷ servers ∷ many ∷ [] ≡ route_words (cut_off servers)
cut_laid servers many e = rw e refl

-- yes is 1 and no is 0
pub yes_laid : (holds : Bool) (n least : ℕ) → 0 ∷ bool_byte holds ∷ n ∷ least ∷ [] ≡ quick_words (ruled holds n least)
yes_laid true n least = refl
yes_laid false n least = refl

pub state_laid : (n m : ℕ) → n ≡ suc (suc (suc (suc (suc (suc m))))) → (a b c d e : ℕ) → slice_set (slice_set (slice_set (slice_set (slice_set (replicate n 0) 1 a) 2 b) 3 c) 4 d) 5 e ≡ 0 ∷ a ∷ b ∷ c ∷ d ∷ e ∷ replicate m 0
state_laid n m h a b c d e = rw h refl
