-- What a carriage brings to its receiver, and what a receiver hears. X is the faulty set handed to the call, `table` the message table.
--     silence        == what a missing byte is taken for
--     read b         == a byte as a value: 0 and 1 as they are, any other as 2
--     message ..     == the byte of a number, as it is read
--     brought ..     == the table's byte of the carriage's number if a server other than the receiver is faulty, else what the source holds
--     heard ..       == what the carriages whose receiver is r bring, in plan order; the first of the list has number k
--     common l       == the value that all of l are, 2 if they are not alike or there is none
use Rattle.std.specs.Prelude.{Bool, true, false, cond, ◌&&◌, ◌||◌, List, [], ◌∷◌, ℕ, suc, eqb, ltb, get_or}
use Rattle.sets.specs.Sets.{has}
use Rattle.rules.specs.Blocks.{Carriage}

-- some server of the list is in X
unfoldable pub hit : ℕ → List ℕ → Bool
hit X [] = false
hit X (s ∷ ss) = has X s || hit X ss

-- no word from an office means that the recap is open
abbrev pub silence : ℕ
silence = 0

unfoldable pub read : ℕ → ℕ
read b = cond (ltb b 2) b 2

unfoldable pub message : List ℕ → ℕ → ℕ
message table k = read (get_or table k silence)

unfoldable pub brought : ℕ → List ℕ → ℕ → (ℕ → ℕ) → Carriage → ℕ
brought X table k held c = cond (hit X c.before) (message table k) (held (get_or c.before 0 0))

unfoldable pub heard : ℕ → List ℕ → ℕ → (ℕ → ℕ) → List Carriage → ℕ → List ℕ
heard X table k held [] r = []
heard X table k held (c ∷ cs) r =
    let later = heard X table (suc k) held cs r in
    cond (eqb c.receiver r) (brought X table k held c ∷ later) later

-- every one of the list is x
unfoldable pub all : ℕ → List ℕ → Bool
all x [] = true
all x (y ∷ ys) = eqb y x && all x ys

unfoldable pub common : List ℕ → ℕ
common [] = 2
common (x ∷ xs) = cond (all x xs) x 2
