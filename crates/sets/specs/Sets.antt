-- Sets of servers. In a file, in code and in an answer a set is a number, server i standing for 2^i; in a theorem it is a test.
--     Set         == a test on servers
--     Edges       == a test on pairs of servers
--     In p i     <-> i is in p
--     has s i     == i is in the set that the number s stands for
--     single i    == the set of server i alone
--     count n p   == how many servers below n are in p
--     size s      == how many members s has, of the eight that there can be
--     lowest s    == the lowest member of s, 8 for the empty set
--     full n      == all servers below n
--     next s b    == the least set after s that has no server of b, for an s that has none
use Rattle.std.specs.Prelude.{◌≡◌, Bool, true, false, cond, List, ℕ, zero, suc, ◌+◌, ◌-◌, ◌*◌, ◌/◌, ◌%◌, ◌^◌, ◌<◌, eqb, ltb, length, get_or}
use Rattle.std.specs.Int.Bits.{bit_and, bit_or, bit_xor}

abbrev pub Set : Type 0
Set = ℕ → Bool

-- the links of a network in a theorem: a test on pairs of servers
abbrev pub Edges : Type 0
Edges = ℕ → ℕ → Bool

abbrev pub In : Set → ℕ → Type 0
In p i = p i ≡ true

abbrev pub Out : Set → ℕ → Type 0
Out p i = p i ≡ false

-- digit i of s is set
unfoldable pub has : ℕ → Set
has s i = eqb (s / 2 ^ i % 2) 1

-- server i alone, of the eight that there can be
unfoldable pub single : ℕ → ℕ
single i = cond (ltb i 8) (2 ^ i) 0

unfoldable pub union : ℕ → ℕ → ℕ
union a b = bit_or a b

unfoldable pub meet : ℕ → ℕ → ℕ
meet a b = bit_and a b

-- the members of a that are not in b
unfoldable pub minus : ℕ → ℕ → ℕ
minus a b = bit_xor a (bit_and a b)

-- the least set after s that has no server of b, for an s that has none
unfoldable pub next : ℕ → ℕ → ℕ
next s b = minus (union s b + 1) b

-- every member of a is in b
unfoldable pub within : ℕ → ℕ → Bool
within a b = eqb (bit_and a b) a

unfoldable pub full : ℕ → ℕ
full n = 2 ^ n - 1

unfoldable pub count : ℕ → Set → ℕ
count zero p = 0
count (suc n) p = cond (p n) (suc (count n p)) (count n p)

unfoldable pub size : ℕ → ℕ
size s = count 8 (has s)

-- the first of the k numbers from lo on that is in p; lo + k if none is
unfoldable pub first_in : ℕ → ℕ → Set → ℕ
first_in zero lo p = lo
first_in (suc k) lo p = cond (p lo) lo (first_in k (suc lo) p)

unfoldable pub lowest : ℕ → ℕ
lowest s = first_in 8 0 (has s)

-- the number that stands for the members of p below n
unfoldable pub encode : ℕ → Set → ℕ
encode zero p = 0
encode (suc n) p = cond (p 0) 1 0 + 2 * encode n (λ (i : ℕ). p (suc i))

-- xs has f s at s, for each of the 256 sets of eight servers
pub record TableOf (f : ℕ → ℕ) (xs : List ℕ) : Type 0 where
  pub long : length xs ≡ 256
  pub entry : (s : ℕ) → s < 256 → get_or xs s 0 ≡ f s
