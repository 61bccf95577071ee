-- The split test of docs/FORMATS.md. V is split into F, L, C, R; sets are numbers; splits come in the order of F, then L, then R.
--     split_test s  == the first bad split of the network of card s, "good" if none is bad, or the card's refusal
use Rattle.std.specs.Prelude.{Bool, false, cond, not, ◌&&◌, ◌||◌, List, ℕ, zero, suc, ◌^◌, eqb, leb}
use Rattle.sets.specs.Sets.{Set, has, union, meet, minus, full, count, size}
use Rattle.refusal.specs.Refused.{Refused}
use Rattle.network.specs.Links.{Links, linked_in}
use Rattle.network.specs.Card.{Network, network, refused, read_card}

pub data Split : Type 0 where
  good : Split
  bad : (f l c r : ℕ) → Split
  unread : Refused → Split

-- some server below n is in p
unfoldable pub some_below : ℕ → Set → Bool
some_below zero p = false
some_below (suc n) p = p n || some_below n p

-- the incoming neighbours of s: servers outside it with a link into it
unfoldable pub incoming : ℕ → Links → ℕ → Set
incoming n links s u = not (has s u) && some_below n (λ (v : ℕ). has s v && linked_in links u v)

-- how many incoming neighbours of s the set a holds
unfoldable pub held : ℕ → Links → ℕ → ℕ → ℕ
held n links a s = count n (λ (u : ℕ). has a u && incoming n links s u)

-- what F, L and R leave of V
unfoldable pub rest : ℕ → ℕ → ℕ → ℕ → ℕ
rest n F L R = minus (minus (full n) F) (union L R)

-- F has at most f servers, L and R are not empty, no two of the three meet
unfoldable pub is_split : ℕ → ℕ → ℕ → ℕ → Bool
is_split f F L R =
    leb (size F) f && (not (eqb L 0) && (not (eqb R 0) && (eqb (meet F L) 0 && (eqb (meet F R) 0 && eqb (meet L R) 0))))

-- L∪C holds at most f incoming neighbours of R, and R∪C at most f of L
unfoldable pub is_bad : ℕ → ℕ → Links → ℕ → ℕ → ℕ → Bool
is_bad n f links L C R = leb (held n links (union L C) R) f && leb (held n links (union R C) L) f

-- the split of F, L and R, if it is one and is bad
unfoldable pub bad_at : ℕ → ℕ → Links → ℕ → ℕ → ℕ → Split
bad_at n f links F L R = cond (is_split f F L R && is_bad n f links L (rest n F L R) R) (bad F L (rest n F L R) R) good

abbrev pub or_else : Split → Split → Split
or_else good later = later
or_else (bad f l c r) later = bad f l c r
or_else (unread r) later = unread r

-- the first of the k numbers from lo on at which p is not good
unfoldable pub first_from : ℕ → ℕ → (ℕ → Split) → Split
first_from zero lo p = good
first_from (suc k) lo p = let later = first_from k (suc lo) p in or_else (p lo) later

unfoldable pub bad_with_sides : ℕ → ℕ → Links → ℕ → ℕ → Split
bad_with_sides n f links F L = first_from (2 ^ n) 0 (bad_at n f links F L)

unfoldable pub bad_with_faults : ℕ → ℕ → Links → ℕ → Split
bad_with_faults n f links F = first_from (2 ^ n) 0 (bad_with_sides n f links F)

unfoldable pub first_bad : ℕ → ℕ → Links → Split
first_bad n f links = first_from (2 ^ n) 0 (bad_with_faults n f links)

abbrev pub split_of : Network → Split
split_of (network n f links) = first_bad n f links
split_of (refused r) = unread r

unfoldable pub split_test : List ℕ → Split
split_test s = split_of (read_card s)
