-- The incoming neighbours that a set holds. The program counts with numbers and leaves out the members of the set itself; the paper counts
-- with tests and does not. For sets that do not meet the two counts are one (held_count).
-- Assumes nothing.
use mathlib.Core.Path.{◌≡◌}
use mathlib.Core.Bool.{◌&&◌}
use Prim.Native.Nat.{ℕ, ◌<◌}
use Rattle.facts.proofs.Bools.{cases, is_false}
use Rattle.sets.specs.Sets.{Set, In, has, count}
use Rattle.sets.proofs.Counts.{count_same}
use Rattle.network.specs.Links.{Links, linked_in}
use Rattle.split.specs.Split.{some_below, incoming, held}
use Rattle.split.proofs.Neighbours.{some_below_same}
use Rattle.condition.specs.Condition.{neighbour}

-- the number s has the members of p below n
abbrev pub Agree : ℕ → ℕ → Set → Type 0
Agree n s p = (i : ℕ) → i < n → has s i ≡ p i

-- no server of V is in both
abbrev pub Apart : ℕ → Set → Set → Type 0
Apart n p q = (i : ℕ) → i < n → In p i → In q i → ⊥

module _ (n : ℕ) (links : Links) (a s : ℕ) (A B : Set) where
  same_neighbour : Agree n s B → (u : ℕ)
      → some_below n (λ (v : ℕ). has s v && linked_in links u v) ≡ neighbour n (linked_in links) B u
  unfolding neighbour
  same_neighbour hs u =
      some_below_same n (λ (v : ℕ). has s v && linked_in links u v) (λ (v : ℕ). B v && linked_in links u v) (λ i k. let e = hs i k in cc)

  same_held : Agree n a A → Agree n s B → Apart n A B
      → (u : ℕ) → u < n → (has a u && incoming n links s u) ≡ (A u && neighbour n (linked_in links) B u)
  unfolding incoming
  same_held ha hs apart u k =
      let e = ha u k in
      let g = hs u k in
      let w = same_neighbour hs u in
      cases (A u)
      (λ x. let y = is_false (B u) (apart u k x) in cc)
      (λ x. cc)

  pub held_count : Agree n a A → Agree n s B → Apart n A B
      → held n links a s ≡ count n (λ (u : ℕ). A u && neighbour n (linked_in links) B u)
  unfolding held
  held_count ha hs apart =
      count_same n (λ (u : ℕ). has a u && incoming n links s u) (λ (u : ℕ). A u && neighbour n (linked_in links) B u) (same_held ha hs apart)
