-- What Algorithm BC asks of its choices, in the network of the servers below n with the links E.
--     Disjoint n f E F P j ps    <-> ps are f + 1 disjoint (P, j)-paths excluding F
--     Propagates n f E F P D ps  <-> P propagates in V − F to D (Definition 2), by the paths ps
--     Connected n E F S ps       <-> S is strongly connected in V − F, by the paths ps
--     Neighbours n f E F k ps    <-> ps are f + 1 incoming neighbours of k in V − F
--     Allowed n f E b            <-> the choices of b are such as the algorithm allows
--     Sound n f b                <-> what validity and agreement ask of b, which is less: no links, servers may be twice on a path, nothing about B
--     Covers n X bs              <-> bs are iterations with F = X that have every cut of V − X
-- The paper also asks that A propagates to B. Where S is within A that follows at once, else by its Lemma 10; nothing below rests on it.
use Rattle.std.specs.Prelude.{◌≡◌, ◌⊎◌, true, not, ◌&&◌, ℕ, suc, ◌≤◌, ◌<◌, length}
use mathlib.Core.List.{List, [], ◌∷◌, ◌++◌, Memᴰ}
use Rattle.facts.specs.Lists.{Each}
use Rattle.sets.specs.Sets.{Set, Edges, In, Out, count}
use Rattle.bc.specs.Algorithm.{Path, on_way, Choice, rest}

-- paths

-- the servers of a path to j, j last
abbrev pub along : Path → ℕ → List ℕ
along p j = on_way p ++ (j ∷ [])

-- each has a link to the next
abbrev pub Linked : Edges → List ℕ → Type 0
Linked E [] = Unit
Linked E (s ∷ []) = Unit
Linked E (s ∷ r ∷ rs) = (E s r ≡ true) × Linked E (r ∷ rs)

-- none twice
abbrev pub Once : List ℕ → Type 0
Once [] = Unit
Once (s ∷ ss) = (Memᴰ s ss → ⊥) × Once ss

-- a path to j that excludes F
pub record PathTo (n : ℕ) (E : Edges) (F : Set) (j : ℕ) (p : Path) : Type 0 where
  pub servers : Each (λ s. s < n) (along p j)
  pub clear : Each (λ s. Out F s) (along p j)
  pub once : Once (along p j)
  pub linked : Linked E (along p j)

-- no server of p is on q's way
abbrev pub Apart : Path → Path → Type 0
Apart p q = (s : ℕ) → Memᴰ s (on_way p) → Memᴰ s (on_way q) → ⊥

abbrev pub AllApart : List Path → Type 0
AllApart [] = Unit
AllApart (p ∷ ps) = Each (Apart p) ps × AllApart ps

-- they have j alone in common, sources included
pub record Disjoint (n f : ℕ) (E : Edges) (F P : Set) (j : ℕ) (ps : List Path) : Type 0 where
  pub enough : length ps ≡ suc f
  pub start : Each (λ p. In P p.source) ps
  pub paths : Each (PathTo n E F j) ps
  pub apart : AllApart ps

abbrev pub Propagates : ℕ → ℕ → Edges → Set → Set → Set → (ℕ → List Path) → Type 0
Propagates n f E F P D ps = (j : ℕ) → j < n → In D j → Disjoint n f E F P j (ps j)

abbrev pub Connected : ℕ → Edges → Set → Set → (ℕ → ℕ → Path) → Type 0
Connected n E F S ps = (j i : ℕ) → In S j → In S i → (i ≡ j → ⊥) → PathTo n E F j (ps j i) × ((ps j i).source ≡ i)

pub record Neighbours (n f : ℕ) (E : Edges) (F : Set) (k : ℕ) (ps : List Path) : Type 0 where
  pub enough : length ps ≡ suc f
  pub direct : Each (λ p. p.relays ≡ []) ps
  pub servers : Each (λ p. p.source < n) ps
  pub clear : Each (λ p. Out F p.source) ps
  pub linked : Each (λ p. E p.source k ≡ true) ps
  pub different : AllApart ps

-- choices

-- p has a server, each of V − F
pub record Inside (n : ℕ) (F p : Set) : Type 0 where
  pub some : (i : ℕ) × In p i
  pub below : (i : ℕ) → In p i → i < n
  pub clear : (i : ℕ) → In p i → Out F i

-- the servers of B that are below n: V − F − A
abbrev pub other_side : Choice → Set
other_side b i = not (b.F i) && not (b.A i)

-- the servers of S − A
abbrev pub quorum_outside : Choice → Set
quorum_outside b i = b.S i && not (b.A i)

pub record Allowed (n f : ℕ) (E : Edges) (b : Choice) : Type 0 where
  pub few : count n b.F ≤ f
  pub side : Inside n b.F b.A
  pub other : (i : ℕ) × (i < n) × In (other_side b) i
  pub quorum : Inside n b.F b.S
  pub inward : Propagates n f E b.F b.A (quorum_outside b) b.inward
  pub between : Connected n E b.F b.S b.between
  pub outward : Propagates n f E b.F b.S (rest b) b.outward
  pub reports : (k : ℕ) → k < n → In b.F k → Neighbours n f E b.F k (b.reports k)

-- what validity and agreement ask

-- the servers of a path are below n and none is in F
pub record PathOf (n : ℕ) (F : Set) (p : Path) : Type 0 where
  pub servers : Each (λ s. s < n) (on_way p)
  pub clear : Each (λ s. Out F s) (on_way p)

-- f + 1 paths from P that exclude F and are apart
pub record Separate (n f : ℕ) (F P : Set) (ps : List Path) : Type 0 where
  pub enough : length ps ≡ suc f
  pub start : Each (λ p. In P p.source) ps
  pub paths : Each (PathOf n F) ps
  pub apart : AllApart ps

pub record Sound (n f : ℕ) (b : Choice) : Type 0 where
  pub few : count n b.F ≤ f
  pub A-out : (i : ℕ) → In b.A i → Out b.F i
  pub S-out : (i : ℕ) → In b.S i → Out b.F i
  pub S-below : (i : ℕ) → In b.S i → i < n
  pub S-some : (i : ℕ) × In b.S i
  pub inward : (i : ℕ) → i < n → In b.S i → Out b.A i → Separate n f b.F b.A (b.inward i)
  pub between : (i j : ℕ) → In b.S i → In b.S j → (j ≡ i → ⊥) → PathOf n b.F (b.between i j) × ((b.between i j).source ≡ j)
  pub outward : (i : ℕ) → i < n → Out b.F i → Out b.S i → Separate n f b.F b.S (b.outward i)
  pub reports : (k : ℕ) → k < n → In b.F k → Separate n f b.F (λ (i : ℕ). not (b.F i)) (b.reports k)

-- the iterations `mid` have F = X, and each way of cutting V − X into two parts that are not empty is A and B of one of them
pub record Covers (n : ℕ) (X : Set) (mid : List Choice) : Type 0 where
  pub theirs : Each (λ b. (i : ℕ) → i < n → b.F i ≡ X i) mid
  pub cut : (Z : Set) → (a : ℕ) → a < n → Out X a → In Z a → (c : ℕ) → c < n → Out X c → Out Z c
      → (b : Choice) × Memᴰ b mid × (((i : ℕ) → i < n → Out X i → b.A i ≡ Z i) ⊎ ((i : ℕ) → i < n → Out X i → b.A i ≡ not (Z i)))
