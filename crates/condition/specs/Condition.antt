-- Theorem 1 of Tseng and Vaidya, "Byzantine Consensus in Directed Graphs", over arbitrary sets of servers. V is the servers below n; links
-- are a test on pairs. Changes from the paper: servers are numbered from 0; a set is a test, of which only the servers below n count.
--     Arrow n f E A B       <-> A → B of Definition 1: A contains at least f + 1 distinct incoming neighbours of B
--     Partition n F L C R   <-> each server of V is in exactly one of F, L, C, R
--     Broken n f E F L C R  <-> F, L, C, R are such a partition and neither holds
--     Exact, Sound, Inside, First    what the split test says of it
--     Condition n f E       <-> for any partition with L and R not empty and |F| ≤ f, either L∪C → R or R∪C → L
use Rattle.std.specs.Prelude.{◌≡◌, ◌⊎◌, ◌↔◌, true, ◌&&◌, ◌||◌, List, ℕ, ◌^◌, ◌≤◌, ◌<◌}
use Rattle.sets.specs.Sets.{Set, Edges, In, has, count}
use Rattle.network.specs.Links.{Links, linked_in}
use Rattle.network.specs.Card.{network, read_card}
use Rattle.split.specs.Split.{good, bad, some_below, split_test}

-- i is an incoming neighbour of B: some j of B has (i, j) in E
unfoldable pub neighbour : ℕ → Edges → Set → Set
neighbour n E B i = some_below n (λ (j : ℕ). B j && E i j)

-- |{i : (i, j) ∈ E, i ∈ A, j ∈ B}| > f
abbrev pub Arrow : ℕ → ℕ → Edges → Set → Set → Type 0
Arrow n f E A B = f < count n (λ (i : ℕ). A i && neighbour n E B i)

abbrev pub joined : Set → Set → Set
joined A B i = A i || B i

pub record Partition (n : ℕ) (F L C R : Set) : Type 0 where
  pub whole : (i : ℕ) → i < n → (F i || (L i || (C i || R i))) ≡ true
  pub FL : (i : ℕ) → i < n → In F i → In L i → ⊥
  pub FC : (i : ℕ) → i < n → In F i → In C i → ⊥
  pub FR : (i : ℕ) → i < n → In F i → In R i → ⊥
  pub LC : (i : ℕ) → i < n → In L i → In C i → ⊥
  pub LR : (i : ℕ) → i < n → In L i → In R i → ⊥
  pub CR : (i : ℕ) → i < n → In C i → In R i → ⊥

-- p has a server of V
abbrev pub Some : ℕ → Set → Type 0
Some n p = (i : ℕ) × (i < n) × In p i

abbrev pub Condition : ℕ → ℕ → Edges → Type 0
Condition n f E =
    (F L C R : Set) → Partition n F L C R → Some n L → Some n R → count n F ≤ f
    → Arrow n f E (joined L C) R ⊎ Arrow n f E (joined R C) L

-- a partition that breaks it
pub record Broken (n f : ℕ) (E : Edges) (F L C R : Set) : Type 0 where
  pub partition : Partition n F L C R
  pub left : Some n L
  pub right : Some n R
  pub few : count n F ≤ f
  pub no_arrow_r : Arrow n f E (joined L C) R → ⊥
  pub no_arrow_l : Arrow n f E (joined R C) L → ⊥

-- F', L', R' come before F, L, R in the order of splits
abbrev pub Earlier : (F' L' R' F L R : ℕ) → Type 0
Earlier F' L' R' F L R = (F' < F) ⊎ ((F' ≡ F) × (L' < L)) ⊎ ((F' ≡ F) × (L' ≡ L) × (R' < R))

-- The test and the theorem, for the network that a card gives.

-- "none" is answered exactly if the condition holds
abbrev pub Exact : Type 0
Exact =
    (s : List ℕ) (n f : ℕ) (links : Links) → read_card s ≡ network n f links
    → (split_test s ≡ good) ↔ Condition n f (linked_in links)

-- what is reported breaks the condition
abbrev pub Sound : Type 0
Sound =
    (s : List ℕ) (n f : ℕ) (links : Links) → read_card s ≡ network n f links
    → (F L C R : ℕ) → split_test s ≡ bad F L C R
    → Broken n f (linked_in links) (has F) (has L) (has C) (has R)

-- what is reported are four sets of V: as numbers they are below 2^n
abbrev pub Inside : Type 0
Inside =
    (s : List ℕ) (n f : ℕ) (links : Links) → read_card s ≡ network n f links
    → (F L C R : ℕ) → split_test s ≡ bad F L C R
    → (F < 2 ^ n) × (L < 2 ^ n) × (C < 2 ^ n) × (R < 2 ^ n)

-- and no split before it breaks the condition
abbrev pub First : Type 0
First =
    (s : List ℕ) (n f : ℕ) (links : Links) → read_card s ≡ network n f links
    → (F L C R : ℕ) → split_test s ≡ bad F L C R
    → (F' L' C' R' : ℕ) → F' < 2 ^ n → L' < 2 ^ n → R' < 2 ^ n → Earlier F' L' R' F L R
    → Broken n f (linked_in links) (has F') (has L') (has C') (has R') → ⊥
