-- What must be taken away before a network falls apart, over arbitrary sets of servers, as Theorem 1 is stated; and what the quick test says of it.
--     Separates n E K L R   <-> without K the servers fall into L and R: neither is empty, and no link is between them
--     LeastAway n E k       <-> k is the size of a smallest K that separates; n − 1 if none does
--     TwoWay E              <-> each link has a return
--     Takes, Least, Agrees   what the quick test says
use Rattle.std.specs.Prelude.{◌≡◌, ◌⊎◌, ◌↔◌, Bool, true, ◌||◌, List, ℕ, ◌-◌, ◌≤◌, ◌<◌}
use Rattle.sets.specs.Sets.{Set, Edges, In, Out, count}
use Rattle.refusal.specs.Refused.{call}
use Rattle.network.specs.Links.{Links, linked_in}
use Rattle.network.specs.Card.{network, read_card}
use Rattle.split.specs.Split.{good, split_test}
use Rattle.condition.specs.Condition.{Some}
use Rattle.two_way.specs.Quick.{ruled, turned, older_rule, quick_test}

pub record Separates (n : ℕ) (E : Edges) (K L R : Set) : Type 0 where
  pub whole : (i : ℕ) → i < n → (K i || (L i || R i)) ≡ true
  pub KL : (i : ℕ) → i < n → In K i → In L i → ⊥
  pub KR : (i : ℕ) → i < n → In K i → In R i → ⊥
  pub LR : (i : ℕ) → i < n → In L i → In R i → ⊥
  pub left : Some n L
  pub right : Some n R
  pub no_link_lr : (u v : ℕ) → u < n → v < n → In L u → In R v → Out (E u) v
  pub no_link_rl : (u v : ℕ) → u < n → v < n → In R u → In L v → Out (E u) v

-- some K of k servers separates
abbrev pub Separable : ℕ → Edges → ℕ → Type 0
Separable n E k = (K : Set) × (L : Set) × (R : Set) × Separates n E K L R × (count n K ≡ k)

pub record LeastAway (n : ℕ) (E : Edges) (k : ℕ) : Type 0 where
  pub fewest : (K L R : Set) → Separates n E K L R → k ≤ count n K
  pub reached : Separable n E k ⊎ (((K L R : Set) → Separates n E K L R → ⊥) × (k ≡ n - 1))

abbrev pub TwoWay : Edges → Type 0
TwoWay E = (u v : ℕ) → E u v ≡ true → E v u ≡ true

-- of the cards that are read it takes those whose links all have a return, and answers by the rule for their n and f; the others are 15
abbrev pub Takes : Type 0
Takes =
    (s : List ℕ) (n f : ℕ) (links : Links) → read_card s ≡ network n f links
    → (TwoWay (linked_in links) → (least : ℕ) × (quick_test s ≡ ruled (older_rule n f least) n least))
    × ((TwoWay (linked_in links) → ⊥) → quick_test s ≡ turned (call 15))

-- the number that is answered is the least one
abbrev pub Least : Type 0
Least =
    (s : List ℕ) (n f : ℕ) (links : Links) → read_card s ≡ network n f links
    → (holds : Bool) (m least : ℕ) → quick_test s ≡ ruled holds m least → LeastAway n (linked_in links) least

-- the rule holds exactly if the split test says none
abbrev pub Agrees : Type 0
Agrees = (s : List ℕ) (holds : Bool) (n least : ℕ) → quick_test s ≡ ruled holds n least → (holds ≡ true) ↔ (split_test s ≡ good)
