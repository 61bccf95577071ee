-- What holds of accepted plans and of calls to run. Every card, every plan accepted for it, every input list, every faulty set of at most f servers and
-- every message table, the empty one too.
--     Chooses           the choices of an accepted plan are such as Algorithm BC allows, and have every cut
--     DecidesAsBc       the byte of every sound server is what Algorithm BC with the plan's choices leaves it with
--     Demand3           there are a bit b and a sound server with input b, and the byte of every sound server is b
--     Unheard           bytes of the message table past the last carriage have no effect
--     SilenceMeansOpen  a missing byte of the message table does what the byte 0 does
--     Unchanged         a refused call changes no byte of the lent buffer; Untouched: no call changes one past the first n
use Rattle.std.specs.Prelude.{◌≡◌, List, ◌++◌, ℕ, ◌≤◌, ◌<◌, get_or, take, drop, replicate}
use Rattle.facts.specs.Lists.{Each}
use Rattle.sets.specs.Sets.{Set, Edges, Out, has, count}
use Rattle.refusal.specs.Refused.{Refused}
use Rattle.network.specs.Links.{Links, linked_in}
use Rattle.network.specs.Card.{network, read_card}
use Rattle.plan.specs.Check.{Totals, totals, turned}
use Rattle.rules.specs.Blocks.{decode_plan}
use Rattle.rules.specs.Theorems.{Accepted}
use Rattle.bc.specs.Algorithm.{Choice, bc}
use Rattle.bc.specs.Allowed.{Allowed, Covers}
use Rattle.steps.specs.Steps.{held}
use Rattle.steps.specs.Run.{run_plan, lent_after}
use Rattle.steps.specs.Choices.{choices_of}

-- the F of an iteration is not X
abbrev pub Other : ℕ → Set → Choice → Type 0
Other n X b = ((i : ℕ) → i < n → b.F i ≡ X i) → ⊥

-- the iterations of bs with F = X stand together, and have every cut of V − X
pub record Grouped (n : ℕ) (X : Set) (bs : List Choice) : Type 0 where
  pub pre : List Choice
  pub mid : List Choice
  pub post : List Choice
  pub whole : bs ≡ pre ++ mid ++ post
  pub before : Each (Other n X) pre
  pub covers : Covers n X mid
  pub after : Each (Other n X) post

-- the iterations bs, in a network with the links E: each is such as the algorithm allows, and for each X of at most f servers those with F = X stand
-- together and have every cut
pub record WellChosen (n f : ℕ) (E : Edges) (bs : List Choice) : Type 0 where
  pub allowed : Each (Allowed n f E) bs
  pub grouped : (X : Set) → count n X ≤ f → Grouped n X bs

-- nothing is asked of the plan but its acceptance
abbrev pub Chooses : Type 0
Chooses =
    (card plan : List ℕ) (n f : ℕ) (links : Links) → read_card card ≡ network n f links → Accepted card plan
    → (table : List ℕ) → WellChosen n f (linked_in links) (choices_of table 0 (decode_plan n f plan))

abbrev pub DecidesAsBc : Type 0
DecidesAsBc =
    (card plan inputs : List ℕ) (X : ℕ) (table lent : List ℕ) (n f : ℕ) (links : Links) → read_card card ≡ network n f links
    → (blocks carriages : ℕ) → run_plan card plan inputs X lent ≡ totals blocks carriages
    → (i : ℕ) → i < n → Out (has X) i
    → get_or (lent_after card plan inputs X table lent) i 0 ≡ bc n (has X) (choices_of table 0 (decode_plan n f plan)) (held inputs) i

-- all sound servers' bytes are b, which is some sound server's input
pub record Agreed (n X : ℕ) (inputs bytes : List ℕ) : Type 0 where
  pub bit : ℕ
  pub small : bit < 2
  pub server : ℕ
  pub among : server < n
  pub sound : Out (has X) server
  pub input : get_or inputs server 0 ≡ bit
  pub decided : (i : ℕ) → i < n → Out (has X) i → get_or bytes i 0 ≡ bit

abbrev pub Demand3 : Type 0
Demand3 =
    (card plan inputs : List ℕ) (X : ℕ) (table lent : List ℕ) (n f : ℕ) (links : Links) → read_card card ≡ network n f links
    → (blocks carriages : ℕ) → run_plan card plan inputs X lent ≡ totals blocks carriages
    → Agreed n X inputs (lent_after card plan inputs X table lent)

-- how many carriages a call has; a refused one has none
abbrev pub carriages_in : Totals → ℕ
carriages_in (totals blocks carriages) = carriages
carriages_in (turned r) = 0

-- whatever the call's answer: tables that begin alike, as far as there are carriages, leave the same bytes
abbrev pub Unheard : Type 0
Unheard =
    (card plan inputs : List ℕ) (X : ℕ) (table table' lent : List ℕ)
    → take (carriages_in (run_plan card plan inputs X lent)) table ≡ take (carriages_in (run_plan card plan inputs X lent)) table'
    → lent_after card plan inputs X table lent ≡ lent_after card plan inputs X table' lent

-- whatever the call's answer: a table and the same with any number of zeros after it leave the same bytes
abbrev pub SilenceMeansOpen : Type 0
SilenceMeansOpen =
    (card plan inputs : List ℕ) (X : ℕ) (table lent : List ℕ) (m : ℕ)
    → lent_after card plan inputs X (table ++ replicate m 0) lent ≡ lent_after card plan inputs X table lent

-- a refused call changes no byte of the lent buffer
abbrev pub Unchanged : Type 0
Unchanged =
    (card plan inputs : List ℕ) (X : ℕ) (table lent : List ℕ) (r : Refused) → run_plan card plan inputs X lent ≡ turned r
    → lent_after card plan inputs X table lent ≡ lent

-- no call changes a byte past the first n
abbrev pub Untouched : Type 0
Untouched =
    (card plan inputs : List ℕ) (X : ℕ) (table lent : List ℕ) (n f : ℕ) (links : Links) → read_card card ≡ network n f links
    → drop n (lent_after card plan inputs X table lent) ≡ drop n lent
