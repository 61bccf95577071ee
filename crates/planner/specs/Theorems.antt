-- What is proved of the plan that is written.
--     Writes       whenever the split test on a card says "none", the plan check accepts the plan that is written for it
--     Shortest     and no plan that is accepted for the card is shorter
--     Chooses      in each of its blocks S is f + 1 servers, all of them in A
--     Lengthy      its length depends on n and f alone, and is within a plan's limit
--     Accepts      every call that is answered: the plan check accepts the lent bytes up to the number that is answered
--     Refuses17    a card that is read is refused 17 with a split exactly if the split test reports that split, whatever is lent
--     Refuses18    of the cards whose split test says "none" those are refused 18 whose plan is longer than what is lent
--     Unchanged    a refused call leaves every lent byte as it was; Untouched: no call changes one past the plan
use Rattle.std.specs.Prelude.{◌≡◌, ◌↔◌, ℕ, ◌+◌, ◌≤◌, ◌<◌, length, take, drop}
use mathlib.Core.List.{List}
use Rattle.refusal.specs.Refused.{call}
use Rattle.sets.specs.Sets.{In, has, size}
use Rattle.network.specs.Links.{Links}
use Rattle.network.specs.Card.{network, read_card}
use Rattle.split.specs.Split.{good, bad, split_test}
use Rattle.facts.specs.Lists.{Each}
use Rattle.rules.specs.Blocks.{Block}
use Rattle.rules.specs.Theorems.{Accepted}
use Rattle.planner.specs.Plan.{plan_of, plan_length}
use Rattle.planner.specs.Write.{wrote, broken, unwritten, plan_for, write_into, written_in}

abbrev pub Writes : Type 0
Writes = (card : List ℕ) → split_test card ≡ good → Accepted card (plan_for card)

abbrev pub Shortest : Type 0
Shortest = (card s : List ℕ) → Accepted card s → length (plan_for card) ≤ length s

-- S is f + 1 servers of A
pub record Least (f : ℕ) (b : Block) : Type 0 where
  pub few : size b.quorum ≡ f + 1
  pub inside : (x : ℕ) → In (has b.quorum) x → In (has b.side) x

abbrev pub Chooses : Type 0
Chooses = (card : List ℕ) (n f : ℕ) (links : Links) → read_card card ≡ network n f links → split_test card ≡ good → Each (Least f) (plan_of n f links)

abbrev pub Lengthy : Type 0
Lengthy =
    (card : List ℕ) (n f : ℕ) (links : Links) → read_card card ≡ network n f links → split_test card ≡ good
    → (length (plan_for card) ≡ plan_length n f) × (plan_length n f ≤ 1048576)

abbrev pub Accepts : Type 0
Accepts = (card lent : List ℕ) (bytes : ℕ) → write_into card lent ≡ wrote bytes → Accepted card (take bytes (written_in card lent))

abbrev pub Refuses17 : Type 0
Refuses17 =
    (card lent : List ℕ) (F L C R : ℕ) → (write_into card lent ≡ broken (call 17) F L C R) ↔ (split_test card ≡ bad F L C R)

abbrev pub Refuses18 : Type 0
Refuses18 =
    (card lent : List ℕ) → split_test card ≡ good → (write_into card lent ≡ unwritten (call 18)) ↔ (length lent < length (plan_for card))

abbrev pub Unchanged : Type 0
Unchanged = (card lent : List ℕ) → ((bytes : ℕ) → write_into card lent ≡ wrote bytes → ⊥) → written_in card lent ≡ lent

abbrev pub Untouched : Type 0
Untouched = (card lent : List ℕ) → drop (length (plan_for card)) (written_in card lent) ≡ drop (length (plan_for card)) lent
