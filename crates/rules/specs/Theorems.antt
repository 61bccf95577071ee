-- What is proved of the plan check and the rules, for the network that a card gives and any bytes of a plan.
--     Exact     a plan is accepted exactly when it meets the rules
--     Decodes   the decoded blocks of an accepted plan are the due ones within the rules, and encode to its bytes
--     Totalled  the totals are those of the decoded plan
--     Grouped   the blocks of one F stand together, and every cut of V−F is among them
-- And what acceptance alone shows of a card:
--     ShowsRoutable      its network is routable
--     RoutableCondition  a routable network meets Theorem 1's condition; of any number of servers
--     ShowsGood          the split test on the card says "none"
--     ShowsWide          n is at least 3f + 1
use Rattle.std.specs.Prelude.{◌≡◌, ◌⊎◌, ◌↔◌, true, ℕ, ◌+◌, ◌*◌, ◌^◌, ◌≤◌, ◌<◌, length}
use mathlib.Core.List.{List, ◌++◌, Memᴰ}
use Rattle.sets.specs.Sets.{minus, within, full, size}
use Rattle.network.specs.Links.{Links, linked_in}
use Rattle.network.specs.Card.{network, read_card}
use Rattle.split.specs.Split.{good, split_test}
use Rattle.condition.specs.Condition.{Condition}
use Rattle.plan.specs.Due.{due}
use Rattle.plan.specs.Check.{totals, check_plan}
use Rattle.rules.specs.Blocks.{Block, encode_plan, decode_plan, plan_carriages}
use Rattle.facts.specs.Lists.{Each}
use Rattle.rules.specs.Rules.{InOrder, MeetsRules}
use Rattle.rules.specs.Routable.{Routable}

abbrev pub Accepted : List ℕ → List ℕ → Type 0
Accepted card s = (blocks carriages : ℕ) × (check_plan card s ≡ totals blocks carriages)

abbrev pub Exact : Type 0
Exact =
    (card s : List ℕ) (n f : ℕ) (links : Links) → read_card card ≡ network n f links
    → Accepted card s ↔ MeetsRules n f links s

abbrev pub Decodes : Type 0
Decodes =
    (card s : List ℕ) (n f : ℕ) (links : Links) → read_card card ≡ network n f links → Accepted card s
    → InOrder n f links (due n f) (decode_plan n f s) × (encode_plan (decode_plan n f s) ≡ s)

abbrev pub Totalled : Type 0
Totalled =
    (card s : List ℕ) (n f : ℕ) (links : Links) → read_card card ≡ network n f links
    → (blocks carriages : ℕ) → check_plan card s ≡ totals blocks carriages
    → (blocks ≡ length (decode_plan n f s)) × (carriages ≡ length (plan_carriages (decode_plan n f s)))

-- the blocks `mid` are those with F = X, and each cut of V−X into two parts that are not empty has its block there, with one of the parts as A
pub record Together (n X : ℕ) (bs : List Block) : Type 0 where
  pub pre : List Block
  pub mid : List Block
  pub post : List Block
  pub whole : bs ≡ pre ++ mid ++ post
  pub theirs : Each (λ b. b.faults ≡ X) mid
  pub pre_others : Each (λ b. b.faults ≡ X → ⊥) pre
  pub post_others : Each (λ b. b.faults ≡ X → ⊥) post
  pub cut : (Z : ℕ) → within Z (minus (full n) X) ≡ true → (Z ≡ 0 → ⊥) → (Z ≡ minus (full n) X → ⊥)
      → (b : Block) × Memᴰ b mid × ((b.side ≡ Z) ⊎ (b.side ≡ minus (minus (full n) X) Z))

abbrev pub Grouped : Type 0
Grouped =
    (card s : List ℕ) (n f : ℕ) (links : Links) → read_card card ≡ network n f links → Accepted card s
    → (X : ℕ) → X < 2 ^ n → size X ≤ f → Together n X (decode_plan n f s)

abbrev pub ShowsRoutable : Type 0
ShowsRoutable = (card s : List ℕ) (n f : ℕ) (links : Links) → read_card card ≡ network n f links → Accepted card s → Routable n f links

abbrev pub RoutableCondition : Type 0
RoutableCondition = (n f : ℕ) (links : Links) → Routable n f links → Condition n f (linked_in links)

-- nothing is asked of the plan but its acceptance, and nothing of the card
abbrev pub ShowsGood : Type 0
ShowsGood = (card s : List ℕ) → Accepted card s → split_test card ≡ good

abbrev pub ShowsWide : Type 0
ShowsWide = (card s : List ℕ) (n f : ℕ) (links : Links) → read_card card ≡ network n f links → Accepted card s → 3 * f + 1 ≤ n
