-- What a call of the interface says where it says more than one row of words: the words, the lent bytes after it, and what holds of them.
-- The rows of words themselves are those of `words`.
use Rattle.std.specs.Prelude.{◌≡◌, List, [], ◌∷◌, ℕ, ◌+◌, ◌*◌, ◌≤◌, length, take}
use Rattle.network.specs.Card.{network, read_card}
use Rattle.network.specs.Links.{Links}
use Rattle.split.specs.Split.{good, split_test}
use Rattle.printer.specs.Print.{print_into, printed_in}
use Rattle.two_way.specs.Quick.{quick_test}
use Rattle.plan.specs.Check.{totals, check_plan}
use Rattle.rules.specs.Theorems.{Accepted}
use Rattle.rules.specs.Blocks.{Route}
use Rattle.flow.specs.Theorems.{Found, CutOff}
use Rattle.routes.specs.Routing.{routed, cut_off, operands, route_into, routed_in}
use Rattle.planner.specs.Write.{write_into, written_in}
use Rattle.planner.specs.Write as Write
use Rattle.load.specs.Load.{added, load_call}
use Rattle.load.specs.Places.{places_in}
use Rattle.steps.specs.Run.{run_plan, lent_after}
use Rattle.steps.specs.Demand.{Agreed}
use Rattle.part.specs.Calls.{ask_call, lent_after_ask}
use Rattle.words.specs.Words.{print_words, quick_words, plan_words, write_words, route_words, load_words, state_from, asked_words}

-- the words and the lent bytes after a card is printed back
pub record PrintWords (card lent after words : List ℕ) : Type 0 where
  pub answer : words ≡ print_words (print_into card lent)
  pub bytes : after ≡ printed_in card lent

-- the words of the quick test; `agrees` is what they say of the split test
pub record QuickWords (card words : List ℕ) : Type 0 where
  pub answer : words ≡ quick_words (quick_test card)
  pub agrees : (n least : ℕ) → (words ≡ 0 ∷ 1 ∷ n ∷ least ∷ [] → split_test card ≡ good) × (words ≡ 0 ∷ 0 ∷ n ∷ least ∷ [] → split_test card ≡ good → ⊥)

-- the words of the plan check; `shows_good` and `shows_wide` are what those of an accepted plan say of the card
pub record PlanWords (card plan words : List ℕ) : Type 0 where
  pub answer : words ≡ plan_words (check_plan card plan)
  pub shows_good : (blocks carriages : ℕ) → words ≡ 0 ∷ blocks ∷ carriages ∷ 0 ∷ [] → split_test card ≡ good
  pub shows_wide : (blocks carriages : ℕ) → words ≡ 0 ∷ blocks ∷ carriages ∷ 0 ∷ []
      → (n f : ℕ) (links : Links) → read_card card ≡ network n f links → 3 * f + 1 ≤ n

-- the words and the lent bytes after a plan is written; `accepted` and `shortest` are what holds of the plan
pub record WriteWords (card lent after words : List ℕ) : Type 0 where
  pub answer : words ≡ write_words (write_into card lent)
  pub bytes : after ≡ written_in card lent
  pub accepted : (bytes : ℕ) → write_into card lent ≡ Write.wrote bytes → Accepted card (take bytes after)
  pub shortest : (bytes : ℕ) → write_into card lent ≡ Write.wrote bytes → (s : List ℕ) → Accepted card s → bytes ≤ length s

-- the words and the lent bytes after separate routes were sought; `found` and `missed` are what holds of the routes and of the cut
pub record RouteWords (card : List ℕ) (F sources r : ℕ) (lent after words : List ℕ) : Type 0 where
  pub answer : words ≡ route_words (route_into card F sources r lent)
  pub bytes : after ≡ routed_in card F sources r lent
  pub found : (n f : ℕ) (links : Links) → read_card card ≡ network n f links → (count : ℕ) → route_into card F sources r lent ≡ routed count
      → (count ≡ f + 1) × (ps : List Route) × Found n links F sources r (f + 1) ps × (take (8 * count) after ≡ operands ps)
  pub missed : (n f : ℕ) (links : Links) → read_card card ≡ network n f links → (K : ℕ) → route_into card F sources r lent ≡ cut_off K → CutOff n links F sources r (f + 1) K

-- the words of the load; `sum` is what the counts add up to
pub record LoadWords (card plan words : List ℕ) : Type 0 where
  pub answer : words ≡ load_words (load_call card plan)
  pub sum : (counts : List ℕ) → words ≡ 0 ∷ counts → added counts ≡ places_in plan

-- the words and the lent bytes after a run; `agreed` is demand 3
pub record RunWords (card plan inputs : List ℕ) (X : ℕ) (table lent after words : List ℕ) : Type 0 where
  pub answer : words ≡ plan_words (run_plan card plan inputs X lent)
  pub bytes : after ≡ lent_after card plan inputs X table lent
  pub agreed : (n f : ℕ) (links : Links) → read_card card ≡ network n f links → (blocks carriages : ℕ) → run_plan card plan inputs X lent ≡ totals blocks carriages
      → Agreed n X inputs after

-- the words and the lent bytes after an ask
pub record AskWords (card plan : List ℕ) (server : ℕ) (state lent after words : List ℕ) : Type 0 where
  pub answer : words ≡ asked_words (ask_call card plan server (state_from state) lent)
  pub bytes : after ≡ lent_after_ask (ask_call card plan server (state_from state) lent) lent
