-- What is proved of servers that are stepped side by side, for every card, every plan accepted for it, inputs of 0 and 1, every faulty set and every
-- message table, the empty one too.
--     Turned            the turns of a plan, taken in the run's own words, are the run
--     Hears             what a server receives over a turn is what it hears in the run, arrival by arrival in plan order
--     StepByStep        after every kind of every block the v and t of each server are those that the run's steps give, no ask is open, and it is at the next kind
--     Decides           at the end the ask of each server gives one value, the v that the run leaves it with, as often as it is called, and opens nothing;
--                       for a sound server that is its byte in the lent buffer of the run
--     Demand3           so what the sound servers show is one bit, and some sound server's input
--     BeyondDue         arrived bytes beyond those due have no effect
--     SilenceMeansOpen  a missing arrival does what the byte 0 does
--     AsksShort         an ask into a buffer of 56 bytes or more is never refused for the buffer
use Rattle.std.specs.Prelude.{◌≡◌, true, List, [], ◌∷◌, ◌++◌, ℕ, ◌≤◌, ◌<◌, length, get_or, take, drop, replicate}
use Rattle.sets.specs.Sets.{Out, has}
use Rattle.network.specs.Links.{Links}
use Rattle.network.specs.Card.{network, read_card}
use Rattle.plan.specs.Check.{totals}
use Rattle.facts.specs.Lists.{Each}
use Rattle.rules.specs.Blocks.{Block, Carriage, decode_plan}
use Rattle.rules.specs.Theorems.{Accepted}
use Rattle.steps.specs.Hearing.{heard}
use Rattle.steps.specs.Steps.{Values, held, values_from, values, run_blocks}
use Rattle.steps.specs.Run.{are_bits, run_plan, lent_after}
use Rattle.steps.specs.Demand.{Agreed}
use Rattle.part.specs.State.{State}
use Rattle.refusal.specs.Refused.{call}
use Rattle.part.specs.Calls.{Asked, sends, block_of, ask_call, commit_call}
use Rattle.part.specs.Own.{source, given, received, carriages_of}
use Rattle.part.specs.Beside.{Turn, turns, delivered, beside_over, start_beside, shown_beside, run_over}

-- the values that a run starts with
abbrev pub start_values : List ℕ → Values
start_values inputs = record { v = values (held inputs); t = replicate 8 2 }

abbrev pub Turned : Type 0
Turned =
    (n X : ℕ) (table : List ℕ) (number : ℕ) (bs : List Block) (s : Values)
    → run_over n X table (turns number bs) s ≡ run_blocks n X table number bs s

-- server j gives x j on each of its carriages; a missing byte of the table has its own place in what a server receives, so that the later ones keep theirs
abbrev pub Hears : Type 0
Hears =
    (n X : ℕ) (table : List ℕ) (x : ℕ → ℕ) → ((j : ℕ) → j < n → x j < 3)
    → (cs : List Carriage) → Each (λ c. source c < n) cs → (k : ℕ) (gave : ℕ → List ℕ) → ((j : ℕ) → j < n → gave j ≡ given (x j) j cs)
    → (r : ℕ) → received (delivered X table k gave cs r) 0 r cs ≡ heard X table k x cs r

-- the state is at the turn that comes next, or at the end
abbrev pub StandsAt : ℕ → ℕ → List ℕ → State → List Turn → Type 0
StandsAt n f plan s [] = s.kind ≡ 0x15
StandsAt n f plan s (turn ∷ later) = (s.kind ≡ turn.kind) × (block_of n f plan s.block ≡ turn.block)

-- server i holds the values of the run, has no ask open, and is where the turns still to come begin
pub record Follows (n f : ℕ) (plan : List ℕ) (s : State) (i : ℕ) (run : Values) (later : List Turn) : Type 0 where
  pub v : s.v ≡ held run.v i
  pub t : s.t ≡ held run.t i
  pub none : s.asked ≡ 0
  pub place : StandsAt n f plan s later

-- after any number m of turns
abbrev pub StepByStep : Type 0
StepByStep =
    (card plan inputs : List ℕ) (X : ℕ) (table : List ℕ) (n f : ℕ) (links : Links) → read_card card ≡ network n f links → Accepted card plan
    → length inputs ≡ n → are_bits inputs ≡ true
    → (m i : ℕ) → i < n
    → Follows n f plan (beside_over card plan X table (take m (turns 0 (decode_plan n f plan))) (start_beside card plan inputs) i) i
    (run_over n X table (take m (turns 0 (decode_plan n f plan))) (start_values inputs)) (drop m (turns 0 (decode_plan n f plan)))

-- the state of server i after the last block
abbrev pub ending : List ℕ → List ℕ → List ℕ → ℕ → List ℕ → ℕ → ℕ → ℕ → State
ending card plan inputs X table n f i = beside_over card plan X table (turns 0 (decode_plan n f plan)) (start_beside card plan inputs) i

-- at the end, whatever is lent, if it has room for one byte
abbrev pub Decides : Type 0
Decides =
    (card plan inputs : List ℕ) (X : ℕ) (table : List ℕ) (n f : ℕ) (links : Links) → read_card card ≡ network n f links → Accepted card plan
    → length inputs ≡ n → are_bits inputs ≡ true
    → (i : ℕ) → i < n → (lent : List ℕ) → 1 ≤ length lent
    → ask_call card plan i (ending card plan inputs X table n f i) lent
    ≡ sends (ending card plan inputs X table n f i) (held (run_blocks n X table 0 (decode_plan n f plan) (start_values inputs)).v i ∷ [])

-- for each call to run that is answered: what a sound server shows is its byte in the lent buffer of the run
abbrev pub ShowsTheRun : Type 0
ShowsTheRun =
    (card plan inputs : List ℕ) (X : ℕ) (table lent : List ℕ) (n f : ℕ) (links : Links) → read_card card ≡ network n f links
    → (blocks carriages : ℕ) → run_plan card plan inputs X lent ≡ totals blocks carriages
    → (i : ℕ) → i < n → Out (has X) i
    → shown_beside n f card plan inputs X table i ≡ get_or (lent_after card plan inputs X table lent) i 0 ∷ []

-- the bytes that the n servers show
abbrev pub all_shown : ℕ → ℕ → List ℕ → List ℕ → List ℕ → ℕ → List ℕ → List ℕ
all_shown n f card plan inputs X table = values_from n 0 (λ (i : ℕ). get_or (shown_beside n f card plan inputs X table i) 0 2)

-- that a call is answered is said by the run's own answer, so a buffer stands here that these servers do not have: any of n bytes will do
abbrev pub Demand3 : Type 0
Demand3 =
    (card plan inputs : List ℕ) (X : ℕ) (table lent : List ℕ) (n f : ℕ) (links : Links) → read_card card ≡ network n f links
    → (blocks carriages : ℕ) → run_plan card plan inputs X lent ≡ totals blocks carriages
    → Agreed n X inputs (all_shown n f card plan inputs X table)

-- a buffer of 56 bytes is enough for every ask
abbrev pub AsksShort : Type 0
AsksShort =
    (card plan : List ℕ) (n f : ℕ) (links : Links) → read_card card ≡ network n f links → Accepted card plan
    → (i : ℕ) (s : State) (lent : List ℕ) → 56 ≤ length lent → ask_call card plan i s lent ≡ Asked.held (call 14) → ⊥

-- how many arrivals are due to server i
abbrev pub due_to : ℕ → ℕ → List ℕ → ℕ → State → ℕ
due_to n f plan i s = length (received [] 0 i (carriages_of s.kind (block_of n f plan s.block)))

-- whatever the call's answer: arrivals that begin alike, as far as they are due, leave the same state
abbrev pub BeyondDue : Type 0
BeyondDue =
    (card plan : List ℕ) (n f : ℕ) (links : Links) → read_card card ≡ network n f links
    → (i : ℕ) (s : State) (arrived arrived' : List ℕ) → take (due_to n f plan i s) arrived ≡ take (due_to n f plan i s) arrived'
    → commit_call card plan i s arrived ≡ commit_call card plan i s arrived'

-- whatever the call's answer: arrivals and the same with any number of zeros after them leave the same state
abbrev pub SilenceMeansOpen : Type 0
SilenceMeansOpen =
    (card plan : List ℕ) (i : ℕ) (s : State) (arrived : List ℕ) (m : ℕ)
    → commit_call card plan i s (arrived ++ replicate m 0) ≡ commit_call card plan i s arrived
