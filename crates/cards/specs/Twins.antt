-- Twin cables: a link given again is one link. A card is said here by what stands on it: 01 n f, a list of links in any order and as often as one
-- likes, and any bytes after them.
--     Again       <-> a link command given again, anywhere after the first and whatever follows it, changes nothing; a fault behind it stands three
--                     bytes later
--     SetAlone    <-> two whole cards with one n, f and set of links give the same, but for the place of a refusal
--     SeenOnce    <-> reading, printing, split test, quick test, plan check, load, run, and a server's start, ask and commit give the same for two such
--                     cards that are read
use Rattle.std.specs.Prelude.{◌≡◌, cond, ℕ, ◌+◌, ◌≤◌, length, ltb}
use mathlib.Core.List.{List, [], ◌∷◌, ◌++◌, Memᴰ}
use Rattle.refusal.specs.Refused.{Refused, card, plan, call}
use Rattle.network.specs.Links.{Links}
use Rattle.network.specs.Card.{Network, network, refused, read_card}
use Rattle.printer.specs.Print.{Link, card_bytes, whole_card, print_into, printed_in}
use Rattle.split.specs.Split.{split_test}
use Rattle.two_way.specs.Quick.{quick_test}
use Rattle.plan.specs.Check.{check_plan}
use Rattle.load.specs.Load.{load_call}
use Rattle.steps.specs.Run.{run_plan, lent_after}
use Rattle.part.specs.State.{State}
use Rattle.part.specs.Calls.{start_call, ask_call, commit_call}

-- three bytes put in at k: places before k stay
unfoldable pub behind : ℕ → ℕ → ℕ
behind k place = cond (ltb place k) place (place + 3)

-- an answer with its place, if it has one, moved to another
abbrev pub moved_refusal : (ℕ → ℕ) → Refused → Refused
moved_refusal to (card number place) = card number (to place)
moved_refusal to (plan number place) = plan number (to place)
moved_refusal to (call number) = call number

abbrev pub moved : (ℕ → ℕ) → Network → Network
moved to (network n f links) = network n f links
moved to (refused r) = refused (moved_refusal to r)

-- what is left of an answer where places do not count
abbrev pub unplaced : Network → Network
unplaced = moved (λ place. 0)

-- each link of one list is in the other
abbrev pub SameLinks : List Link → List Link → Type 0
SameLinks xs ys = (x : Link) → (Memᴰ x xs → Memᴰ x ys) × (Memᴰ x ys → Memᴰ x xs)

-- no call tells card s from card t
pub record Alike (s t : List ℕ) : Type 0 where
  pub read : read_card s ≡ read_card t
  pub print : (lent : List ℕ) → print_into s lent ≡ print_into t lent
  pub printed : (lent : List ℕ) → printed_in s lent ≡ printed_in t lent
  pub split : split_test s ≡ split_test t
  pub quick : quick_test s ≡ quick_test t
  pub check : (plan : List ℕ) → check_plan s plan ≡ check_plan t plan
  pub load : (plan : List ℕ) → load_call s plan ≡ load_call t plan
  pub run : (plan inputs : List ℕ) (faulty : ℕ) (lent : List ℕ) → run_plan s plan inputs faulty lent ≡ run_plan t plan inputs faulty lent
  pub bytes : (plan inputs : List ℕ) (faulty : ℕ) (table lent : List ℕ) → lent_after s plan inputs faulty table lent ≡ lent_after t plan inputs faulty table lent
  pub start : (plan : List ℕ) (server input : ℕ) → start_call s plan server input ≡ start_call t plan server input
  pub ask : (plan : List ℕ) (server : ℕ) (state : State) (lent : List ℕ) → ask_call s plan server state lent ≡ ask_call t plan server state lent
  pub commit : (plan : List ℕ) (server : ℕ) (state : State) (arrived : List ℕ) → commit_call s plan server state arrived ≡ commit_call t plan server state arrived

abbrev pub Again : Type 0
Again =
    (n f : ℕ) (xs : List Link) (x : Link) (rest : List ℕ) → Memᴰ x xs → length (card_bytes n f (xs ++ x ∷ []) rest) ≤ 1024
    → read_card (card_bytes n f (xs ++ x ∷ []) rest) ≡ moved (behind (length (card_bytes n f xs []))) (read_card (card_bytes n f xs rest))

abbrev pub SetAlone : Type 0
SetAlone =
    (n f : ℕ) (xs ys : List Link) → SameLinks xs ys → length (whole_card n f xs) ≤ 1024 → length (whole_card n f ys) ≤ 1024
    → unplaced (read_card (whole_card n f xs)) ≡ unplaced (read_card (whole_card n f ys))

abbrev pub SeenOnce : Type 0
SeenOnce =
    (n f : ℕ) (xs ys : List Link) → SameLinks xs ys → length (whole_card n f ys) ≤ 1024
    → (m g : ℕ) (links : Links) → read_card (whole_card n f xs) ≡ network m g links → Alike (whole_card n f xs) (whole_card n f ys)
