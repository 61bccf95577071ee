-- The clean card: of the cards that say n, f and links, the one with its links in ascending order.
--     Before x y           <-> link x has a lower u than y, or the same u and a lower v
--     Ascending xs         <-> each link of xs comes before all later ones, so that none stands twice
--     Clean s n f links    <-> card s says n, f and links, with its links ascending
--     PrintsClean          <-> what is printed of an accepted card is a clean card of its network, and there is no other
--     ReadsBack            <-> reading the printed card gives the same network
--     PrintsAgain          <-> printing from the printed card gives the same bytes, and no call tells the printed card from the card
--     PrintsShort          <-> a card that is read is printed into every buffer of 172 bytes
--     PrintsInFront        <-> the answer is the card's length, the card stands in so many of the first lent bytes, and the later ones are as they were;
--                              refused, all are
use Rattle.std.specs.Prelude.{◌≡◌, ◌⊎◌, List, [], ◌∷◌, ℕ, ◌≤◌, ◌<◌, length, take, drop}
use Rattle.facts.specs.Lists.{Each}
use Rattle.refusal.specs.Refused.{Refused}
use Rattle.network.specs.Links.{Links}
use Rattle.network.specs.Card.{network, read_card}
use Rattle.printer.specs.Print.{Link, print_card, clean_card, wrote, unwritten, print_into, printed_in}
use Rattle.cards.specs.Twins.{Alike}
use Rattle.cards.specs.Said.{Says}

abbrev pub Before : Link → Link → Type 0
Before x y = (x.0 < y.0) ⊎ ((x.0 ≡ y.0) × (x.1 < y.1))

abbrev pub Ascending : List Link → Type 0
Ascending [] = Unit
Ascending (x ∷ xs) = Each (Before x) xs × Ascending xs

pub record Clean (s : List ℕ) (n f : ℕ) (links : Links) : Type 0 where
  pub says : Says s n f links
  pub order : Ascending says.given

abbrev pub PrintsClean : Type 0
PrintsClean =
    (s : List ℕ) (n f : ℕ) (links : Links) → read_card s ≡ network n f links
    → Clean (print_card n f links) n f links × ((t : List ℕ) → Clean t n f links → t ≡ print_card n f links)

abbrev pub ReadsBack : Type 0
ReadsBack = (s : List ℕ) (n f : ℕ) (links : Links) → read_card s ≡ network n f links → read_card (print_card n f links) ≡ network n f links

abbrev pub PrintsAgain : Type 0
PrintsAgain = (s : List ℕ) (n f : ℕ) (links : Links) → read_card s ≡ network n f links → (clean_card (print_card n f links) ≡ print_card n f links) × Alike (print_card n f links) s

abbrev pub PrintsShort : Type 0
PrintsShort = (s : List ℕ) (n f : ℕ) (links : Links) → read_card s ≡ network n f links → (lent : List ℕ) → 172 ≤ length lent → print_into s lent ≡ wrote (length (print_card n f links))

abbrev pub PrintsInFront : Type 0
PrintsInFront =
    (s lent : List ℕ)
    → ((bytes : ℕ) → print_into s lent ≡ wrote bytes → (length (clean_card s) ≡ bytes) × (take bytes (printed_in s lent) ≡ clean_card s) × (drop bytes (printed_in s lent) ≡ drop bytes lent))
    × ((r : Refused) → print_into s lent ≡ unwritten r → printed_in s lent ≡ lent)
