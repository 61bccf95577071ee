-- What is proved of the counts, for any bytes of a card and a plan.
--     Sums      the counts of an accepted plan add up to the relaying places of its bytes
--     BeyondV   the counts of servers from n on are 0
use Rattle.std.specs.Prelude.{◌≡◌, List, ℕ, ◌≤◌, length, get_or}
use Rattle.network.specs.Links.{Links}
use Rattle.network.specs.Card.{network, read_card}
use Rattle.rules.specs.Theorems.{Accepted}
use Rattle.load.specs.Load.{added, counted, load_call}
use Rattle.load.specs.Places.{places_in}

abbrev pub Sums : Type 0
Sums = (card plan : List ℕ) → Accepted card plan → (counts : List ℕ) × (load_call card plan ≡ counted counts) × (length counts ≡ 8) × (added counts ≡ places_in plan)

abbrev pub BeyondV : Type 0
BeyondV =
    (card plan : List ℕ) (n f : ℕ) (links : Links) → read_card card ≡ network n f links
    → (counts : List ℕ) → load_call card plan ≡ counted counts → (i : ℕ) → n ≤ i → get_or counts i 0 ≡ 0
