-- Where the card reader stands, for the contracts of its parts.
--     At s at n f links     <-> the reader of card s comes to `at` with n, f and these links, and what is left gives the card's answer
--     whole_link s at         == a link command with its operands stands at `at`
--     Opening s r           <-> r is what the first command gives
--     Closing s at r        <-> r is what the command at `at` gives, which is no whole link
--     Fronted s r           <-> r is the head of the card, which is not too long, or its ground
--     ReadAs s n f r links  <-> r is what is read after the head n f: the card's network has these links, or its ground
use Rattle.std.specs.Prelude.{◌≡◌, Bool, true, not, ◌&&◌, List, ℕ, suc, ◌+◌, ◌-◌, ◌≤◌, eqb, ltb, length, get_or, Result, Ok, Err}
use Rattle.refusal.specs.Refused.{card_refusal}
use Rattle.refusal.specs.declared.CardGround.{CardGround}
use Rattle.network.specs.Links.{Links, no_links}
use Rattle.network.specs.Card.{network, refused, more, done, head_fits, step_at, commands, read_card}
use Rattle.network.specs.declared.card.Head.{Head}

pub record At (s : List ℕ) (at n f : ℕ) (links : Links) : Type 0 where
  pub fuel : ℕ
  pub inside : at ≤ length s
  pub enough : length s ≤ at + fuel
  pub left : commands (suc fuel) s (more at n f links) ≡ read_card s

unfoldable pub whole_link : List ℕ → ℕ → Bool
whole_link s at = not (ltb (length s - at) 3) && eqb (get_or s at 0) 2

pub record Opened (s : List ℕ) (n f : ℕ) : Type 0 where
  pub room : 3 ≤ length s
  pub fits : head_fits n f ≡ true
  pub step : (links : Links) → step_at s 0 0 0 links ≡ more 3 n f links

abbrev pub Opening : List ℕ → Result Head CardGround → Type 0
Opening s (Ok h) = Opened s h.n h.f
Opening s (Err g) = (links : Links) → step_at s 0 0 0 links ≡ done (refused (card_refusal g))

abbrev pub Closing : List ℕ → (at : ℕ) → Result Unit CardGround → Type 0
Closing s at (Ok _) = (n f : ℕ) (links : Links) → step_at s at n f links ≡ done (network n f links)
Closing s at (Err g) = (n f : ℕ) (links : Links) → step_at s at n f links ≡ done (refused (card_refusal g))

-- the front of a card: its head, with the links still to be read, or its ground
abbrev pub Fronted : List ℕ → Result Head CardGround → Type 0
Fronted s (Ok h) = (h.n ≤ 8) × At s 3 h.n h.f no_links
Fronted s (Err g) = refused (card_refusal g) ≡ read_card s

abbrev pub ReadAs : List ℕ → (n f : ℕ) → Result Unit CardGround → Links → Type 0
ReadAs s n f (Ok x) links = network n f links ≡ read_card s
ReadAs s n f (Err g) links = refused (card_refusal g) ≡ read_card s
