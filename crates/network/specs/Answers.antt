-- What the code's answers stand for.
use Rattle.std.specs.Prelude.{◌≡◌, List, ℕ, Result, Ok, Err}
use Rattle.refusal.specs.declared.Refusal.{Refusal}
use Rattle.refusal.specs.Refused.{refusal_of}
use Rattle.network.specs.Card.{Network, network, refused, Head, head, turned, head_of, links_after, read_card}
use Rattle.network.specs.Links.{Links}
use Rattle.network.specs.declared.card.Head as Code
use Rattle.network.specs.declared.Network as Read

abbrev pub reading_of : Result Code.Head Refusal → Head
reading_of (Ok h) = head h.n h.f
reading_of (Err r) = turned (refusal_of r)

abbrev pub network_of : Result Read.Network Refusal → Network
network_of (Ok w) = network w.n w.f w.links
network_of (Err r) = refused (refusal_of r)

-- the card reader's answer r on the card s, with the links lent and handed back
pub record Answered (s : List ℕ) (lent : Links) (r : Result Code.Head Refusal) (after : Links) : Type 0 where
  pub reading : reading_of r ≡ head_of (read_card s)
  pub links : after ≡ links_after (read_card s) lent
