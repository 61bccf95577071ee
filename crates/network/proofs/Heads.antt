-- What the reader's answer says of the card: its refusal, or n, f and the links of its network.
-- Assumes nothing.
use mathlib.Core.Path.{◌≡◌, refl, sym, ap, ◌∙◌}
use mathlib.Core.List.{List}
use Prim.Native.Nat.{ℕ}
use Rattle.refusal.specs.Refused.{Refused}
use Rattle.network.specs.Links.{Links}
use Rattle.network.specs.Card.{Network, network, refused, read_card, head, turned, head_of, links_of, links_after}
use Rattle.network.specs.Proper.{Proper}
use Rattle.network.proofs.Networks.{card_proper}

-- with n, f and the links known, so is the network
pub network_of : (a : Network) (n f : ℕ) → head_of a ≡ head n f → a ≡ network n f (links_of a)
network_of (network m g links) n f e = let p : m ≡ n = cc in let q : g ≡ f = cc in cc
network_of (refused r) n f e = cc

pub refused_of : (a : Network) (r : Refused) → head_of a ≡ turned r → a ≡ refused r
refused_of (network m g links) r e = cc
refused_of (refused x) r e = let p : x ≡ r = cc in cc

-- an accepted card's links take the place of those that were lent
links_after_lem : (a : Network) (n f : ℕ) (lent : Links) → head_of a ≡ head n f → links_after a lent ≡ links_of a
links_after_lem (network m g links) n f lent e = refl
links_after_lem (refused r) n f lent e = cc

pub network_is : (a : Network) (n f : ℕ) (lent links : Links) → head_of a ≡ head n f → links ≡ links_after a lent → a ≡ network n f links
network_is a n f lent links e q = network_of a n f e ∙ ap (network n f) (sym (q ∙ links_after_lem a n f lent e))

pub head_proper : (s : List ℕ) (n f : ℕ) (lent links : Links) → head_of (read_card s) ≡ head n f → links ≡ links_after (read_card s) lent → Proper n f links
head_proper s n f lent links e q = card_proper s n f links (network_is (read_card s) n f lent links e q)
