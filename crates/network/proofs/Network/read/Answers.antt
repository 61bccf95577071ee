-- `Network::read` meets its contract. The front gives the refusal, or the place from which the links are read; the network that they give is
-- proper (`card_proper`). Assumes nothing.
use mathlib.Core.Path.{refl, sym}
use Rattle.network.specs.Links.{no_links}
use Rattle.network.proofs.Networks.{card_proper}
use Rattle.network.proofs.Network.read.Goals as goal

pub read_links-requires : goal.read_links-requires
unfolding no_links
read_links-requires c = (c.in_ok-head.ensures.0, refl, c.in_ok-head.ensures.1)

pub invariant_of-result : goal.invariant_of-result
invariant_of-result c = record { proper = card_proper _ _ _ _ (sym c.in_ok-read_links.ensures) }
