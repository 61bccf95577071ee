-- `network::card::read_card` meets its contract. Assumes nothing.
use mathlib.Core.Path.{refl}
use Rattle.network.specs.Links.{no_links}
use Rattle.network.proofs.card.read_card.Goals as goal

pub read_links-requires : goal.read_links-requires
unfolding no_links
read_links-requires c = (c.in_ok-head.ensures.0, refl, c.in_ok-head.ensures.1)
