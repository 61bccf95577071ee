-- `network::card::link_fits` meets its contract. Each test turns one part of the definition. Assumes nothing.
use borrow.Author.Tests.{lt-ltb, le-ltb}
use Rattle.network.specs.Card.{link_fits}
use Rattle.network.proofs.card.link_fits.Goals as goal

pub returns-then-v-n : goal.returns-then-v-n
unfolding link_fits
returns-then-v-n c = simp (lt-ltb _ _ c.if-u-n.true, lt-ltb _ _ c.if-v-n.true)

pub returns-else-v-n : goal.returns-else-v-n
unfolding link_fits
returns-else-v-n c = simp (lt-ltb _ _ c.if-u-n.true, le-ltb _ _ c.if-v-n.false)

pub returns-else-u-n : goal.returns-else-u-n
unfolding link_fits
returns-else-u-n c = simp (le-ltb _ _ c.if-u-n.false)
