-- `network::card::head_fits` meets its contract. Each test turns one part of the definition. Assumes nothing.
use borrow.Author.Tests.{lt-ltb, le-ltb}
use Rattle.network.specs.Card.{head_fits}
use Rattle.network.proofs.card.head_fits.Goals as goal

pub returns-then-n-lt2 : goal.returns-then-n-lt2
unfolding head_fits
returns-then-n-lt2 c = simp (lt-ltb _ _ c.if-n-lt2.true)

pub returns-then-n-gt8 : goal.returns-then-n-gt8
unfolding head_fits
returns-then-n-gt8 c = simp (le-ltb _ _ c.if-n-lt2.false, lt-ltb _ _ c.if-n-gt8.true)

pub returns-then-f-gt2 : goal.returns-then-f-gt2
unfolding head_fits
returns-then-f-gt2 c = simp (le-ltb _ _ c.if-n-lt2.false, le-ltb _ _ c.if-n-gt8.false, lt-ltb _ _ c.if-f-gt2.true)

pub returns : goal.returns
unfolding head_fits
returns c = simp (le-ltb _ _ c.if-n-lt2.false, le-ltb _ _ c.if-n-gt8.false, le-ltb _ _ c.if-f-gt2.false)
