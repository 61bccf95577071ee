-- `network::card::whole_link` meets its contract. Each test turns one part of the definition. Assumes nothing.
use Rattle.network.proofs.Reading.{whole_short, whole_long}
use Rattle.network.proofs.card.whole_link.Goals as goal

pub returns-then-card-at-lt3 : goal.returns-then-card-at-lt3
returns-then-card-at-lt3 c = whole_short _ _ c.if-card-at-lt3.true

pub returns : goal.returns
returns c = whole_long _ _ c.if-card-at-lt3.false
