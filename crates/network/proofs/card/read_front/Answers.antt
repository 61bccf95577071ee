-- `network::card::read_front` meets its contract: the head gives the refusal, or the place from which the links are read. Assumes nothing.
use native.Mathlib.Omega.{arith}
use Rattle.network.proofs.Reading.{reading_long, read_opened}
use Rattle.network.proofs.card.read_front.Goals as goal

pub returns-then-card-gt1024 : goal.returns-then-card-gt1024
returns-then-card-gt1024 c = reading_long _ (omega arith)

pub returns : goal.returns
returns c = read_opened _ _ c.if-card-gt1024.false c.read_head.ensures
