-- `network::card::read_head` meets its contract. Each answer is the step at place 0, by what stands there (`Reading`). Assumes nothing.
use mathlib.Core.Path.{refl, sym, ◌∙◌}
use native.Mathlib.Omega.{arith}
use Rattle.network.proofs.Reading.{step_none, step_unknown, end_first, head_cut, head_goes, head_range, link_cut, link_first}
use Rattle.network.proofs.card.read_head.Goals as goal

pub returns-then-card-eq0 : goal.returns-then-card-eq0
returns-then-card-eq0 c = λ l. step_none c.args.card.now 0 0 0 l (omega arith)

pub returns-then-command-eq3 : goal.returns-then-command-eq3
returns-then-command-eq3 c = λ l. end_first c.args.card.now 0 0 0 l (omega arith) c.if-command-eq3.true refl

pub returns-then-card-lt3 : goal.returns-then-card-lt3
returns-then-card-lt3 c = λ l. head_cut c.args.card.now 0 0 0 l (omega arith) c.if-command-eq1.true (omega arith)

pub returns-then-head_fits : goal.returns-then-head_fits
returns-then-head_fits c = record { room = omega arith; fits = sym c.head_fits.ensures ∙ c.if-head_fits.true; step = λ l. head_goes c.args.card.now 0 0 0 l (omega arith) c.if-command-eq1.true (omega arith) refl _ c.head_fits.ensures c.if-head_fits.true }

pub returns-then-command-eq1 : goal.returns-then-command-eq1
returns-then-command-eq1 c = λ l. head_range c.args.card.now 0 0 0 l (omega arith) c.if-command-eq1.true (omega arith) refl _ c.head_fits.ensures c.if-head_fits.false

pub returns-then-card-lt3-2 : goal.returns-then-card-lt3-2
returns-then-card-lt3-2 c = λ l. link_cut c.args.card.now 0 0 0 l (omega arith) c.if-command-eq2.true (omega arith)

pub returns-then-command-eq2 : goal.returns-then-command-eq2
returns-then-command-eq2 c = λ l. link_first c.args.card.now 0 0 0 l (omega arith) c.if-command-eq2.true (omega arith) refl

pub returns : goal.returns
returns c = λ l. step_unknown c.args.card.now 0 0 0 l (omega arith) c.if-command-eq3.false c.if-command-eq1.false c.if-command-eq2.false
