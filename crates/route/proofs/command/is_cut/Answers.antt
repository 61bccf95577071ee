-- Each test turns one part of the definition (`Commands`). Assumes nothing.
use mathlib.Core.Path.{◌∙◌}
use borrow.Author.Tests.{eq-eqb}
use Rattle.route.proofs.Commands.{cut_none, cut_unknown, cut_short}
use Rattle.route.proofs.command.is_cut.Goals as goal

pub returns-then-bytes-eq0 : goal.returns-then-bytes-eq0
returns-then-bytes-eq0 c = eq-eqb _ _ c.if-bytes-eq0.true ∙ cut_unknown _ _ c.if-at-plan.true _ c.width-bytes.ensures c.if-bytes-eq0.true

pub returns-else-bytes-eq0 : goal.returns-else-bytes-eq0
returns-else-bytes-eq0 c = cut_short _ _ c.if-at-plan.true _ c.width-bytes.ensures c.if-bytes-eq0.false

pub returns : goal.returns
returns c = cut_none _ _ c.if-at-plan.false
