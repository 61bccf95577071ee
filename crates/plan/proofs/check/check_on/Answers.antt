use mathlib.Core.Path.{refl, sym, ◌∙◌}
use borrow.Author.Tests.{lt-ltb}
use Rattle.std.proofs.lemmas.Result.{err_from_is_err_and}
use Rattle.plan.specs.Check.{check_on}
use Rattle.plan.proofs.Plans.{on_is, on_stops}
use Rattle.plan.proofs.Joins.{then_stops, then_goes}
use Rattle.plan.proofs.check.check_on.Goals as goal

pub returns-then-plan-gt1048576 : goal.returns-then-plan-gt1048576
unfolding check_on
returns-then-plan-gt1048576 c = sym (simp (lt-ltb _ _ c.if-plan-gt1048576.true))

pub returns-in_err-blocks : goal.returns-in_err-blocks
returns-in_err-blocks c =
    let p = err_from_is_err_and c.from_residual.result c.from_residual.ensures.1 in
    rw (p.1, p.2) (on_stops c.args.network _ c.if-plan-gt1048576.false _ (then_stops _ refl c.in_err-blocks.ensures))

pub returns-in_err-end : goal.returns-in_err-end
returns-in_err-end c =
    let p = err_from_is_err_and c.from_residual-in_err-end.result c.from_residual-in_err-end.ensures.1 in
    rw (p.1, p.2) (on_stops c.args.network _ c.if-plan-gt1048576.false _ (c.in_err-end.ensures ∙ then_goes _ refl c.in_ok-blocks.ensures))

pub returns : goal.returns
returns c = on_is c.args.network _ c.if-plan-gt1048576.false c.blocks_due.ensures (c.in_ok-end.ensures ∙ then_goes _ refl c.in_ok-blocks.ensures)
