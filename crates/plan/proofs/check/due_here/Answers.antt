-- Each test turns one part of the definition. Assumes nothing.
use mathlib.Core.Path.{refl, sym, ap, ◌∙◌}
use native.Mathlib.Omega.{arith}
use borrow.Author.Tests.{eq-eqb, ne_eqb}
use Rattle.route.specs.Commands.{width}
use Rattle.plan.specs.Check.{is_due}
use Rattle.plan.proofs.Groups.{whole_command}
use Rattle.plan.proofs.check.due_here.Goals as goal

pub returns-then-is_cut-clause-gives : goal.returns-then-is_cut-clause-gives
unfolding is_due
returns-then-is_cut-clause-gives c next = sym (simp (sym c.is_cut.ensures ∙ c.if-is_cut.true))

pub bounds-plan-at : goal.bounds-plan-at
bounds-plan-at c = (whole_command c.args.plan.now c.args.at _ (sym c.is_cut.ensures ∙ c.if-is_cut.false) refl).0

pub returns-then-plan-at-clause-gives : goal.returns-then-plan-at-clause-gives
unfolding is_due
returns-then-plan-at-clause-gives c next =
    let cut = sym c.is_cut.ensures ∙ c.if-is_cut.false in
    sym (simp (cut, ne_eqb _ _ (λ e. c.if-plan-at.true (e ∙ sym c.command.ensures))))

pub returns : goal.returns
unfolding is_due
returns c =
    let e = c.if-plan-at.false ∙ c.command.ensures in
    let cut = sym c.is_cut.ensures ∙ c.if-is_cut.false in
    let z = whole_command c.args.plan.now c.args.at _ cut (ap width e) in
    record { gives = λ next. sym (simp (cut, eq-eqb _ _ e)); whole = omega arith }
