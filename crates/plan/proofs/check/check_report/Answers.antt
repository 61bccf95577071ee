-- Each test turns one part of the definition. Assumes nothing.
use mathlib.Core.Path.{sym, ◌∙◌}
use native.Mathlib.Omega.{arith}
use borrow.Author.Tests.{eq-eqb, ne_eqb}
use Rattle.std.proofs.lemmas.Result.{err_from_is_err_and}
use Rattle.route.specs.Commands.{width}
use Rattle.plan.specs.Check.{check_reports}
use Rattle.plan.proofs.check.check_report.Goals as goal
use Rattle.plan.proofs.check.check_report.Goals.{else-plan-at-via-then-plan-at+else-is_report, else-plan-at-via-else-plan-at}

pub returns-in_err-due_here : goal.returns-in_err-due_here
unfolding check_reports
returns-in_err-due_here c =
    let p = err_from_is_err_and c.from_residual.result c.from_residual.ensures.1 in
    rw (p.1, p.2) (c.in_err-due_here.ensures.gives _)

pub bounds-plan-at : goal.bounds-plan-at
unfolding width
bounds-plan-at c = let l = c.in_ok-due_here.ensures.whole in omega arith

pub bounds-plan-at-then-plan-at : goal.bounds-plan-at-then-plan-at
unfolding width
bounds-plan-at-then-plan-at c = let l = c.in_ok-due_here.ensures.whole in omega arith

pub returns-then-is_report : goal.returns-then-is_report
unfolding check_reports
returns-then-is_report c = sym (simp (eq-eqb _ _ c.if-plan-at.true, sym c.is_report.ensures ∙ c.if-is_report.true)) ∙ c.in_ok-due_here.ensures.gives _

pub returns : goal.returns
unfolding check_reports
returns c = elim c.else-plan-at.branch [
  | else-plan-at-via-then-plan-at+else-is_report w ↦ sym (simp (eq-eqb _ _ w.if-plan-at.true, sym w.is_report.ensures ∙ w.if-is_report.false)) ∙ c.in_ok-due_here.ensures.gives _
  | else-plan-at-via-else-plan-at w ↦ sym (simp (ne_eqb _ _ w.if-plan-at.false)) ∙ c.in_ok-due_here.ensures.gives _
]
