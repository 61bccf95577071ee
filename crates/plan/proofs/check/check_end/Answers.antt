-- Assumes nothing.
use mathlib.Core.Path.{sym, ◌∙◌}
use borrow.Author.Tests.{lt-ltb, le-ltb}
use Rattle.std.proofs.lemmas.Result.{err_from_is_err_and}
use Rattle.plan.specs.Check.{check_end}
use Rattle.plan.proofs.check.check_end.Goals as goal

pub returns-in_err-due_here : goal.returns-in_err-due_here
unfolding check_end
returns-in_err-due_here c =
    let p = err_from_is_err_and c.from_residual.result c.from_residual.ensures.1 in
    rw (p.1, p.2) (c.in_err-due_here.ensures.gives _)

pub returns-then-end-plan : goal.returns-then-end-plan
unfolding check_end
returns-then-end-plan c = sym (simp (lt-ltb _ _ c.if-end-plan.true)) ∙ c.in_ok-due_here.ensures.gives _

pub returns : goal.returns
unfolding check_end
returns c = sym (simp (le-ltb _ _ c.if-end-plan.false)) ∙ c.in_ok-due_here.ensures.gives _
