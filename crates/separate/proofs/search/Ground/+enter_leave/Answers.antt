use Rattle.std.proofs.Common.{◌-◌, ◌∙◌, ◌≡◌, ◌<◌, ℕ, ap, arith, rules, Option, Bool}
use Rattle.std.proofs.lemmas.Result.{err_from_is_err_and}
use Rattle.sets.specs.Sets.{has, union, minus, single}
use Rattle.flow.specs.declared.Flow.{Flow}
use Rattle.flow.specs.Search.{behind, server_at}
use Rattle.separate.proofs.Trying.{trying_found, trying_fails, trying_passes, trying_ends, listed_below}
use Rattle.separate.proofs.Ways.{Entering, enter_none, enter_seen, enter_goes, enter_fails, enter_ends, Leaving, leave_none, leave_ends, leave_tries}
use Rattle.separate.proofs.search.Ground.+enter_leave.Goals as goal

entering : (a : ℕ) (φ : Flow) (entered x one u : ℕ) (o : Option ℕ) → 0 < a → one ≡ single x → u ≡ union entered one → o ≡ server_at (behind φ x) → Entering a φ entered x (a - 1) u o
entering a φ entered x one u o p e s b = record { allowed = omega arith; seen = s ∙ ap (union entered) e; back = b }

pub enter-returns-then-allowance-eq0 : goal.enter-returns-then-allowance-eq0
enter-returns-then-allowance-eq0 t c = enter_none _ _ _ _ _ _ _ _ c.if-allowance-eq0.true

pub enter-returns-in_err-found : goal.enter-returns-in_err-found
enter-returns-in_err-found t c =
    let p = err_from_is_err_and c.from_residual.result c.from_residual.ensures.1 in
    rw (p.1, p.2)
    (enter_fails _ _ _ _ _ _ _ _ _ _ _ (entering _ _ _ _ _ _ _ (omega arith) c.single.ensures c.union.ensures c.behind.ensures)
    _ c.in-Some.is _ c.member.ensures (search rules) _ c.leave.ensures _ c.in_err-found.was)

pub enter-returns-then-not-member : goal.enter-returns-then-not-member
enter-returns-then-not-member t c =
    enter_goes _ _ _ _ _ _ _ _ _ _ _ (entering _ _ _ _ _ _ _ (omega arith) c.single.ensures c.union.ensures c.behind.ensures)
    _ c.in-Some.is _ c.member.ensures (search rules) _ c.leave.ensures _ c.in_ok-found.was _ c.step_in.ensures

pub enter-returns-else-not-member : goal.enter-returns-else-not-member
enter-returns-else-not-member t c =
    enter_seen _ _ _ _ _ _ _ _ _ _ _ (entering _ _ _ _ _ _ _ (omega arith) c.single.ensures c.union.ensures c.behind.ensures)
    _ c.in-Some.is _ c.member.ensures (search rules)

pub enter-returns-in_default : goal.enter-returns-in_default
enter-returns-in_default t c =
    enter_ends _ _ _ _ _ _ _ _ _ _ _ (entering _ _ _ _ _ _ _ (omega arith) c.single.ensures c.union.ensures c.behind.ensures)
    c.in_default.is

leaving : (a last : ℕ) (φ : Flow) (left x one u m : ℕ) (b : Bool) → 0 < a → one ≡ single x → u ≡ union left one → m ≡ minus last φ.ends → b ≡ has m x → Leaving a last φ left x (a - 1) u b
leaving a last φ left x one u m b p e s g d = record { allowed = omega arith; seen = s ∙ ap (union left) e; tested = d ∙ ap (λ (m : ℕ). has m x) g }

pub leave-returns-then-allowance-eq0 : goal.leave-returns-then-allowance-eq0
leave-returns-then-allowance-eq0 t c = leave_none _ _ _ _ _ _ _ _ c.if-allowance-eq0.true

pub leave-returns-then-member : goal.leave-returns-then-member
leave-returns-then-member t c =
    leave_ends _ _ _ _ _ _ _ _ _ _ _ (leaving _ _ _ _ _ _ _ _ _ (omega arith) c.single.ensures c.union-seen.ensures c.minus.ensures c.member.ensures)
    c.if-member.true _ c.with_end.ensures

pub leave-loop-y-init : goal.leave-loop-y-init
leave-loop-y-init t c =
    leave_tries _ _ _ _ _ _ _ _ _ _ _ (leaving _ _ _ _ _ _ _ _ _ (omega arith) c.single.ensures c.union-seen.ensures c.minus.ensures c.member.ensures)
    c.if-member.false _ _ c.ahead.ensures (cc)

pub leave-enter-requires : goal.leave-enter-requires
leave-enter-requires t c = (omega arith, listed_below _ _ _ c.in-Some.ensures.steps)

pub leave-returns-in-Ok : goal.leave-returns-in-Ok
leave-returns-in-Ok t c =
    trying_found _ _ _ _ _ c.loop-y.invariant _ _ c.in-Some.ensures.steps _ c.member-in-loop-y.ensures (search rules) _ c.enter.ensures _ c.in-Ok.is _ c.step_out.ensures

pub leave-loop-y-preserved-in-Err : goal.leave-loop-y-preserved-in-Err
leave-loop-y-preserved-in-Err t c =
    trying_fails _ _ _ _ _ c.loop-y.invariant _ _ c.in-Some.ensures.steps _ c.member-in-loop-y.ensures (search rules) _ c.enter.ensures _ c.in-Err.is

pub leave-loop-y-preserved : goal.leave-loop-y-preserved
leave-loop-y-preserved t c = trying_passes _ _ _ _ _ c.loop-y.invariant _ _ c.in-Some.ensures.steps _ c.member-in-loop-y.ensures (search rules)

pub leave-returns : goal.leave-returns
leave-returns t c = trying_ends _ _ _ _ _ c.loop-y.invariant c.in-None.ensures.steps.0
