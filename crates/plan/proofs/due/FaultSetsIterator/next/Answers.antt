use mathlib.Core.Path.{sym, ap, ◌∙◌}
use Prim.Native.Nat.{ℕ}
use native.Mathlib.Omega.{arith}
use lib.ListN.{length}
use lib.Dec.{leb}
use borrow.Author.Tests.{le-leb, lt-leb}
use Rattle.plan.proofs.Lists.{list_next, list_skip, list_done}
use Rattle.plan.proofs.due.FaultSetsIterator.next.Goals as goal

pub returns-then-size-f-clause-steps : goal.returns-then-size-f-clause-steps
returns-then-size-f-clause-steps c =
    let i = c.loop-set.invariant in
    rw (i.same, i.whole) (i.left ∙ list_next _ _ _ c.loop-set-test.true (ap (λ (x : ℕ). leb x c.args.self.now.f) (sym c.size.ensures) ∙ le-leb _ _ c.if-size-f.true))

pub returns-then-size-f-clause-goes : goal.returns-then-size-f-clause-goes
returns-then-size-f-clause-goes c =
    let i = c.loop-set.invariant in
    let e = ap length (i.left ∙ list_next _ _ _ c.loop-set-test.true (ap (λ (x : ℕ). leb x c.args.self.now.f) (sym c.size.ensures) ∙ le-leb _ _ c.if-size-f.true)) in
    rw (i.same, i.whole) (record { on = λ u. (tt, tt, omega (arith, e)); keeps = tt; rests = λ u. tt })

pub loop-set-preserved : goal.loop-set-preserved
loop-set-preserved c =
    let i = c.loop-set.invariant in
    record { same = i.same; whole = i.whole; left = i.left ∙ list_skip _ _ _ c.loop-set-test.true (ap (λ (x : ℕ). leb x c.args.self.now.f) (sym c.size.ensures) ∙ lt-leb _ _ c.if-size-f.false) }

pub returns-clause-steps : goal.returns-clause-steps
returns-clause-steps c =
    let i = c.loop-set.invariant in
    (i.left ∙ list_done _ _ _ c.loop-set-test.false, rw (i.same, i.whole) (list_done _ _ _ (omega arith)))
