use mathlib.Core.Path.{◌≡◌, ap, ◌∙◌}
use mathlib.Core.List.{List}
use Prim.Native.Nat.{ℕ, min, ◌+◌}
use native.Mathlib.Omega.{arith}
use lib.ListN.{length}
use Rattle.sets.specs.Sets.{minus}
use Rattle.plan.specs.Due.{blocks_of_all, due}
use Rattle.plan.specs.Ahead.{faults_left}
use Rattle.plan.proofs.Cuts.{full_few, blocks_next, due_few}
use Rattle.plan.proofs.check.blocks_due.Goals as goal
use Rattle.plan.proofs.check.blocks_due.Goals.{After-cuts-total}

-- the blocks counted so far, those of this F and those of the others
counted : (c : goal.After-cuts-total) → c.loop-fault.total + c.cuts-total.result + length (blocks_of_all c.args.n (faults_left c.next.new.self)) ≡ length (due c.args.n c.args.f)
counted c =
    let k = c.cuts-total.ensures in
    let e = ap (λ (l : List ℕ). length (blocks_of_all c.args.n l)) c.in-Some.ensures.steps in
    let n = blocks_next c.args.n c.in-Some.fault (faults_left c.next.new.self) (c.minus.ensures ∙ ap (λ (x : ℕ). minus x c.in-Some.fault) (full_few _ _ c.requires c.full-servers.ensures).0) in
    let i = c.loop-fault.invariant in
    omega arith

pub loop-fault-init : goal.loop-fault-init
unfolding due
loop-fault-init c =
    let m : min c.args.n 8 ≡ c.args.n = let h = c.requires in omega arith in
    rw (c.into_iter-fault-iterator.ensures.into_iter_gives, c.faults-fault-items.ensures, m) (omega arith)

pub overflow_add-total : goal.overflow_add-total
overflow_add-total c = let e = counted (goal.at.overflow_add-total c).After-cuts-total in let b = due_few c.args.n c.args.f c.requires in omega arith

pub loop-fault-preserved : goal.loop-fault-preserved
loop-fault-preserved c = counted (goal.at.loop-fault-preserved c).After-cuts-total

pub returns : goal.returns
unfolding blocks_of_all
returns c = let e = ap (λ (l : List ℕ). length (blocks_of_all c.args.n l)) c.in-None.ensures.steps.0 in let i = c.loop-fault.invariant in omega arith
