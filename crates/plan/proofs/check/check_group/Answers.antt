use mathlib.Core.Path.{◌≡◌, ap, ◌∙◌}
use Prim.Native.Nat.{suc, ◌+◌, ◌-◌}
use native.Mathlib.Omega.{arith}
use Rattle.std.proofs.lemmas.Result.{err_from_is_err_and}
use Rattle.sets.specs.Sets.{minus}
use Rattle.network.specs.Rows.{links_of}
use Rattle.plan.specs.Check.{check_group}
use Rattle.plan.specs.Answers.{group_of}
use Rattle.plan.proofs.Groups.{group_stops, group_shares, group_goes, group_done}
use Rattle.plan.proofs.check.check_group.Goals as goal
use Rattle.plan.proofs.check.check_group.Goals.{In-loop-k}

-- one route, and those that follow it
turn : (c : goal.In-loop-k) → let a = c.args in let l = c.loop-k in
    check_group a.site.now.sound (links_of a.site.now.rows) a.plan.now (group_of a.group) (suc (a.group.count - (l.k + 1))) l.at l.carriages l.used
    ≡ check_group a.site.now.sound (links_of a.site.now.rows) a.plan.now (group_of a.group) a.group.count a.start.at a.start.carriages 0
turn c =
    let e : c.args.group.count - c.loop-k.k ≡ suc (c.args.group.count - (c.loop-k.k + 1)) = omega arith in
    rw (← e) c.loop-k.invariant.gives

pub returns-in_err-servers : goal.returns-in_err-servers
returns-in_err-servers c =
    let p = err_from_is_err_and c.from_residual.result c.from_residual.ensures.1 in
    rw (p.1, p.2) (group_stops _ _ _ _ _ _ _ _ (turn (goal.at.returns-in_err-servers c).In-loop-k) c.in_err-servers.ensures.gives)

pub returns-then-shared-ne0 : goal.returns-then-shared-ne0
returns-then-shared-ne0 c = group_shares _ _ _ _ _ _ _ _ (turn (goal.at.returns-then-shared-ne0 c).In-loop-k) c.in_ok-servers.ensures.gives (c.minus-others.ensures ∙ ap (minus _) c.single.ensures) c.meet-shared.ensures c.if-shared-ne0.true

pub loop-k-preserved : goal.loop-k-preserved
loop-k-preserved c = record { most = omega arith; few = omega arith; gives = group_goes _ _ _ _ _ _ _ _ (turn (goal.at.loop-k-preserved c).In-loop-k) c.in_ok-servers.ensures.gives (c.minus-others.ensures ∙ ap (minus _) c.single.ensures) c.meet-shared.ensures c.if-shared-ne0.false c.union-used.ensures }

pub returns : goal.returns
returns c = group_done _ _ _ _ _ _ _ _ (omega arith) ∙ c.loop-k.invariant.gives
