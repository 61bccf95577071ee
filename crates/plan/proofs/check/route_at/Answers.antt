use Prim.Native.Nat.{◌+◌, ◌≤◌}
use lib.ListN.{length}
use native.Mathlib.Omega.{arith}
use Rattle.network.specs.Rows.{links_of}
use Rattle.plan.specs.Answers.{group_of}
use Rattle.plan.proofs.Groups.{wide, route_other, route_long, route_wrong, route_sound}
use Rattle.plan.proofs.check.route_at.Goals as goal
use Rattle.plan.proofs.check.route_at.Goals.{Then-is_route_due}

-- the operand is there
long : (c : goal.Then-is_route_due) → c.args.at + 9 ≤ length c.args.plan.now
long c = let a = c.args in route_long a.site.now.sound (links_of a.site.now.rows) _ (group_of a.group) _ c.is_route_due.ensures c.if-is_route_due.true (wide a.group.kind)

pub overflow_add-first : goal.overflow_add-first
overflow_add-first c = let l = long c in omega arith

pub slice_bounds-check_route-start : goal.slice_bounds-check_route-start
slice_bounds-check_route-start c = let l = long c in omega arith

pub returns-then-servers-eq0-clause-gives : goal.returns-then-servers-eq0-clause-gives
returns-then-servers-eq0-clause-gives c on = route_wrong _ _ _ (group_of c.args.group) _ c.is_route_due.ensures c.if-is_route_due.true c.check_route-servers.ensures on c.if-servers-eq0.true

pub returns-then-is_route_due-clause-gives : goal.returns-then-is_route_due-clause-gives
returns-then-is_route_due-clause-gives c on = route_sound _ _ _ (group_of c.args.group) _ c.is_route_due.ensures c.if-is_route_due.true c.check_route-servers.ensures on c.if-servers-eq0.false

pub returns-then-is_route_due-clause-whole : goal.returns-then-is_route_due-clause-whole
returns-then-is_route_due-clause-whole c = long (goal.at.returns-then-is_route_due-clause-whole c).Then-is_route_due

pub returns-clause-gives : goal.returns-clause-gives
returns-clause-gives c = route_other _ _ _ (group_of c.args.group) _ c.is_route_due.ensures c.if-is_route_due.false c.not_due.ensures
