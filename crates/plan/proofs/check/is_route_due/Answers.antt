use mathlib.Core.Path.{ap, ◌∙◌}
use lib.Dec.{eqb}
use lib.ListN.{get_or}
use native.Mathlib.Omega.{arith}
use Rattle.plan.proofs.Groups.{wide, due_short, due_past, due_whole}
use Rattle.plan.proofs.check.is_route_due.Goals as goal

pub returns-then-plan-at-lt9 : goal.returns-then-plan-at-lt9
returns-then-plan-at-lt9 c = due_short _ _ _ (wide c.args.kind) (omega arith)

pub returns-then-at-plan : goal.returns-then-at-plan
returns-then-at-plan c = ap (eqb (get_or c.args.plan.now c.args.at 0)) c.command.ensures ∙ due_whole c.args.plan.now c.args.at _ (wide c.args.kind) (omega arith) (omega arith)

pub returns : goal.returns
returns c = due_past _ _ _ (wide c.args.kind) (omega arith)
