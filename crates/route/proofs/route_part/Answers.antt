-- `route::route_part` meets its contract. By the set it is known whether the bytes are a route (`Walks`). Assumes nothing.
use Prim.Native.Nat.{◌<◌}
use borrow.Author.Rules.{rules}
use Rattle.route.proofs.Walks.{part_short, part_empty, part_path}
use Rattle.route.proofs.route_part.Goals as goal

pub returns-then-operand-lt8 : goal.returns-then-operand-lt8
returns-then-operand-lt8 c = search (rules, part_short)

pub returns-then-check_route-eq0 : goal.returns-then-check_route-eq0
returns-then-check_route-eq0 c =
    let r = c in
    let s = r in
    let small : s.args.sound < 256 = search rules in
    part_empty _ _ _ _ small _ r.if-operand-lt8.false r.check_route.ensures c.if-check_route-eq0.true

pub returns : goal.returns
returns c =
    let r = c in
    let s = r in
    let small : s.args.sound < 256 = search rules in
    part_path _ _ _ _ small _ r.if-operand-lt8.false r.check_route.ensures c.if-check_route-eq0.false _ c.path_length-end.ensures.0 c.path_length-end.ensures.1
