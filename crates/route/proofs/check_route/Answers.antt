use mathlib.Core.Path.{◌≡◌, refl}
use Prim.Native.Nat.{◌+◌, ◌<◌}
use native.Mathlib.Omega.{arith}
use lib.ListN.{get_or, take, drop}
use borrow.Author.Rules.{rules}
use Rattle.route.proofs.Paths.{tail_long, tail_at}
use Rattle.route.proofs.Walks.{route_short}
use Rattle.route.proofs.Turns.{walk_astray, walk_starts, walk_over, walk_stops, walk_ends, walk_on_lem}
use Rattle.route.proofs.check_route.Goals as goal
use Rattle.route.proofs.check_route.Goals.{In-loop-server}

-- the turn for byte `server-index` + 1
turn : (c : goal.In-loop-server) → let i = c.loop-server.server-index in (i + 1 < 8) × (get_or (take 7 (drop 1 c.args.operand.now)) i 0 ≡ get_or c.args.operand.now (i + 1) 0)
turn c = let l = tail_long c.args.operand.now c.if-operand-lt8.false in (omega arith, tail_at c.args.operand.now c.if-operand-lt8.false c.loop-server.server-index (omega arith))

pub returns-then-operand-lt8 : goal.returns-then-operand-lt8
returns-then-operand-lt8 c = search (rules, route_short)

pub loop-server-init : goal.loop-server-init
loop-server-init c =
    let small : c.args.sound < 256 = search rules in
    walk_starts _ _ _ _ _ small c.if-operand-lt8.false c.meet.ensures c.member.ensures c.if-member.true c.single.ensures c.minus-free.ensures c.lacking-left.ensures

pub returns-else-member-2 : goal.returns-else-member-2
returns-else-member-2 c =
    let t = turn (goal.at.returns-else-member-2 c).In-loop-server in
    let found = rw t.1 at c.member-in-loop-server.ensures in
    walk_stops c.loop-server.invariant c.if-operand-lt8.false t.0 refl c.meet-in-loop-server.ensures found c.if-member-2.false

pub returns-then-left-eq0 : goal.returns-then-left-eq0
returns-then-left-eq0 c =
    let t = turn (goal.at.returns-then-left-eq0 c).In-loop-server in
    let found = rw t.1 at c.member-in-loop-server.ensures in
    let one = rw t.1 at c.single-then-member-2.ensures in
    let end = rw t.1 at c.ended.ensures in
    walk_ends c.loop-server.invariant c.if-operand-lt8.false t.0 refl c.meet-in-loop-server.ensures found c.if-member-2.true one c.minus-free-then-member-2.ensures refl (λ i. let f = c.type_inv.operand i in omega arith) c.if-left-eq0.true end

pub loop-server-preserved : goal.loop-server-preserved
loop-server-preserved c =
    let t = turn (goal.at.loop-server-preserved c).In-loop-server in
    let found = rw t.1 at c.member-in-loop-server.ensures in
    let one = rw t.1 at c.single-then-member-2.ensures in
    rw t.1 (walk_on_lem c.loop-server.invariant c.if-operand-lt8.false t.0 refl c.meet-in-loop-server.ensures found c.if-member-2.true one c.minus-free-then-member-2.ensures refl c.if-left-eq0.false)

pub returns-then-member : goal.returns-then-member
returns-then-member c = walk_over c.loop-server.invariant c.if-operand-lt8.false (let l = tail_long c.args.operand.now c.if-operand-lt8.false in omega arith)

pub returns : goal.returns
returns c = search (rules, walk_astray)
