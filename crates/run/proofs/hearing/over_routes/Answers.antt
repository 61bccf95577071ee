use borrow.Author.Rules.{rules}
use native.Mathlib.Omega.{arith}
use Prim.Native.Nat.{◌+◌, ◌<◌}
use Rattle.run.proofs.Speaking.{speaks_packed}
use Rattle.run.proofs.Carried.{OnRoute, along, arrivals_start, arrivals_fit, arrivals_go, arrivals_end}
use Rattle.run.proofs.hearing.over_routes.Goals as goal

pub loop-k-init : goal.loop-k-init
loop-k-init c =
    let e = c.enumerate-k-items.ensures in
    rw (c.into_iter-k-iterator.ensures.into_iter_gives, e.source, e.count) (arrivals_start _ _ _ _ _ _ _ c.args.routes.there, omega arith, omega arith)

pub overflow_add-first : goal.overflow_add-first
overflow_add-first c =
    let step = c.in-Some.ensures.steps in
    let fits : (c.args.first + c.in-Some.k < 18446744073709551616) = rw step.1 (arrivals_fit _ _ _ _ _ _ _ _ c.loop-k.invariant.0 _ _ step.0 c.requires) in
    search rules

-- the first of them is its source
pub brought-arrival-requires : goal.brought-arrival-requires
brought-arrival-requires c =
    let on : OnRoute c.args.faults.now.servers c.in-Some.route.operand.now c.walked-way.result = along _ _ c.in-Some.route.whole _ c.walked-way.ensures in
    on.from_server

pub bounds-operand-way : goal.bounds-operand-way
bounds-operand-way c =
    let on : OnRoute c.args.faults.now.servers c.in-Some.route.operand.now c.walked-way.result = along _ _ c.in-Some.route.whole _ c.walked-way.ensures in
    let w = on in omega arith

-- and the last its receiver
pub spoken-next-requires : goal.spoken-next-requires
spoken-next-requires c =
    let on : OnRoute c.args.faults.now.servers c.in-Some.route.operand.now c.walked-way.result = along _ _ c.in-Some.route.whole _ c.walked-way.ensures in
    on.to_server

-- what is left after one route more
pub loop-k-preserved : goal.loop-k-preserved
loop-k-preserved c =
    let on : OnRoute c.args.faults.now.servers c.in-Some.route.operand.now c.walked-way.result = along _ _ c.in-Some.route.whole _ c.walked-way.ensures in
    let step = c.in-Some.ensures.steps in
    let brings = rw step.1 at c.brought-arrival.ensures in
    (rw step.2 (arrivals_go _ _ _ _ _ _ _ _ c.loop-k.invariant.0 _ _ step.0 _ on _ brings _ c.spoken-next.ensures), search rules, search rules)

pub returns : goal.returns
returns c = speaks_packed _ _ _ (omega (arith, c.loop-k.invariant.1)) (arrivals_end _ _ _ _ _ _ _ _ c.loop-k.invariant.0 c.in-None.ensures.steps.0.0)
