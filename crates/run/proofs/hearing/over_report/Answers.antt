use Prim.Native.Nat.{◌+◌, ◌<◌}
use borrow.Author.Rules.{rules}
use Rattle.run.proofs.Reported.{telling_starts, telling_eight, telling_fits, telling_goes, telling_done}
use Rattle.run.proofs.hearing.over_report.Goals as goal

pub loop-k-init : goal.loop-k-init
loop-k-init c =
    let e = c.enumerate-k-items.ensures in
    rw (c.into_iter-k-iterator.ensures.into_iter_gives, e.source, e.count, c.ascending.ensures) (telling_starts _ _ _ _ _ _ _)

-- the numbers stay below the first and eight
pub overflow_add-first : goal.overflow_add-first
overflow_add-first c =
    let step = c.in-Some.ensures.steps in
    let fits : (c.args.first + c.in-Some.k < 18446744073709551616) = rw step.1 (telling_fits _ _ _ _ _ _ _ _ _ _ c.loop-k.invariant _ _ step.0 c.requires.0) in
    search rules

pub reported-arrival-requires : goal.reported-arrival-requires
reported-arrival-requires c = telling_eight _ _ _ c.in-Some.ensures.steps.0

-- the report of the lowest of those left is told
pub loop-k-preserved : goal.loop-k-preserved
loop-k-preserved c =
    let step = c.in-Some.ensures.steps in
    let brings = rw step.1 at c.reported-arrival.ensures in
    rw step.2 (telling_goes _ _ _ _ _ _ _ _ _ _ c.loop-k.invariant _ _ step.0 _ brings _ c.spoken-next.ensures)

-- no reporter is left
pub returns : goal.returns
returns c = telling_done _ _ _ _ _ _ _ _ _ _ c.loop-k.invariant c.in-None.ensures.steps.0.0
