use mathlib.Core.Path.{refl}
use native.Mathlib.Omega.{arith}
use Rattle.plan.proofs.Walks.{cuts_walk, walk_ends, walk_stops, walk_goes}
use Rattle.plan.proofs.Bounds.{block_onward, block_reaches, block_stops}
use Rattle.plan.proofs.check.check_cuts.Goals as goal

pub later-requires : goal.later-requires
later-requires c = let b = block_stops _ _ _ _ _ c.loop-part.invariant.inside c.in-Err.ensures refl in (b.0, omega arith)

pub returns-in-Err-clause-gives : goal.returns-in-Err-clause-gives
returns-in-Err-clause-gives c =
    let i = c.loop-part.invariant in
    rw (c.later.ensures.0, c.later.ensures.1) (walk_stops (cuts_walk _ _ _ _ _) i.gives c.in-Some.ensures.steps (block_onward _ _ _ _ _ i.inside c.in-Err.ensures c.loop-part.carriages))

pub overflow_add-at : goal.overflow_add-at
overflow_add-at c = let b = block_reaches _ _ _ _ _ c.loop-part.invariant.inside c.in-Ok.ensures refl in omega arith

pub overflow_add-carriages : goal.overflow_add-carriages
overflow_add-carriages c = let b = block_reaches _ _ _ _ _ c.loop-part.invariant.inside c.in-Ok.ensures refl in omega arith

pub loop-part-preserved : goal.loop-part-preserved
loop-part-preserved c =
    let i = c.loop-part.invariant in
    record {
      inside = block_reaches _ _ _ _ _ i.inside c.in-Ok.ensures refl;
      few = omega arith;
      gives = walk_goes (cuts_walk _ _ _ _ _) i.gives c.in-Some.ensures.steps (block_onward _ _ _ _ _ i.inside c.in-Ok.ensures c.loop-part.carriages);
    }

pub returns-clause-gives : goal.returns-clause-gives
returns-clause-gives c = walk_ends (cuts_walk _ _ _ _ _) c.loop-part.invariant.gives c.in-None.ensures.steps.0
