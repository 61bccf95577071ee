use Rattle.separate.proofs.Taking.{taking_starts, taking_turn, taking_ends}
use Rattle.separate.proofs.lowest.lowest_of.Goals as goal

pub loop-first-init : goal.loop-first-init
loop-first-init c = taking_starts _ _ _ _ (c.ranges.set.fits) (cc) (cc)

pub loop-first-preserved : goal.loop-first-preserved
loop-first-preserved c = taking_turn _ _ _ _ _ _ _ _ _ c.loop-first.invariant c.in-Some.ensures.steps.1 c.in-Some.ensures.steps.0 c.single.ensures c.union-chosen.ensures

pub returns : goal.returns
returns c = taking_ends _ _ _ _ c.loop-first.invariant (λ h. (c.in-None.ensures.steps h).0)
