use Rattle.std.proofs.Common.{rules}
use Rattle.separate.proofs.Trying.{trying_found, trying_fails, trying_passes, trying_ends, listed_below}
use Rattle.separate.proofs.Adding.{seek_tries}
use Rattle.separate.proofs.search.Ground.seek.Goals as goal

pub loop-x-init : goal.loop-x-init
loop-x-init c = seek_tries _ _ _ _ _ _ (cc)

pub enter-requires : goal.enter-requires
enter-requires c = listed_below _ _ _ c.in-Some.ensures.steps

pub returns-in-Ok : goal.returns-in-Ok
returns-in-Ok c =
    trying_found _ _ _ _ _ c.loop-x.invariant _ _ c.in-Some.ensures.steps _ c.member.ensures (search rules) _ c.enter.ensures _ c.in-Ok.is _ c.with_start.ensures

pub loop-x-preserved-in-Err : goal.loop-x-preserved-in-Err
loop-x-preserved-in-Err c =
    trying_fails _ _ _ _ _ c.loop-x.invariant _ _ c.in-Some.ensures.steps _ c.member.ensures (search rules) _ c.enter.ensures _ c.in-Err.is

pub loop-x-preserved : goal.loop-x-preserved
loop-x-preserved c = trying_passes _ _ _ _ _ c.loop-x.invariant _ _ c.in-Some.ensures.steps _ c.member.ensures (search rules)

pub returns : goal.returns
returns c = trying_ends _ _ _ _ _ c.loop-x.invariant c.in-None.ensures.steps.0
