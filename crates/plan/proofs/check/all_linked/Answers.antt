use mathlib.Core.Path.{refl}
use Rattle.plan.proofs.Lists.{member_low}
use Rattle.plan.proofs.Reports.{linked_lacks, linked_goes, linked_ends}
use Rattle.plan.proofs.check.all_linked.Goals as goal

pub loop-m-init : goal.loop-m-init
loop-m-init c = rw (c.into_iter-m-iterator.ensures.into_iter_gives, c.ascending-m-items.ensures) refl

pub bounds-rows-m : goal.bounds-rows-m
bounds-rows-m c = member_low _ c.in-Some.ensures.steps

pub returns-then-not-member : goal.returns-then-not-member
returns-then-not-member c = let e = c.in-Some.ensures.steps in linked_lacks _ c.loop-m.invariant e (member_low _ e) c.requires c.member.ensures c.if-not-member.true

pub loop-m-preserved : goal.loop-m-preserved
loop-m-preserved c = let e = c.in-Some.ensures.steps in linked_goes _ c.loop-m.invariant e (member_low _ e) c.requires c.member.ensures c.if-not-member.false

pub returns : goal.returns
returns c = linked_ends _ _ c.loop-m.invariant c.in-None.ensures.steps.0
