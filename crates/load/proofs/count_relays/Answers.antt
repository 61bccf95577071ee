use mathlib.Core.Path.{sym, ◌∙◌}
use native.Mathlib.Omega.{arith}
use Rattle.load.proofs.Counting.{counting_ends, Here, here_inside, here_wide, here_goes, Routed, routed_fits, routed_asks, routed_goes}
use Rattle.load.proofs.count_relays.Goals as goal
use Rattle.load.proofs.count_relays.Goals.{In-loop-command, Then-has_route}

-- a command stands here, with all of its operands
here : (c : In-loop-command) → Here c.args.plan.now c.loop-command.counts c.loop-command.at
here c = record { counting = c.loop-command.invariant; whole = sym c.is_cut.ensures ∙ c.loop-command-test.true }

-- and it has a route
routed : (c : Then-has_route) → Routed c.args.plan.now c.loop-command.counts c.loop-command.at
routed c = record { here = record { counting = c.loop-command.invariant; whole = sym c.is_cut.ensures ∙ c.loop-command-test.true }; route = sym c.has_route.ensures ∙ c.if-has_route.true }

pub bounds-plan-at : goal.bounds-plan-at
bounds-plan-at c = here_inside _ _ _ (here (goal.at.bounds-plan-at c).In-loop-command)

pub slice_bounds-add_relays-count : goal.slice_bounds-add_relays-count
slice_bounds-add_relays-count c = let f = routed_fits _ _ _ (routed (goal.at.slice_bounds-add_relays-count c).Then-has_route) in omega arith

pub slice_bounds-add_relays-start : goal.slice_bounds-add_relays-start
slice_bounds-add_relays-start c = let f = routed_fits _ _ _ (routed (goal.at.slice_bounds-add_relays-start c).Then-has_route) in omega arith

pub add_relays-requires : goal.add_relays-requires
add_relays-requires c = routed_asks _ _ _ (routed (goal.at.add_relays-requires c).Then-has_route) (omega arith)

pub loop-command-smaller-then-has_route : goal.loop-command-smaller-then-has_route
loop-command-smaller-then-has_route c = let f = routed_fits _ _ _ (routed (goal.at.loop-command-smaller-then-has_route c).Then-has_route) in omega arith

pub loop-command-preserved-then-has_route : goal.loop-command-preserved-then-has_route
loop-command-preserved-then-has_route c = routed_goes _ _ _ (routed (goal.at.loop-command-preserved-then-has_route c).Then-has_route) _ c.add_relays.ensures

pub overflow_add-at-else-has_route : goal.overflow_add-at-else-has_route
overflow_add-at-else-has_route c = let f = here_wide _ _ _ (here (goal.at.overflow_add-at-else-has_route c).In-loop-command) _ c.width-at.ensures in omega arith

pub loop-command-smaller : goal.loop-command-smaller
loop-command-smaller c = let f = here_wide _ _ _ (here (goal.at.loop-command-smaller c).In-loop-command) _ c.width-at.ensures in omega arith

pub loop-command-preserved : goal.loop-command-preserved
loop-command-preserved c = here_goes _ _ _ (here (goal.at.loop-command-preserved c).In-loop-command) (sym c.has_route.ensures ∙ c.if-has_route.false) _ c.width-at.ensures

pub returns : goal.returns
returns c = counting_ends _ _ _ c.loop-command.invariant (sym c.is_cut.ensures ∙ c.loop-command-test.false)
