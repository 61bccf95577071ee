use native.Mathlib.Omega.{arith}
use Rattle.network.proofs.Reading.{Linking, Fitting, turn_links, linking_fits, linking_range, fitting_goes, read_closed}
use Rattle.network.proofs.card.read_links.Goals as goal
use Rattle.network.proofs.card.read_links.Goals.{In-loop-head}

-- a whole link stands here
linking : (c : In-loop-head) → Linking c.args.card.now c.loop-head.at c.args.head.n c.args.head.f c.loop-head.marks
linking c = turn_links c.loop-head.invariant c.whole_link.ensures c.loop-head-test.true

-- and its operands are two servers
fitting : (c : goal.Then-link_fits) → Fitting c.args.card.now c.loop-head.at c.args.head.n c.args.head.f c.loop-head.marks
fitting c = linking_fits (turn_links c.loop-head.invariant c.whole_link.ensures c.loop-head-test.true) c.link_fits.ensures c.if-link_fits.true

pub loop-head-init : goal.loop-head-init
loop-head-init c = record { most = c.requires.0; later = omega arith; reading = rw c.requires.1 c.requires.2 }

pub bounds-card-at : goal.bounds-card-at
bounds-card-at c = let k = linking (goal.at.bounds-card-at c).In-loop-head in omega arith

pub bounds-card-at-in-loop-head : goal.bounds-card-at-in-loop-head
bounds-card-at-in-loop-head c = let k = linking (goal.at.bounds-card-at-in-loop-head c).In-loop-head in omega arith

pub bounds-marks-row : goal.bounds-marks-row
bounds-marks-row c = (fitting c).servers.0

pub bounds-marks-mark : goal.bounds-marks-mark
bounds-marks-mark c = (fitting c).servers.1

pub loop-head-smaller : goal.loop-head-smaller
loop-head-smaller c = let k = fitting c in omega arith

pub loop-head-preserved : goal.loop-head-preserved
loop-head-preserved c = fitting_goes (fitting c)

pub returns-else-link_fits : goal.returns-else-link_fits
returns-else-link_fits c = linking_range (linking (goal.at.returns-else-link_fits c).In-loop-head) c.link_fits.ensures c.if-link_fits.false

pub returns : goal.returns
returns c = read_closed c.loop-head.invariant _ c.read_end.ensures
