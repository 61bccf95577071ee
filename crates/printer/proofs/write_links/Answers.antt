use Prim.Native.Nat.{◌+◌, ◌≤◌}
use native.Mathlib.Omega.{arith}
use lib.ListN.{length, length-set}
use Rattle.network.specs.Links.{linked_in}
use Rattle.printer.proofs.Pairs.{laying_starts, laying_room, laying_goes, laying_skips, laying_done}
use Rattle.printer.proofs.write_links.Goals as goal
use Rattle.printer.proofs.write_links.Goals.{else-links-u, then-links-u}

pub loop-pair-init : goal.loop-pair-init
loop-pair-init c = laying_starts _ _ c.requires

pub bounds-lent-at : goal.bounds-lent-at
unfolding linked_in
bounds-lent-at c =
    let room : (let l = c.loop-pair in l.at + 3 ≤ length l.lent) = laying_room _ _ c.loop-pair.invariant (omega arith) c.if-links-u.true in
    omega (arith, room)

pub bounds-lent-at-then-links-u : goal.bounds-lent-at-then-links-u
unfolding linked_in
bounds-lent-at-then-links-u c =
    let room : (let l = c.loop-pair in l.at + 3 ≤ length l.lent) = laying_room _ _ c.loop-pair.invariant (omega arith) c.if-links-u.true in
    rw length-set (omega (arith, room))

pub bounds-lent-at-then-links-u-2 : goal.bounds-lent-at-then-links-u-2
unfolding linked_in
bounds-lent-at-then-links-u-2 c =
    let room : (let l = c.loop-pair in l.at + 3 ≤ length l.lent) = laying_room _ _ c.loop-pair.invariant (omega arith) c.if-links-u.true in
    rw (length-set, length-set) (omega (arith, room))

pub loop-pair-preserved : goal.loop-pair-preserved
unfolding linked_in
loop-pair-preserved c = let k = c.loop-pair.invariant in
    elim c.if-links-u.branch [ then-links-u w ↦ rw (w.lent-is, w.at-is) (laying_goes _ _ k (omega arith) w.if-links-u.true) | else-links-u w ↦ rw (w.lent-is, w.at-is) (laying_skips _ _ k (omega arith) w.if-links-u.false) ]

pub returns : goal.returns
returns c = laying_done _ _ c.loop-pair.invariant (omega arith)
