use native.Mathlib.Omega.{arith}
use Rattle.network.specs.Links.{linked_in}
use Rattle.printer.proofs.Pairs.{counting_starts, counting_goes, counting_skips, counting_done}
use Rattle.printer.proofs.card_length.Goals as goal
use Rattle.printer.proofs.card_length.Goals.{else-links-u, then-links-u}

pub loop-pair-init : goal.loop-pair-init
loop-pair-init c = counting_starts _

pub loop-pair-preserved : goal.loop-pair-preserved
unfolding linked_in
loop-pair-preserved c = let k = c.loop-pair.invariant in
    elim c.if-links-u.branch [ then-links-u w ↦ rw w.bytes-is (counting_goes _ k (omega arith) w.if-links-u.true) | else-links-u w ↦ rw w.bytes-is (counting_skips _ k (omega arith) w.if-links-u.false) ]

pub returns : goal.returns
returns c = counting_done _ c.loop-pair.invariant (omega arith)
