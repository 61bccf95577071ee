use mathlib.Core.Path.{◌≡◌, refl, sym, ◌∙◌}
use native.Mathlib.Omega.{arith}
use Rattle.split.specs.Sources.{Sources}
use Rattle.split.proofs.SourceRows.{sources_proper}
use Rattle.two_way.proofs.Returns.{two_way}
use Rattle.two_way.proofs.Linked.{linked_most}
use Rattle.two_way.proofs.Scanned.{Back, scan_starts, scan_less, scan_kept, scan_nothing, scan_ends}
use Rattle.two_way.proofs.least_taken.Goals as goal
use Rattle.two_way.proofs.least_taken.Goals.{Start, else-taken-least, then-taken-least+else-taken-eq0}

pub returns-then-every_linked : goal.returns-then-every_linked
returns-then-every_linked c = linked_most _ c.args.network.links _ c.args.network.proper.most c.requires.1 (sym c.every_linked.ensures ∙ c.if-every_linked.true)

pub loop-part-init : goal.loop-part-init
loop-part-init c = let p = c.args.network.proper in scan_starts _ _ _ _ _ p.least p.most c.full-servers.ensures refl refl

pub returns-then-taken-eq0 : goal.returns-then-taken-eq0
returns-then-taken-eq0 c =
    let p = c.args.network.proper in
    scan_nothing _ _ _ _ _ _ _ _ c.loop-part.invariant c.loop-part-test.true c.cut_off-taken.ensures c.if-taken-eq0.true _ (two_way _ _ _ p c.requires.0) (rw c.from_rows-sources.ensures (sources_proper _ _ _ _ p c.requires.1))

pub loop-part-preserved : goal.loop-part-preserved
loop-part-preserved c =
    elim c.if-taken-least.branch [
      | then-taken-least+else-taken-eq0 w ↦ rw w.least-is (scan_less _ _ _ _ _ _ _ _ c.loop-part.invariant c.loop-part-test.true c.cut_off-taken.ensures w.if-taken-least.true)
      | else-taken-least w ↦ rw w.least-is (scan_kept _ _ _ _ _ _ _ _ c.loop-part.invariant c.loop-part-test.true c.cut_off-taken.ensures w.if-taken-least.false)
    ]

pub returns : goal.returns
returns c =
    let p = c.args.network.proper in
    scan_ends _ _ _ _ _ _ _ c.loop-part.invariant c.loop-part-test.false _ (two_way _ _ _ p c.requires.0) (rw c.from_rows-sources.ensures (sources_proper _ _ _ _ p c.requires.1))
