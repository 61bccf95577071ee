use mathlib.Core.Path.{◌∙◌}
use native.Mathlib.Omega.{arith}
use Rattle.split.proofs.SourceRows.{to_starts, to_joins, to_passes, to_ends}
use Rattle.split.proofs.sources.source_row.Goals as goal
use Rattle.split.proofs.sources.source_row.Goals.{else-links-u, then-links-u}

pub loop-u-init : goal.loop-u-init
loop-u-init c = (omega arith, to_starts _ _)

pub loop-u-preserved : goal.loop-u-preserved
loop-u-preserved c = let a = c.args in
    let l = c.loop-u in (
      omega arith,
      elim c.if-links-u.branch [ then-links-u w ↦ to_joins a.links.now a.v l.u l.row l.invariant.1 (omega arith) w.if-links-u.true c.if-links-u.row (w.row-is ∙ w.union-row.ensures) | else-links-u w ↦ rw w.row-is (to_passes a.links.now a.v l.u l.row l.invariant.1 w.if-links-u.false) ],
    )

pub returns : goal.returns
returns c = to_ends _ _ _ _ c.loop-u.invariant.1 (omega arith)
