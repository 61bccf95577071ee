use mathlib.Core.Path.{◌≡◌, refl, sym, ap, ◌∙◌}
use Prim.Native.Nat.{ℕ, ◌+◌, ◌<◌, ◌≤◌, ◌^◌}
use native.Mathlib.Omega.{arith}
use Rattle.sets.specs.Sets.{size, next}
use Rattle.split.proofs.SourceRows.{sources_proper}
use Rattle.split.proofs.Scans.{limit_of, scan_starts, scan_ends, scan_past, sides_start, sides_end, sides_past, splits_start, splits_end, splits_past, splits_hit}
use Rattle.split.proofs.first_bad.Goals as goal
use Rattle.split.proofs.first_bad.Goals.{else-size-f, then-size-f+in-None}

pub scan-init : goal.scan-init
scan-init c = record { none = refl; scan = scan_starts _ _ _ _ c.args.network.proper.most (limit_of _ _ c.args.network.proper.most c.full-servers.ensures) }

pub loop-left-init : goal.loop-left-init
loop-left-init c =
    let a = c.apart-left-items.ensures in
    let small : size c.scan.fault ≤ c.args.network.f = omega arith in
    rw c.into_iter-left-iterator.ensures.into_iter_gives (record {
      none = c.scan.invariant.none;
      over = record { to = a.1; clear = a.2 };
      sides = sides_start _ _ _ _ _ c.scan.invariant.scan (omega arith) small _ a.0;
    })

pub loop-right-init : goal.loop-right-init
loop-right-init c =
    let a = c.apart-right-items.ensures in
    let s = c.in-Some.ensures.steps in
    let i = c.loop-left.invariant in
    rw (c.into_iter-right-iterator.ensures.into_iter_gives, s.1) (record {
      none = i.none;
      over = record { to = a.1; clear = a.2 };
      splits = splits_start _ _ _ _ _ _ i.sides (omega (arith, i.over.to, s.0)) _ (rw s.1 at c.is_weak.ensures) c.if-is_weak.true _ _ (rw s.1 at c.union-busy.ensures) a.0;
    })

pub loop-left-preserved-in-None-right : goal.loop-left-preserved-in-None-right
loop-left-preserved-in-None-right c =
    let n = c.in-None-right.ensures.steps in
    let s = c.in-Some.ensures.steps in
    let i = c.loop-left.invariant in
    let r = c.loop-right.invariant in
    record {
      none = r.none;
      over = record { to = s.3 ∙ i.over.to; clear = s.4 ∙ i.over.clear };
      sides = splits_end _ _ _ _ _ _ _ _ (rw s.1 at r.splits) (omega (arith, n, r.over.to)) _ (s.2 ∙ ap (next _) i.over.clear);
    }

pub loop-right-preserved : goal.loop-right-preserved
loop-right-preserved c =
    let s = c.in-Some-right.ensures.steps in
    let r = c.loop-right.invariant in
    record {
      none = r.none;
      over = record { to = s.3 ∙ r.over.to; clear = s.4 ∙ r.over.clear };
      splits = splits_past _ _ _ _ r.splits (omega (arith, r.over.to, s.0)) (rw s.1 at c.is_weak-in-loop-right.ensures) c.if-is_weak-2.false _ (s.2 ∙ ap (next _) r.over.clear);
    }

pub loop-left-preserved : goal.loop-left-preserved
loop-left-preserved c =
    let s = c.in-Some.ensures.steps in
    let i = c.loop-left.invariant in
    record {
      none = i.none;
      over = record { to = s.3 ∙ i.over.to; clear = s.4 ∙ i.over.clear };
      sides = sides_past _ _ _ _ _ _ i.sides (omega (arith, i.over.to, s.0)) _ (rw s.1 at c.is_weak.ensures) c.if-is_weak.false _ (s.2 ∙ ap (next _) i.over.clear);
    }

-- F was small, and every L has been tried; or it was not
pub scan-preserved : goal.scan-preserved
scan-preserved c =
    elim c.if-size-f.branch [
      | then-size-f+in-None w ↦
          rw w.found-is (record { none = w.loop-left.invariant.none; scan = sides_end _ _ _ _ _ _ w.loop-left.invariant.sides (let n = w.in-None.ensures.steps in omega (arith, n, w.loop-left.invariant.over.to)) })
      | else-size-f w ↦
          rw w.found-is (record { none = c.scan.invariant.none; scan = scan_past _ _ _ _ _ c.scan.invariant.scan (omega arith) (let e = c.size.ensures in let h = w.if-size-f.false in omega arith) })
    ]

-- L and R are weak
pub returns-then-is_weak-2 : goal.returns-then-is_weak-2
returns-then-is_weak-2 c =
    let s = c.in-Some.ensures.steps in
    let t = c.in-Some-right.ensures.steps in
    let r = c.loop-right.invariant in
    rw t.1 (splits_hit _ _ _ _ r.splits (omega (arith, r.over.to, t.0)) (rw t.1 at c.is_weak-in-loop-right.ensures) c.if-is_weak-2.true _ refl c.minus-sound.ensures (rw t.1 at c.union-sides.ensures) c.minus-rest.ensures _ (sources_proper _ _ _ _ c.args.network.proper c.of-sources.ensures))

pub returns-after-size-f : goal.returns-after-size-f
returns-after-size-f c =
    let so = sources_proper _ _ _ _ c.args.network.proper c.of-sources.ensures in
    elim c.if-size-f.branch [
      | then-size-f+in-None w ↦
          let past = sides_end _ _ _ _ _ _ w.loop-left.invariant.sides (let n = w.in-None.ensures.steps in omega (arith, n, w.loop-left.invariant.over.to)) in
          rw (w.found-is, w.loop-left.invariant.none) (scan_ends _ _ _ _ _ past (omega arith) _ so)
      | else-size-f w ↦
          let past = scan_past _ _ _ _ _ c.scan.invariant.scan (omega arith) (let e = c.size.ensures in let h = w.if-size-f.false in omega arith) in
          rw (w.found-is, c.scan.invariant.none) (scan_ends _ _ _ _ _ past (omega arith) _ so)
    ]
