-- `split::first_bad` meets its contract. The invariants of its three scans, `Scan`, `Sides` and `Splits`, say that what is left to scan
-- gives the answer of the whole. Each need of a scan is one lemma of `Scans`. Assumes nothing.
use mathlib.Core.Path.{◌≡◌}
use Rattle.std.specs.Prelude.{None}
use Prim.Native.Nat.{◌+◌}
use Rattle.split.proofs.Scans.{Scan, Sides, Splits, Going}
use Rattle.split.proofs.first_bad.Given as goal

abbrev pub invariant-scan : goal.invariant-scan
invariant-scan l = record { none : l.found ≡ None; scan : Scan l.fn.network.n l.f (l.servers + 1) l.sources.rows l.fault }

abbrev pub invariant-loop-left : goal.invariant-loop-left
invariant-loop-left l = record {
  none : l.found ≡ None;
  over : Going l.servers l.fault l.left-iterator.last l.left-iterator.busy;
  sides : Sides l.fn.network.n l.f (l.servers + 1) l.sources.rows l.fault l.left-iterator.next;
}

abbrev pub invariant-loop-right : goal.invariant-loop-right
invariant-loop-right l = record {
  none : l.found ≡ None;
  over : Going l.servers l.busy l.right-iterator.last l.right-iterator.busy;
  splits : Splits l.fn.network.n l.f (l.servers + 1) l.sources.rows l.fault l.left l.busy l.right-iterator.next;
}
