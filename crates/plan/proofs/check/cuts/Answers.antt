use mathlib.Core.Path.{ap}
use mathlib.Core.List.{List}
use mathlib.Core.Logic.{inl}
use Prim.Native.Nat.{ℕ}
use native.Mathlib.Omega.{arith}
use lib.ListN.{length}
use Rattle.plan.proofs.Cuts.{few_parts}
use Rattle.plan.proofs.check.cuts.Goals as goal

pub count-requires-clause-fits : goal.count-requires-clause-fits
count-requires-clause-fits c =
    let e = ap (λ (l : List ℕ). length l) c.parts.ensures in
    let l = few_parts c.args.sound in
    inl (omega arith)
