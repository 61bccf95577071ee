use mathlib.Core.Path.{◌≡◌, refl}
use Prim.Native.Nat.{min, ◌+◌, ◌-◌, ◌^◌}
use native.Mathlib.Omega.{arith}
use lib.Pow.{pow_pos}
use Rattle.sets.specs.Sets.{full}
use Rattle.plan.proofs.due.faults.Goals as goal

pub returns : goal.returns
unfolding full
returns c =
    let p = pow_pos (min c.args.n 8) in
    let e = c.full.ensures in
    let z : c.full.result + 1 - 0 ≡ 2 ^ min c.args.n 8 = omega arith in
    rw z refl
