-- `apart` meets its contract: the first set after the empty one that keeps clear (`NextSet`). Assumes nothing.
use mathlib.Core.Path.{◌≡◌, ap, ◌∙◌}
use Prim.Native.Nat.{ℕ}
use Rattle.sets.specs.Sets.{meet}
use Rattle.sets.proofs.NextSet.{next_apart}
use Rattle.sets.proofs.apart.Goals as goal

pub invariant_of-result : goal.invariant_of-result
invariant_of-result c = record { clear = ap (λ (x : ℕ). meet x c.args.busy) c.next_apart.ensures ∙ next_apart 0 c.args.busy }
