-- `next` of the sets that keep clear of a set meets its contract: the next one keeps clear too, and comes later (`NextSet`). Assumes nothing.
use mathlib.Core.Path.{◌≡◌, ap, ◌∙◌}
use Prim.Native.Nat.{ℕ, ◌<◌}
use native.Mathlib.Omega.{arith}
use Rattle.sets.specs.Sets.{meet, next}
use Rattle.sets.proofs.NextSet.{next_apart, next_after}
use Rattle.sets.proofs.SetsApartIterator.next.Goals as goal

pub invariant_of-self : goal.invariant_of-self
invariant_of-self c = record { clear = ap (λ (x : ℕ). meet x c.args.self.now.busy) c.next_apart-self.ensures ∙ next_apart c.args.self.now.next c.args.self.now.busy }

pub returns-clause-goes : goal.returns-clause-goes
returns-clause-goes c =
    let later : c.args.self.now.next < next c.args.self.now.next c.args.self.now.busy = next_after _ _ c.args.self.now.clear in
    record { on = λ u. (tt, tt, omega (arith, later)); keeps = tt; rests = λ u. tt }
