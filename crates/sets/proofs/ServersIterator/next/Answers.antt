-- `next` of the members of a set meets its contract: the lowest member comes first (`Listed`). Assumes nothing.
use mathlib.Core.Path.{◌≡◌, ap, sym, ◌∙◌}
use mathlib.Core.List.{List, [], ◌∷◌}
use Prim.Native.Nat.{ℕ, ◌<◌}
use native.Mathlib.Omega.{arith}
use lib.ListN.{length}
use Rattle.sets.specs.Members.{members}
use Rattle.sets.specs.Sets.{single, minus, lowest}
use Rattle.sets.proofs.Listed.{members_none, members_then}
use Rattle.sets.proofs.ServersIterator.next.Goals as goal

pub returns-then-self-eq0-clause-steps : goal.returns-then-self-eq0-clause-steps
returns-then-self-eq0-clause-steps c = let none = ap members c.if-self-eq0.true ∙ members_none in (none, none)

pub returns-clause-steps : goal.returns-clause-steps
returns-clause-steps c = members_then _ _ _ _ (omega arith) c.if-self-eq0.false c.lowest-first.ensures c.single.ensures c.minus-self.ensures

pub returns-clause-goes : goal.returns-clause-goes
returns-clause-goes c =
    let split = ap length (members_then _ _ _ _ (omega arith) c.if-self-eq0.false c.lowest-first.ensures c.single.ensures c.minus-self.ensures) in
    record { on = λ u. (tt, tt, omega (arith, split)); keeps = tt; rests = λ u. tt }
