-- `run::hearing::over_routes` meets its contract. The invariant of its loop: with what the routes left bring, what is held becomes what the whole speaks
-- against. What a turn needs are lemmas of `Carried`. Assumes nothing.
use mathlib.Core.List.{map}
use Prim.Native.Nat.{◌<◌}
use Rattle.rules.specs.Blocks.{carriage_of}
use Rattle.steps.specs.Hearing.{heard}
use Rattle.steps.specs.Steps.{held}
use Rattle.carriage.specs.Passing.{routes_of}
use Rattle.run.specs.Speaking.{works_of}
use Rattle.run.proofs.Carried.{Arriving}
use Rattle.run.proofs.hearing.over_routes.Given as goal

abbrev pub invariant-loop-k : goal.invariant-loop-k
invariant-loop-k l =
    let faults = l.faults in
    let source = held (works_of l.sure l.ones) in
    Arriving faults.servers faults.table.now l.first source (heard faults.servers faults.table.now l.first source (map carriage_of (routes_of l.fn.routes)))
    (record { zero = l.zero; one = l.one }) (routes_of l.k-iterator.iter) l.k-iterator.count × (l.zero < 256) × (l.one < 256)
