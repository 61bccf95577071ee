-- `carriage::ready_routes::Routes` hands on the next route. Assumes nothing.
use Rattle.carriage.proofs.Operands.{routes_none, routes_next, routes_go, route_there}
use Rattle.carriage.proofs.ready_routes.RoutesIterator.next.Goals as goal

pub returns-then-self-eq0-clause-steps : goal.returns-then-self-eq0-clause-steps
returns-then-self-eq0-clause-steps c = let e = routes_none c.args.self.now.block.now c.args.self.now.at _ c.if-self-eq0.true in (e, e)

pub invariant_of-self : goal.invariant_of-self
invariant_of-self c = record { there = routes_go _ _ _ c.if-self-eq0.false c.args.self.now.there }

pub invariant_of-result : goal.invariant_of-result
invariant_of-result c = record { whole = route_there _ _ _ c.if-self-eq0.false c.args.self.now.there }

pub returns-clause-steps : goal.returns-clause-steps
returns-clause-steps c = routes_next _ _ _ c.if-self-eq0.false
