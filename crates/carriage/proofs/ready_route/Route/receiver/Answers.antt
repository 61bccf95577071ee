-- `carriage::ready_route::Route::receiver` meets its contract. Assumes nothing.
use mathlib.Core.Path.{sym}
use native.Mathlib.Omega.{arith}
use Rattle.carriage.proofs.Walking.{walked_route}
use Rattle.carriage.proofs.Operands.{receiver_is}
use Rattle.carriage.proofs.ready_route.Route.receiver.Goals as goal

pub bounds-self-way : goal.bounds-self-way
bounds-self-way c =
    let w = walked_route _ c.args.self.now.whole.wide c.args.self.now.whole.servers.two _ _ c.walked-way.ensures in
    let h = c.args.self.now.whole.wide in
    omega (arith, w.2)

pub returns : goal.returns
returns c =
    let w = walked_route _ c.args.self.now.whole.wide c.args.self.now.whole.servers.two _ _ c.walked-way.ensures in
    sym (receiver_is _ _ w.0 w.2)
