-- `carriage::ready_route::Route::source` meets its contract. Assumes nothing.
use native.Mathlib.Omega.{arith}
use Rattle.carriage.proofs.Walking.{receiver_path}
use Rattle.carriage.proofs.Operands.{source_is}
use Rattle.carriage.proofs.ready_route.Route.source.Goals as goal

pub bounds-self-0 : goal.bounds-self-0
bounds-self-0 c = let h = c.args.self.now.whole.wide in omega arith

pub returns : goal.returns
returns c =
    let r = c.args.self.now.whole in
    let w = receiver_path _ r.wide r.servers.two in
    source_is _ r _ w.0 w.2 w.1
