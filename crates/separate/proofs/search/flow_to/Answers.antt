use Rattle.std.proofs.lemmas.Result.{err_from_is_err_and}
use Rattle.separate.proofs.Adding.{adding_starts, adding_on, adding_ends, adding_done}
use Rattle.separate.proofs.search.flow_to.Goals as goal

pub loop-init : goal.loop-init
loop-init c = adding_starts _ _ _ _ _ _ _ _ _ _ _ _ _ c.single.ensures c.minus-inner.ensures c.last_in-last.ensures c.meet-starts.ensures c.meet.ensures c.lowest_of-first.ensures c.size-laid.ensures _ c.straight.ensures

pub returns-in_err-sought : goal.returns-in_err-sought
returns-in_err-sought c =
    let p = err_from_is_err_and c.from_residual.result c.from_residual.ensures.1 in
    rw (p.1, p.2) (adding_ends _ _ _ _ _ _ _ _ c.loop.invariant c.loop-test.true _ c.seek.ensures _ c.in_err-sought.was)

pub loop-preserved : goal.loop-preserved
loop-preserved c = adding_on _ _ _ _ _ _ _ _ c.loop.invariant c.loop-test.true _ c.seek.ensures _ c.in_ok-sought.was

pub returns : goal.returns
returns c = adding_done _ _ _ _ _ _ _ _ c.loop.invariant c.loop-test.false
