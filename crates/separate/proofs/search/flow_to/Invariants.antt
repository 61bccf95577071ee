-- `separate::search::flow_to` meets its contract. The invariant of its loop: what the routes still to be sought give is what the whole gives. Assumes
-- nothing.
use Rattle.flow.specs.Search.{flow_by}
use Rattle.separate.proofs.Adding.{Adding}
use Rattle.separate.proofs.search.flow_to.Given as goal

abbrev pub invariant-loop : goal.invariant-loop
invariant-loop l = Adding l.rows l.inner l.last l.starts l.count l.counter l.sought (flow_by l.rows l.near l.within l.sources l.receiver l.count)
