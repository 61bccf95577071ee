-- `routes::Call::search` meets its contract: its sets are those of the definition (`search_is`). Assumes nothing.
use Rattle.routes.proofs.Calling.{search_is}
use Rattle.routes.proofs.Call.search.Goals as goal

pub returns : goal.returns
returns c =
    search_is _ _ _ c.args.network.proper _ _ _ c.requires _ c.source_rows-into.result c.rows-rows.ensures c.source_rows-into.ensures _ _ c.full-servers.ensures c.minus-within.ensures _ c.flow_to.ensures
