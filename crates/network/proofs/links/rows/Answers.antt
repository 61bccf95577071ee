-- `network::links::rows` meets its contract. Each entry is what `marked` ensures of its row of marks. Assumes nothing.
use Rattle.network.proofs.LinkRows.{rows_made}
use Rattle.network.proofs.links.rows.Goals as goal

pub returns : goal.returns
returns c = search rows_made
