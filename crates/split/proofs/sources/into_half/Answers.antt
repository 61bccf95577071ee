-- `split::sources::into_half` meets its contract. The union of four rows, each kept or not (`half_made`). Assumes nothing.
use Rattle.split.proofs.SourceRows.{half_made}
use Rattle.split.proofs.sources.into_half.Goals as goal

pub returns : goal.returns
returns c = let a = c.args in
    half_made a.rows a.first a.x _ _ _ _ _ _ _ c.kept-a.ensures c.kept-b.ensures c.kept-c.ensures c.kept-d.ensures
    c.union.ensures c.union-2.ensures c.union-3.ensures
