use mathlib.Core.Path.{ap, ◌∙◌}
use native.Mathlib.Omega.{arith}
use borrow.Kind.Array.{e_bool}
use Rattle.facts.proofs.Rows.{row_long}
use Rattle.network.specs.Rows.{links_of}
use Rattle.network.proofs.LinkRows.{links_back}
use Rattle.plan.proofs.check.rows.Goals as goal

pub returns : goal.returns
returns c =
    let g = c.well_formed.0 in
    ap links_of c.rows.ensures ∙ links_back c.args.links (λ u h. row_long e_bool.ty.Denot e_bool.ty.own_val 8 c.args.links g.0 u g.1.1 (omega (arith, g.1.0.1))) g.1.0.1
