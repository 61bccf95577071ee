use mathlib.Core.Path.{ap, ◌∙◌}
use native.Mathlib.Omega.{arith}
use lib.Seq.{length-take-le}
use Rattle.std.specs.Option.{unwrap_or}
use Rattle.route.proofs.Paths.{path_length}
use Rattle.route.proofs.path_length.Goals as goal

pub returns : goal.returns
returns c =
    let p = path_length _ 8 (length-take-le 8 c.args.operand.now c.requires) in
    let e = c.unwrap_or.ensures ∙ ap (λ o. unwrap_or o 8) c.fill_at.ensures ∙ p.0 in
    (e, omega (arith, p.1))
