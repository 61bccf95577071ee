use mathlib.Core.Path.{refl, ◌∙◌}
use Rattle.std.proofs.lemmas.Result.{err_from_is_err_and}
use Rattle.plan.proofs.Joins.{then_stops, then_goes}
use Rattle.plan.proofs.Parts.{rest_split}
use Rattle.plan.proofs.check.check_rest.Goals as goal

pub returns-in_err-inward : goal.returns-in_err-inward
returns-in_err-inward c =
    let p = err_from_is_err_and c.from_residual.result c.from_residual.ensures.1 in
    rw (p.1, p.2) (then_stops _ (rest_split c.args.site.now _ _ _ _ _ c.minus-receivers.ensures refl) c.in_err-inward.ensures)

pub returns-in_err-among : goal.returns-in_err-among
returns-in_err-among c =
    let p = err_from_is_err_and c.from_residual-in_err-among.result c.from_residual-in_err-among.ensures.1 in
    rw (p.1, p.2) (then_stops _ (then_goes _ (rest_split c.args.site.now _ _ _ _ _ c.minus-receivers.ensures refl) c.in_ok-inward.ensures) c.in_err-among.ensures)

pub returns-in_err-outward : goal.returns-in_err-outward
returns-in_err-outward c =
    let p = err_from_is_err_and c.from_residual-in_err-outward.result c.from_residual-in_err-outward.ensures.1 in
    rw (p.1, p.2) (then_stops _ (then_goes _ (then_goes _ (rest_split c.args.site.now _ _ _ _ _ c.minus-receivers.ensures c.minus-others.ensures) c.in_ok-inward.ensures) c.in_ok-among.ensures) c.in_err-outward.ensures)

pub returns : goal.returns
returns c = c.check_reports.ensures ∙ then_goes _ (then_goes _ (then_goes _ (rest_split c.args.site.now _ _ _ _ _ c.minus-receivers.ensures c.minus-others.ensures) c.in_ok-inward.ensures) c.in_ok-among.ensures) c.in_ok-outward.ensures
