-- `two_way::quick_test` meets its contract. The card reader gives the refusal, or the network, for which the rule is asked. Assumes nothing.
use mathlib.Core.Path.{ap, ◌∙◌}
use Rattle.std.proofs.lemmas.Result.{err_from_is_err_and}
use Rattle.two_way.specs.Quick.{quick_of, quick_test}
use Rattle.two_way.proofs.quick_test.Goals as goal

pub returns-in_err-read : goal.returns-in_err-read
unfolding quick_test
returns-in_err-read c =
    let p = err_from_is_err_and c.from_residual.result c.from_residual.ensures.1 in
    rw (p.1, p.2) (ap quick_of c.in_err-read.ensures)

pub returns : goal.returns
unfolding quick_test
returns c = c.by_rule.ensures ∙ ap quick_of c.in_ok-read.ensures
