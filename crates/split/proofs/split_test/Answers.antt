-- `split::split_test` meets its contract. The card reader gives the refusal, or the network, whose first bad split is searched. Assumes nothing.
use mathlib.Core.Path.{ap, ◌∙◌}
use Rattle.std.proofs.lemmas.Result.{err_from_is_err_and}
use Rattle.split.specs.Split.{split_of, split_test}
use Rattle.split.proofs.split_test.Goals as goal

pub returns-in_err-network : goal.returns-in_err-network
unfolding split_test
returns-in_err-network c =
    let p = err_from_is_err_and c.from_residual.result c.from_residual.ensures.1 in
    rw (p.1, p.2) (ap split_of c.in_err-network.ensures)

pub returns : goal.returns
unfolding split_test
returns c = c.first_bad.ensures ∙ ap split_of c.in_ok-network.ensures
