-- `route::lacking` meets its contract. The two halves make up the word (`Fills`). Assumes nothing.
use native.Mathlib.Omega.{arith}
use Rattle.route.proofs.Fills.{lack_word}
use Rattle.route.proofs.lacking.Goals as goal

pub returns : goal.returns
returns c =
    let start = c in
    lack_word start.args.operand.now start.requires (λ i. omega (arith, c.shared_slice_known-7-1.given i)) _ _ c.four-lower.ensures c.four-upper.ensures
