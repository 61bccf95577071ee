-- `split::is_weak` meets its contract. The two tables give the servers with a link into s (`halves_into`), and the table of sizes counts
-- those outside s and F (`size_outside`). Assumes nothing.
use lib.Dec.{leb}
use mathlib.Core.Path.{ap, ◌∙◌}
use Prim.Native.Nat.{ℕ}
use borrow.Author.Rules.{rules}
use Rattle.split.proofs.SourceRows.{halves_into}
use Rattle.split.proofs.Weakness.{size_outside}
use Rattle.split.proofs.is_weak.Goals as goal

pub returns : goal.returns
returns c = λ n links h k t.
    let a = c.args in
    ap (λ (x : ℕ). leb x a.f)
    (t.sized.entry c.minus-outside.result (search rules)
    ∙ size_outside n links h a.fault a.s _ _ _
    (halves_into n links a.lower.now a.upper.now h t.halves a.s k _ c.into-into.ensures)
    c.minus-neighbours.ensures c.minus-outside.ensures)
