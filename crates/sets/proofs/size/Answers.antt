-- `sets::size` meets its contract. One computed test over the table (`Tables.sizes-are`) gives every set its size. Assumes nothing.
use Rattle.sets.proofs.Tables.{sizes_are}
use borrow.Author.Rules.{rules}
use Rattle.sets.proofs.size.Goals as goal

pub returns : goal.returns
returns c = sizes_are _ (search rules)
