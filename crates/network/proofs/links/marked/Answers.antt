-- `network::links::marked` meets its contract. What it computes is the number of the marked servers (`Packed`). Assumes nothing.
use Rattle.network.proofs.Packed.{packed_is}
use borrow.Author.Rules.{rules}
use Rattle.network.proofs.links.marked.Goals as goal

pub returns : goal.returns
returns c = packed_is c.args.marks (search rules)
