-- `Weak::meets_all` meets its contract: the table marks what the set leaves exactly if the set misses a weak set. Assumes nothing.
use Rattle.choice.proofs.Choosing.{meets_is}
use Rattle.choice.proofs.weak.Weak.meets_all.Goals as goal

pub returns : goal.returns
returns c = let w = c.args.self.now in meets_is _ _ _ _ _ _ w.rest w.marks _ _ c.minus-left.ensures
