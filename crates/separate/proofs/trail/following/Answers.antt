-- `separate::trail::following` meets its contract. Past the eighth server the row is empty, and 8 is the lowest of none. Assumes nothing.
use Rattle.separate.proofs.Beyond.{follows_beyond}
use borrow.Author.Rules.{rules}
use Rattle.separate.proofs.trail.following.Goals as goal

pub returns : goal.returns
returns c = follows_beyond c.args.flow.out _ (search rules) c.if-x-lt8.false
