-- `Weak::choose` meets its contract: its tests and quorums, in the order of the definition. Assumes nothing.
use Rattle.std.proofs.Common.{rules}
use Rattle.choice.proofs.Choosing.{choice_lower, choice_rest, choice_part, choice_other}
use Rattle.choice.proofs.weak.Weak.choose.Goals as goal

pub returns-then-not-meets_all : goal.returns-then-not-meets_all
returns-then-not-meets_all c = choice_other _ _ _ _ _ c.args.self.now.rest _ _ c.minus-rest.ensures _ c.meets_all.ensures _ c.thinned.ensures (search rules)

pub returns-then-not-meets_all-2 : goal.returns-then-not-meets_all-2
returns-then-not-meets_all-2 c =
    choice_part _ _ _ _ _ c.args.self.now.rest _ _ c.minus-rest.ensures _ c.meets_all.ensures (search rules) _ c.thinned-here.ensures _ c.meets_all-2.ensures (search rules)

pub returns-then-here-there : goal.returns-then-here-there
returns-then-here-there c =
    choice_lower _ _ _ _ _ c.args.self.now.rest _ _ c.minus-rest.ensures _ c.meets_all.ensures (search rules) _ c.thinned-here.ensures _ c.meets_all-2.ensures (search rules)
    _ c.thinned-there.ensures c.if-here-there.true

pub returns-else-here-there : goal.returns-else-here-there
returns-else-here-there c =
    choice_rest _ _ _ _ _ c.args.self.now.rest _ _ c.minus-rest.ensures _ c.meets_all.ensures (search rules) _ c.thinned-here.ensures _ c.meets_all-2.ensures (search rules)
    _ c.thinned-there.ensures c.if-here-there.false
