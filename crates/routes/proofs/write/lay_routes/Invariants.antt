-- `routes::write::lay_routes` meets its contract. The invariant of its loop, `Routes`: to lay the routes left over what is there gives the whole. Assumes
-- nothing.
use Rattle.sets.specs.Members.{members}
use Rattle.routes.proofs.Laying.{Routes}
use Rattle.routes.proofs.write.lay_routes.Given as goal

abbrev pub invariant-loop-x : goal.invariant-loop-x
invariant-loop-x l = Routes l.flow l.receiver l.initial.lent l.lent l.at (members l.x-iterator.left)
