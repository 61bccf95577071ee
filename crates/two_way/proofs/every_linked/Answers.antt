use mathlib.Core.Path.{◌≡◌}
use lib.ListN.{get_or}
use native.Mathlib.Omega.{arith}
use Rattle.sets.specs.Sets.{single, union, full}
use Rattle.two_way.proofs.Linked.{all_of, with_itself, joining_misses, joining_ends}
use Rattle.two_way.proofs.every_linked.Goals as goal

pub returns-then-all-servers : goal.returns-then-all-servers
returns-then-all-servers c =
    let servers : (c.full-servers.result ≡ full c.args.n) = all_of _ _ (omega arith) c.full-servers.ensures in
    let with-v : (c.union-all.result ≡ union (get_or c.args.sources c.loop-v.v 0) (single c.loop-v.v)) = with_itself _ _ _ _ c.single-itself.ensures c.union-all.ensures in
    joining_misses _ _ _ c.loop-v.invariant _ _ servers with-v (omega arith) c.if-all-servers.true

pub returns : goal.returns
returns c = joining_ends _ _ _ c.loop-v.invariant c.loop-v-test.false
