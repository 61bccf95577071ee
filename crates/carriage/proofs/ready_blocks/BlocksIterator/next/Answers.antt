-- `carriage::ready_blocks::Blocks` hands on the block at the front. Assumes nothing.
use mathlib.Core.Path.{refl}
use Prim.Native.Nat.{◌≤◌}
use lib.ListN.{length}
use native.Mathlib.Omega.{arith}
use borrow.Author.Rules.{rules}
use Rattle.carriage.proofs.Starts.{block_ready, block_is, bytes_fit, after_is, after_whole}
use Rattle.carriage.proofs.ready_blocks.BlocksIterator.next.Goals as goal

pub slice_bounds-after-count : goal.slice_bounds-after-count
slice_bounds-after-count c =
    let by = c.read_opening-opening in
    bytes_fit _ _ _ _ c.args.self.now.whole c.if-self-eq0.false _ c.sizes-sizes.ensures _ by.ensures (search by.type_inv) (search by.type_inv)

pub slice_bounds-after-start : goal.slice_bounds-after-start
slice_bounds-after-start c =
    let by = c.read_opening-opening in
    let fits : (by.result.bytes ≤ length c.args.self.now.rest.now) = bytes_fit _ _ _ _ c.args.self.now.whole c.if-self-eq0.false _ c.sizes-sizes.ensures _ by.ensures (search by.type_inv) (search by.type_inv) in
    search rules

pub invariant_of-self : goal.invariant_of-self
invariant_of-self c =
    let by = c.read_opening-opening in
    record { whole = after_whole _ _ _ _ c.args.self.now.whole c.if-self-eq0.false _ c.sizes-sizes.ensures _ by.ensures (search by.type_inv) (search by.type_inv) }

pub invariant_of-result : goal.invariant_of-result
invariant_of-result c =
    let by = c.read_opening-opening in
    record { ready = block_ready _ _ _ _ c.args.self.now.whole c.if-self-eq0.false _ c.sizes-sizes.ensures _ by.ensures (search by.type_inv) (search by.type_inv) }

pub returns-clause-steps : goal.returns-clause-steps
returns-clause-steps c =
    let by = c.read_opening-opening in
    record {
      left = omega arith;
      servers = refl;
      bound = refl;
      opened_n = by.ensures.servers;
      opened_f = by.ensures.bound;
      block = block_is _ _ _ _ c.args.self.now.whole c.if-self-eq0.false _ c.sizes-sizes.ensures _ by.ensures (search by.type_inv) (search by.type_inv);
      rest = after_is _ _ _ _ c.args.self.now.whole c.if-self-eq0.false _ c.sizes-sizes.ensures _ by.ensures (search by.type_inv) (search by.type_inv);
    }
