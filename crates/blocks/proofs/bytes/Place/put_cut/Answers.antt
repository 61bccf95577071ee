use Rattle.std.proofs.Common.{refl, rules}
use Rattle.blocks.proofs.Putting.{placed_join, laying_starts, laying_goes, laying_ends}
use Rattle.blocks.proofs.bytes.Place.put_cut.Goals as goal

pub loop-byte-init : goal.loop-byte-init
loop-byte-init c = laying_starts _ _

pub loop-byte-preserved : goal.loop-byte-preserved
loop-byte-preserved c = laying_goes c.loop-byte.invariant (search rules) c.loop-byte-test.true refl c.put-in-loop-byte.ensures

pub returns : goal.returns
returns c = placed_join c.put.ensures (laying_ends c.loop-byte.invariant (search rules) c.loop-byte-test.false)
