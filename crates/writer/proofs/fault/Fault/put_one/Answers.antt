-- `Fault::put_one` meets its contract: a block that is written anew is what `put_new` ensures; else its opening is laid and its body copied from where it
-- stands (`Repeats`). Assumes nothing.
use Rattle.std.proofs.Common.{arith, ap, ◌∙◌, length}
use Rattle.facts.proofs.Stores.{length_laid}
use Rattle.writer.proofs.Repeats.{again_fits, block_again}
use Rattle.writer.proofs.fault.Fault.put_one.Goals as goal

pub put_opening-requires : goal.put_opening-requires
put_opening-requires c = (again_fits _ _ _ _ _ _ _ _ _ _ (rw c.in-Some.is at c.requires.again) c.requires.room).0

pub put_again-requires : goal.put_again-requires
put_again-requires c =
    let (a, b, d) = again_fits _ _ _ _ _ _ _ _ _ _ (rw c.in-Some.is at c.requires.again) c.requires.room in
    let l = ap length c.put_opening.ensures ∙ length_laid _ _ _ in
    (b, omega arith)

pub returns-in-Some-clause-bytes : goal.returns-in-Some-clause-bytes
returns-in-Some-clause-bytes c = (block_again _ _ _ _ _ _ _ _ _ _ _ _ (rw c.in-Some.is at c.requires.again) c.put_opening.ensures c.put_again.ensures).0

pub returns-in-Some-clause-long : goal.returns-in-Some-clause-long
returns-in-Some-clause-long c = (block_again _ _ _ _ _ c.args.chosen.quorum _ _ _ _ _ _ (rw c.in-Some.is at c.requires.again) c.put_opening.ensures c.put_again.ensures).1
