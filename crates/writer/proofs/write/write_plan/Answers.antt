-- `writer::write::write_plan` meets its contract: the split test's refusal and its bad split are handed on; where it says "none" the card is read, and its
-- network has no bad split. Assumes nothing.
use Rattle.std.proofs.Common.{Ok, Err}
use Rattle.writer.specs.declared.write.Unwritten.{Unwritten}
use Rattle.std.proofs.lemmas.Result.{err_from_is_err_and}
use Rattle.writer.proofs.Answered.{refused_wrote, bad_wrote, good_wrote, good_network, good_unread}
use Rattle.writer.proofs.write.write_plan.Goals as goal

pub returns-in_err-split : goal.returns-in_err-split
returns-in_err-split c =
    let p = err_from_is_err_and c.from_residual.result c.from_residual.ensures.1 in
    rw (p.1, p.2) (refused_wrote _ _ _ c.in_err-split.ensures)

pub returns-in-Some : goal.returns-in-Some
returns-in-Some c = bad_wrote _ _ _ (rw c.in-Some.is at c.in_ok-split.ensures)

pub returns-in_err-network : goal.returns-in_err-network
returns-in_err-network c = good_unread _ c.args.lent.now (rw c.in_default.is at c.in_ok-split.ensures) _ c.in_err-network.ensures

pub write_good-requires : goal.write_good-requires
write_good-requires c = good_network _ c.args.lent.now _ _ _ c.in_ok-network.ensures (rw c.in_default.is at c.in_ok-split.ensures)

pub returns-in_err-bytes : goal.returns-in_err-bytes
returns-in_err-bytes c =
    let p = err_from_is_err_and c.from_residual-in_err-bytes.result c.from_residual-in_err-bytes.ensures.1 in
    let e = c.in_err-bytes.ensures in
    rw (p.1, p.2) (good_wrote _ _ _ _ _ c.in_ok-network.ensures (rw c.in_default.is at c.in_ok-split.ensures) (Err (Unwritten.Refused c.in_err-bytes.field-0.0)) _ e.answer e.bytes)

pub returns : goal.returns
returns c = let e = c.in_ok-bytes.ensures in good_wrote _ _ _ _ _ c.in_ok-network.ensures (rw c.in_default.is at c.in_ok-split.ensures) (Ok c.in_ok-bytes.bytes) _ e.answer e.bytes
