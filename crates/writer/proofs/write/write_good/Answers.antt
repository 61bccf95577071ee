-- `writer::write::write_good` meets its contract: the plan has as many bytes as `plan_length` says, so the blocks and the end are the plan. Assumes nothing.
use Rattle.writer.proofs.Answered.{short_written, blocks_room, end_room, room_written}
use Rattle.writer.proofs.write.write_good.Goals as goal

pub returns-then-lent-bytes-clause-answer : goal.returns-then-lent-bytes-clause-answer
returns-then-lent-bytes-clause-answer c = let p = c.args.network.now.proper in short_written _ _ _ p c.requires _ _ (c.plan_length-bytes.ensures.plan p.most p.bound) c.if-lent-bytes.true

pub put_blocks-end-requires-clause-room : goal.put_blocks-end-requires-clause-room
put_blocks-end-requires-clause-room c = let p = c.args.network.now.proper in blocks_room _ _ _ p c.requires c.args.lent.now _ (c.plan_length-bytes.ensures.plan p.most p.bound) c.if-lent-bytes.false

pub bounds-lent-end : goal.bounds-lent-end
bounds-lent-end c = let p = c.args.network.now.proper in end_room _ _ _ p c.requires _ _ (c.plan_length-bytes.ensures.plan p.most p.bound) c.if-lent-bytes.false _ _ c.put_blocks-end.ensures.bytes c.put_blocks-end.ensures.after

pub returns-clause-answer : goal.returns-clause-answer
returns-clause-answer c =
    let p = c.args.network.now.proper in
    (room_written _ _ _ p c.requires _ _ (c.plan_length-bytes.ensures.plan p.most p.bound) c.if-lent-bytes.false _ _ c.put_blocks-end.ensures.bytes c.put_blocks-end.ensures.after).0

pub returns-clause-bytes : goal.returns-clause-bytes
returns-clause-bytes c =
    let p = c.args.network.now.proper in
    (room_written _ _ _ p c.requires _ _ (c.plan_length-bytes.ensures.plan p.most p.bound) c.if-lent-bytes.false _ _ c.put_blocks-end.ensures.bytes c.put_blocks-end.ensures.after).1
