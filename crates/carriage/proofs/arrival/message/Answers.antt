-- `carriage::arrival::message` meets its contract. Assumes nothing.
use Rattle.carriage.proofs.Messages.{message_bit, message_other, message_none}
use Rattle.carriage.proofs.arrival.message.Goals as goal

pub returns-then-bytes-number : goal.returns-then-bytes-number
returns-then-bytes-number c = message_none c.args.bytes.now c.args.number c.if-bytes-number.true

pub returns-then-byte-lt2 : goal.returns-then-byte-lt2
returns-then-byte-lt2 c = message_bit _ _ c.if-byte-lt2.true

pub returns : goal.returns
returns c = message_other _ _ c.if-byte-lt2.false
