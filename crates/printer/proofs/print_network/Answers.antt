-- `printer::print_network` meets its contract: what is laid into the buffer is the clean card (`CleanCard`). Assumes nothing.
use mathlib.Core.Path.{refl}
use native.Mathlib.Omega.{arith}
use Rattle.printer.proofs.CleanCard.{clean_refused, clean_fits, clean_written}
use Rattle.printer.proofs.print_network.Goals as goal

pub returns-then-room-bytes : goal.returns-then-room-bytes
returns-then-room-bytes c = (clean_refused _ _ _ _ _ c.card_length-bytes.ensures c.if-room-bytes.true, refl)

pub returns : goal.returns
returns c =
    let long = c.card_length-bytes.ensures in
    (clean_fits _ _ _ _ _ long (omega arith), clean_written _ _ _ _ _ long (omega arith) _ c.write_links.ensures)
