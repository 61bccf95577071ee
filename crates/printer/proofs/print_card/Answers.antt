-- `printer::print_card` meets its contract: the card reader gives the refusal, or the network whose clean card is printed. Assumes nothing.
use Rattle.std.proofs.lemmas.Result.{err_from_is_err_and}
use Rattle.printer.proofs.CleanCard.{printed_refused, printed_network}
use Rattle.printer.proofs.print_card.Goals as goal

pub returns-in_err-network : goal.returns-in_err-network
returns-in_err-network c =
    let p = err_from_is_err_and c.from_residual.result c.from_residual.ensures.1 in
    rw (p.1, p.2) (printed_refused _ _ _ c.in_err-network.ensures)

pub returns : goal.returns
returns c = printed_network _ _ _ _ _ c.in_ok-network.ensures _ _ c.print_network.ensures
