-- `Place::put_report` meets its contract: three bytes, one after the other. Assumes nothing.
use Rattle.blocks.proofs.Texts.{report_put}
use Rattle.blocks.proofs.bytes.Place.put_report.Goals as goal

pub returns : goal.returns
returns c = search report_put
