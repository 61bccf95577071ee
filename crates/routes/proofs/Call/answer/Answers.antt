-- `routes::Call::answer` meets its contract: the tests and the search of the definition, in its order. Assumes nothing.
use mathlib.Core.Path.{sym, ◌∙◌}
use Rattle.routes.proofs.Calling.{fits_receiver}
use Rattle.routes.proofs.Answering.{answer_routes, bytes_routes, answer_cut, answer_unfit}
use Rattle.routes.proofs.Call.answer.Goals as goal

pub search-requires : goal.search-requires
search-requires c = fits_receiver _ _ _ _ _ (sym c.fits.ensures ∙ c.if-fits.true)

pub returns-in-Ok-clause-answer : goal.returns-in-Ok-clause-answer
returns-in-Ok-clause-answer c =
    answer_routes _ _ _ _ _ _ _ _ c.fits.ensures c.if-fits.true _ _ c.search.ensures c.args.network.proper c.in-Ok.is _ c.write_routes.ensures.answer

pub returns-in-Ok-clause-bytes : goal.returns-in-Ok-clause-bytes
returns-in-Ok-clause-bytes c =
    bytes_routes _ _ _ _ _ _ c.args.lent.now _ c.fits.ensures c.if-fits.true _ _ c.search.ensures c.args.network.proper c.in-Ok.is c.write_routes.result _ c.write_routes.ensures.bytes

pub returns-in-Err-clause-answer : goal.returns-in-Err-clause-answer
returns-in-Err-clause-answer c = answer_cut _ _ _ _ _ _ _ _ c.fits.ensures c.if-fits.true _ _ c.search.ensures c.in-Err.is _ c.minus.ensures

pub returns-clause-answer : goal.returns-clause-answer
returns-clause-answer c = answer_unfit _ _ _ _ _ _ _ _ c.fits.ensures c.if-fits.false
