-- `agreement::agreement_separate_routes` meets its contract. The words are those of the answer that the call ensures, and the lent bytes are its
-- own. Assumes nothing.
use borrow.Author.Rules.{rules}
use Rattle.agreement.proofs.Rows.{route_words_lem}
use Rattle.agreement.proofs.agreement_separate_routes.Goals as goal

pub returns : goal.returns
returns c = route_words_lem _ _ _ _ _ _ _ c.separate_routes-routed.ensures _ c.routed_words-words.ensures
