-- `agreement::agreement_quick_test` meets its contract. The words are those of the answer that the quick test ensures. Assumes nothing.
use mathlib.Core.Path.{ap, ◌∙◌}
use borrow.Author.Rules.{rules}
use Rattle.words.specs.Words.{quick_words}
use Rattle.agreement.proofs.Rows.{quick_words_lem}
use Rattle.agreement.proofs.agreement_quick_test.Goals as goal

pub returns : goal.returns
returns c = quick_words_lem _ _ (c.quick_words-words.ensures ∙ ap quick_words c.quick_test-tested.ensures)
