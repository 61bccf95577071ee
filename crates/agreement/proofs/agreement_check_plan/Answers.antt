-- `agreement::agreement_check_plan` meets its contract. The words are those of the answer that the plan check ensures, with what an accepted plan
-- says of the card. Assumes nothing.
use mathlib.Core.Path.{ap, ◌∙◌}
use borrow.Author.Rules.{rules}
use Rattle.words.specs.Words.{plan_words}
use Rattle.agreement.proofs.Rows.{plan_words_lem}
use Rattle.agreement.proofs.agreement_check_plan.Goals as goal

pub returns : goal.returns
returns c = plan_words_lem _ _ _ (c.totals_words-words.ensures ∙ ap plan_words c.check_plan-checked.ensures)
