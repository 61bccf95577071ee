-- `words::card_words` meets its contract. The answer has every entry of the four words and of the rows in its place. Assumes nothing.
use borrow.Author.Rules.{rules}
use Rattle.words.proofs.Rows.{rows_laid}
use Rattle.words.proofs.card_words.Goals as goal

pub returns : goal.returns
returns c = rows_laid c.args.head c.rows-rows.result (search rules) (search rules) _ c.rows-rows.ensures
