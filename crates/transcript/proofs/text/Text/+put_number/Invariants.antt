-- `Text::put_number` meets its contract. The measure is n: the call of itself puts the digits of the tenth. That the last digit then makes
-- the number is `number_less` and `number_more`. Assumes nothing.
use Rattle.transcript.proofs.text.Text.+put_number.Given as goal

abbrev pub decreases-put_number : goal.decreases-put_number
decreases-put_number l = l.n
