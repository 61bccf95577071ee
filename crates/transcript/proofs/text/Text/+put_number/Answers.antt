use mathlib.Core.Path.{refl}
use Rattle.transcript.proofs.Laying.{number_less, number_more}
use Rattle.transcript.proofs.text.Text.+put_number.Goals as goal
use Rattle.transcript.proofs.text.Text.+put_number.Goals.{else-n-gt9, then-n-gt9}

-- the last digit is put behind the digits of the tenth, and so the number is put
pub returns-clause-put : goal.returns-clause-put
returns-clause-put t c =
    elim c.if-n-gt9.branch [
      | then-n-gt9 w ↦ number_more (rw w.self-is at c.put_byte.ensures.put) w.if-n-gt9.true c.ranges.n.fits w.put_number.ensures.put refl refl
      | else-n-gt9 w ↦ number_less (rw w.self-is at c.put_byte.ensures.put) w.if-n-gt9.false refl refl
    ]
