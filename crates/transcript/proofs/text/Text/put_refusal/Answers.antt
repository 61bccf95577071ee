-- `Text::put_refusal` meets its contract, by what is at fault (`Lines`). Assumes nothing.
use mathlib.Core.Path.{◌≡◌, ap, ◌∙◌}
use Rattle.refusal.specs.Refused.{refusal_of, number_of, place_of}
use Rattle.transcript.specs.Text.{refused_word, card_word, plan_word, call_word, newline}
use Rattle.transcript.proofs.Lines.{called_put, of_card, of_plan, of_call}
use Rattle.transcript.proofs.text.Text.put_refusal.Goals as goal

pub returns-in-Card-clause-put : goal.returns-in-Card-clause-put
unfolding card_word
returns-in-Card-clause-put c =
    let n = c.number-number.ensures ∙ ap (λ r. number_of (refusal_of r)) c.in-Card.is in
    let p = c.place-place.ensures ∙ ap (λ r. place_of (refusal_of r)) c.in-Card.is in
    rw (c.in-Card.is, ← of_card c.in-Card.field-0) (rw (n, p) at c.put_placed.ensures.put)

pub returns-in-Plan-clause-put : goal.returns-in-Plan-clause-put
unfolding plan_word
returns-in-Plan-clause-put c =
    let n = c.number-number.ensures ∙ ap (λ r. number_of (refusal_of r)) c.in-Plan.is in
    let p = c.place-place.ensures ∙ ap (λ r. place_of (refusal_of r)) c.in-Plan.is in
    rw (c.in-Plan.is, ← of_plan c.in-Plan.field-0) (rw (n, p) at c.put_placed-in-Plan.ensures.put)

pub returns-in-Call-clause-put : goal.returns-in-Call-clause-put
unfolding refused_word call_word newline
returns-in-Call-clause-put c =
    let n = c.from.ensures ∙ c.number-number.ensures ∙ ap (λ r. number_of (refusal_of r)) c.in-Call.is in
    rw (c.in-Call.is, ← of_call c.in-Call.field-0) (called_put _ c.put.ensures.put (rw n at c.put_number.ensures.put) c.put-in-Call.ensures.put)
