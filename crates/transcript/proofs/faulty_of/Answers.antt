-- `transcript::faulty_of` meets its contract. Assumes nothing.
use mathlib.Core.Path.{ap, ◌∙◌}
use Rattle.std.specs.Option.{unwrap_or}
use Rattle.std.proofs.lemmas.Option.{unwrap_or-slice_get}
use Rattle.transcript.specs.Text.{faulty_of}
use Rattle.transcript.proofs.faulty_of.Goals as goal

pub returns : goal.returns
unfolding faulty_of
returns c = c.unwrap_or.ensures ∙ ap (λ o. unwrap_or o 0) (c.copied.ensures ∙ c.first.ensures.value) ∙ unwrap_or-slice_get c.args.run_in.now 0 0
