-- `own::state::next` meets its contract: each way out is one lemma of `Standing`. Assumes nothing.
use mathlib.Core.Path.{◌∙◌}
use native.Mathlib.Omega.{arith}
use Rattle.own.proofs.Standing.{next_kind_lem, next_block_lem, next_end, moved_next}
use Rattle.own.proofs.state.next.Goals as goal
use Rattle.own.proofs.state.next.Goals.{else-state-end, then-state-end+else-after-end}

-- the next kind
pub returns-then-state-lt20 : goal.returns-then-state-lt20
returns-then-state-lt20 c = let e = c.at.ensures ∙ next_kind_lem _ _ _ c.if-state-lt20.true in record { any = e; inside = λ h. e ∙ moved_next _ _ _ h }

-- the next block
pub returns-then-after-end : goal.returns-then-after-end
returns-then-after-end c = let e = c.at-then-after-end.ensures ∙ next_block_lem _ _ _ c.if-state-lt20.false c.if-after-end.true in record { any = e; inside = λ h. e ∙ moved_next _ _ _ h }

-- the end, from the last block or from none of the plan
pub returns : goal.returns
returns c = let e = c.at-2.ensures ∙ next_end _ _ _ c.if-state-lt20.false (elim c.if-state-end.branch [ then-state-end+else-after-end w ↦ omega arith | else-state-end w ↦ omega arith ]) in record { any = e; inside = λ h. e ∙ moved_next _ _ _ h }
