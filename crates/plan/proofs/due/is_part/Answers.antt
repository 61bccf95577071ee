use mathlib.Core.Path.{sym, ap, ◌∙◌}
use Rattle.facts.proofs.Bools.{clash}
use Rattle.plan.specs.Due.{is_part}
use Rattle.sets.specs.Sets.{has}
use Rattle.plan.proofs.due.is_part.Goals as goal
use Rattle.plan.proofs.due.is_part.Goals.{then-within, else-within}

pub returns-then-member : goal.returns-then-member
unfolding is_part
returns-then-member c = elim c.if-within.branch [
  | then-within w ↦
      let low = ap (has c.args.part) w.lowest.ensures in
      sym (simp (sym c.within.ensures ∙ w.if-within.true, sym low ∙ sym w.member.ensures ∙ sym w.value-is ∙ c.if-member.true))
  | else-within w ↦ clash _ (sym w.value-is ∙ c.if-member.true) w.if-within.false
]

pub returns-else-member : goal.returns-else-member
unfolding is_part
returns-else-member c = c.if-member.false ∙ elim c.if-within.branch [
  | then-within w ↦
      let low = ap (has c.args.part) w.lowest.ensures in
      sym (simp (sym c.within.ensures ∙ w.if-within.true, sym low ∙ sym w.member.ensures ∙ sym w.value-is ∙ c.if-member.false))
  | else-within w ↦ sym (simp (sym c.within.ensures ∙ w.if-within.false))
]
