-- Each test turns one part of the definition. Assumes nothing.
use mathlib.Core.Path.{sym, ap, ◌∙◌}
use Prim.Native.Nat.{ℕ, ◌+◌}
use lib.Dec.{eqb}
use Rattle.facts.proofs.Bools.{clash}
use Rattle.sets.specs.Sets.{within}
use Rattle.plan.specs.Check.{is_report}
use Rattle.plan.proofs.check.is_report.Goals as goal
use Rattle.plan.proofs.check.is_report.Goals.{then-within, else-within}

pub returns-then-size-site : goal.returns-then-size-site
unfolding is_report
returns-then-size-site c =
    let s = c.args.site.now in
    let inside = c.within.ensures ∙ ap (within c.args.reporters) s.rest in
    elim c.if-within.branch [
      | then-within w ↦
          let many = ap (λ (x : ℕ). eqb x (s.f + 1)) (sym w.size.ensures) ∙ sym w.value-is ∙ c.if-size-site.true in
          c.all_linked.ensures ∙ sym (simp (sym inside ∙ w.if-within.true, many))
      | else-within w ↦ clash _ (sym w.value-is ∙ c.if-size-site.true) w.if-within.false
    ]

pub returns-else-size-site : goal.returns-else-size-site
unfolding is_report
returns-else-size-site c =
    let s = c.args.site.now in
    let inside = c.within.ensures ∙ ap (within c.args.reporters) s.rest in
    c.if-size-site.false ∙ elim c.if-within.branch [
      | then-within w ↦
          let many = ap (λ (x : ℕ). eqb x (s.f + 1)) (sym w.size.ensures) ∙ sym w.value-is ∙ c.if-size-site.false in
          sym (simp (sym inside ∙ w.if-within.true, many))
      | else-within w ↦ sym (simp (sym inside ∙ w.if-within.false))
    ]
