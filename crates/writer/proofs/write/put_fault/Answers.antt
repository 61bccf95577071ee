use Rattle.std.proofs.Common.{refl, ap, ◌∙◌, ℕ}
use Rattle.sets.specs.Sets.{minus}
use Rattle.plan.proofs.Cuts.{full_few}
use Rattle.split.proofs.SourceRows.{sources_proper}
use Rattle.choice.proofs.Filled.{filling_starts, filling_turn, filling_ends}
use Rattle.writer.proofs.write.put_fault.Goals as goal

pub loop-set-init : goal.loop-set-init
loop-set-init c =
    let a = c.apart-set-items.ensures in
    rw c.into_iter-set-iterator.ensures.into_iter_gives (filling_starts _ _ _ _ c.args.network.now.proper.most _ _ _ _ a.0 (a.1 ∙ c.full-servers.ensures) a.2 refl refl)

pub loop-set-preserved : goal.loop-set-preserved
loop-set-preserved c =
    let s = c.in-Some.ensures.steps in
    let w = c.args.network.now in
    rw s.1 (filling_turn _ _ _ _ w.proper.most _ (sources_proper _ _ _ _ w.proper c.requires.back) _ _ _ _ c.loop-set.invariant _ _ _ s.0 s.2 s.3 s.4 _ (rw s.1 at c.holds_weak-held.ensures))

pub invariant_of-of : goal.invariant_of-of
invariant_of-of c =
    let (v, e, b) = full_few _ _ c.args.network.now.proper.most c.full-servers.ensures in
    record { rest = c.minus-sound.ensures ∙ ap (λ (x : ℕ). minus x c.args.fault) v; marks = filling_ends _ _ _ _ c.args.network.now.proper.most _ _ _ _ c.loop-set.invariant c.in-None.ensures.steps }
