use mathlib.Core.Path.{◌≡◌, refl, ap, ◌∙◌}
use Prim.Native.Nat.{ℕ, min, ◌^◌}
use native.Mathlib.Omega.{arith}
use Rattle.std.proofs.lemmas.Result.{err_from_is_err_and}
use Rattle.sets.specs.Sets.{minus, full}
use Rattle.sets.specs.Members.{list_from}
use Rattle.network.specs.Links.{Links}
use Rattle.network.specs.Proper.{Proper}
use Rattle.network.specs.Rows.{links_of}
use Rattle.plan.specs.Due.{is_part, blocks_of, due}
use Rattle.plan.specs.Ahead.{parts}
use Rattle.plan.specs.Check.{check_blocks}
use Rattle.plan.proofs.Walks.{blocks_walk, walk_ends, walk_stops, walk_goes}
use Rattle.plan.proofs.Cuts.{full_few, parts_due}
use Rattle.plan.proofs.check.check_blocks.Goals as goal
use Rattle.plan.proofs.check.check_blocks.Goals.{After-rows-rows}

-- V−F, as the code has it
sound : {n f : ℕ} {links : Links} {servers : ℕ} (fault : ℕ) {set : ℕ} → Proper n f links → servers ≡ full (min n 8) → set ≡ minus servers fault → set ≡ minus (full n) fault
sound {n} {f} {links} {servers} fault p e q = q ∙ ap (λ (x : ℕ). minus x fault) (full_few n servers p.most e).0

-- the check of one F, in the words of the definition
one : (c : goal.After-rows-rows) (fault : ℕ) {sound : ℕ} → sound ≡ minus (full c.args.network.n) fault → (at carriages : ℕ) → let w = c.args.network in let s = c.args.plan.now in
    check_blocks w.n w.f (links_of c.rows-rows.result) s (blocks_of fault (parts sound)) at carriages
    ≡ check_blocks w.n w.f w.links s (blocks_of fault (list_from (2 ^ w.n) 0 (is_part (minus (full w.n) fault)))) at carriages
one c fault {sound} e at carriages =
    let w = c.args.network in
    rw (c.rows-rows.ensures, parts_due w.n fault sound e) refl

pub loop-fault-init : goal.loop-fault-init
unfolding due
loop-fault-init c =
    let p = c.args.network.proper in
    let e : min c.args.network.n 8 ≡ c.args.network.n = let m = p.most in omega arith in
    record { inside = omega arith; few = omega arith; gives = rw (c.into_iter-fault-iterator.ensures.into_iter_gives, c.faults-fault-items.ensures, e) refl }

pub loop-fault-preserved : goal.loop-fault-preserved
loop-fault-preserved c =
    let i = c.loop-fault.invariant in
    let r = c.in_ok-reached.reached in
    record { inside = c.in_ok-reached.ensures.inside; few = r.few; gives = walk_goes (blocks_walk _ _ _ _) i.gives c.in-Some.ensures.steps (c.in_ok-reached.ensures.gives ∙ one (goal.at.loop-fault-preserved c).After-rows-rows _ (sound _ c.args.network.proper c.full-servers.ensures c.minus.ensures) _ _) }

pub returns-in_err-reached : goal.returns-in_err-reached
returns-in_err-reached c =
    let i = c.loop-fault.invariant in
    let p = err_from_is_err_and c.from_residual.result c.from_residual.ensures.1 in
    rw (p.1, p.2) (walk_stops (blocks_walk _ _ _ _) i.gives c.in-Some.ensures.steps (c.in_err-reached.ensures.gives ∙ one (goal.at.returns-in_err-reached c).After-rows-rows _ (sound _ c.args.network.proper c.full-servers.ensures c.minus.ensures) _ _))

pub returns : goal.returns
returns c = walk_ends (blocks_walk _ _ _ _) c.loop-fault.invariant.gives c.in-None.ensures.steps.0
