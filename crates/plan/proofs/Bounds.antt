-- The place that a check reaches lies within the plan.
--     Within limit     the place is at most `limit`; a refusal has a place within it, and is not that of the length
--     ..-within        each check keeps the bound
--     block-..         the answer of the block check at a place, seen from the plan's start
-- Assumes nothing.
use mathlib.Core.Path.{◌≡◌, refl, sym, ap, ◌∙◌}
use mathlib.Core.Bool.{false, not, ◌&&◌, ◌||◌}
use mathlib.Core.List.{List, [], ◌∷◌, ◌++◌}
use Prim.Native.Nat.{ℕ, zero, suc, ◌+◌, ◌-◌, ◌≤◌, ◌<◌}
use native.Mathlib.Omega.{arith}
use lib.ListN.{length, get_or, take, drop, length-drop}
use lib.Dec.{eqb}
use borrow.Author.Tests.{eqb-true}
use Rattle.facts.proofs.Bools.{cases, by_cond}
use Rattle.sets.specs.Sets.{meet, minus, full, within, single}
use Rattle.sets.specs.Members.{members}
use Rattle.network.specs.Links.{Links}
use Rattle.plan.specs.Due.{DueBlock, Group, fan, to_one, pairs, routes_due}
use Rattle.route.specs.Route.{route_set}
use Rattle.route.specs.Commands.{width, is_cut}
use Rattle.plan.specs.Check.{Progress, reached, stopped, and_then, onward, is_due, is_report, check_group, check_groups, check_reports, check_block}
use Rattle.plan.proofs.Groups.{whole_command, part_rest}
use Rattle.plan.proofs.Joins.{groups_append}
use Rattle.plan.proofs.Walks.{Walk, fan_walk, pairs_walk, reports_walk}

abbrev pub Within : (limit : ℕ) → Progress → Type 0
Within limit (reached at carriages) = at ≤ limit
Within limit (stopped number place) = (1 < number) × (place ≤ limit)

module _ (limit : ℕ) where
  then_within : (x : Progress) (next : ℕ → ℕ → Progress) → Within limit x → ((a c : ℕ) → a ≤ limit → Within limit (next a c)) → Within limit (and_then x next)
  then_within (reached a c) next b h = h a c b
  then_within (stopped number place) next b h = b

  walk_within : {rest : List ℕ → ℕ → ℕ → Progress} {step : ℕ → ℕ → ℕ → Progress} → Walk rest step → ((x a c : ℕ) → a ≤ limit → Within limit (step x a c))
      → (xs : List ℕ) (at carriages : ℕ) → at ≤ limit → Within limit (rest xs at carriages)
  walk_within w h [] at carriages p = rw (w.ends at carriages) p
  walk_within {rest} {step} w h (x ∷ xs) at carriages p =
      rw (w.goes x xs at carriages) (then_within (step x at carriages) (rest xs) (h x at carriages p) (λ a c q. walk_within w h xs a c q))

module _ (s : List ℕ) where
  due_within : (at command : ℕ) (next : Progress) → at ≤ length s → (is_cut s at ≡ false → get_or s at 0 ≡ command → Within (length s) next) → Within (length s) (is_due s at command next)
  unfolding is_due
  due_within at command next h f =
      by_cond (Within (length s)) (is_cut s at) _ _ (λ e. (omega arith, h))
      (λ e. by_cond (Within (length s)) (eqb (get_or s at 0) command) _ _ (λ g. f e (eqb-true _ _ g)) (λ g. (omega arith, h)))

  module _ (W : ℕ) (links : Links) where
    group_within : (g : Group) → width g.command ≡ 9 → (k at carriages used : ℕ) → at ≤ length s → Within (length s) (check_group W links s g k at carriages used)
    unfolding check_group
    group_within g w zero at carriages used p = p
    group_within g w (suc k) at carriages used p =
        due_within at g.command _ p
        (λ e f. let z = whole_command s at 9 e (ap width f ∙ w) in
        by_cond (Within (length s)) (eqb (route_set W links g.sources g.receiver (drop (at + 1) s)) 0) _ _ (λ t. (omega arith, p))
        (λ t. by_cond (Within (length s)) (not (eqb (meet used (minus (route_set W links g.sources g.receiver (drop (at + 1) s)) (single g.receiver))) 0)) _ _ (λ u. (omega arith, p)) (λ u. group_within g w k (at + 9) (carriages + 1) _ (omega arith))))

    fan_within : (f command sources : ℕ) → width command ≡ 9 → (rs : List ℕ) (at carriages : ℕ) → at ≤ length s → Within (length s) (check_groups W links s (fan f command sources rs) at carriages)
    fan_within f command sources w = walk_within (length s) (fan_walk W links s f command sources) (λ r a c p. group_within _ w (f + 1) a c 0 p)

    to_one_within : (r : ℕ) (ss : List ℕ) (at carriages : ℕ) → at ≤ length s → Within (length s) (check_groups W links s (to_one r ss) at carriages)
    unfolding check_groups to_one width
    to_one_within r [] at carriages p = p
    to_one_within r (x ∷ ss) at carriages p =
        cases (eqb x r) (λ e. rw e (to_one_within r ss at carriages p))
        (λ e. rw e (then_within (length s) (check_group W links s (record { command = 0x12; sources = single x; receiver = r; count = 1 }) 1 at carriages 0) _ (group_within _ refl 1 at carriages 0 p) (λ a c q. to_one_within r ss a c q)))

    pairs_within : (ss rs : List ℕ) (at carriages : ℕ) → at ≤ length s → Within (length s) (check_groups W links s (pairs ss rs) at carriages)
    pairs_within ss = walk_within (length s) (pairs_walk W links s ss) (λ r a c p. to_one_within r ss a c p)

    append_within : (gs hs : List Group) → ((at carriages : ℕ) → at ≤ length s → Within (length s) (check_groups W links s gs at carriages)) → ((at carriages : ℕ) → at ≤ length s → Within (length s) (check_groups W links s hs at carriages))
        → (at carriages : ℕ) → at ≤ length s → Within (length s) (check_groups W links s (gs ++ hs) at carriages)
    append_within gs hs p q at carriages h =
        rw (groups_append W links s gs hs at carriages) (then_within (length s) (check_groups W links s gs at carriages) (λ (a c : ℕ). check_groups W links s hs a c) (p at carriages h) q)

    routes_within : (n f F A S at carriages : ℕ) → at ≤ length s → Within (length s) (check_groups W links s (routes_due n f F A S) at carriages)
    unfolding routes_due width
    routes_within n f F A S =
        append_within (fan f 0x11 A (members (minus S A)) ++ pairs (members S) (members S)) (fan f 0x13 S (members (minus (minus (full n) F) S)))
        (append_within (fan f 0x11 A (members (minus S A))) (pairs (members S) (members S)) (fan_within f 0x11 A refl (members (minus S A))) (pairs_within (members S) (members S)))
        (fan_within f 0x13 S refl (members (minus (minus (full n) F) S)))

  module _ (n f : ℕ) (links : Links) where
    reports_within : (F : ℕ) (ks : List ℕ) (at carriages : ℕ) → at ≤ length s → Within (length s) (check_reports n f links F s ks at carriages)
    unfolding check_reports width
    reports_within F =
        walk_within (length s) (reports_walk n f links F s)
        (λ k a c p. due_within a 0x14 _ p
        (λ e g. let z = whole_command s a 3 e (ap width g) in
        by_cond (Within (length s)) (eqb (get_or s (a + 1) 0) k && is_report n f links F k (get_or s (a + 2) 0)) _ _ (λ t. omega arith) (λ t. (omega arith, p))))

    pub block_within : (d : DueBlock) → Within (length s) (check_block n f links s d)
    unfolding check_block width
    block_within d =
        let F = get_or s 1 0 in
        let A = get_or s 2 0 in
        let S = get_or s 3 0 in
        due_within 0 0x10 _ (omega arith)
        (λ e g. let z = whole_command s 0 4 e (ap width g) in
        by_cond (Within (length s)) (eqb F d.faults && (eqb A d.part || eqb A (minus (minus (full n) d.faults) d.part))) _ _
        (λ t. by_cond (Within (length s)) (not (eqb S 0) && within S (minus (full n) d.faults)) _ _
        (λ u. then_within (length s) (check_groups (minus (full n) F) links s (routes_due n f F A S) 4 0) (λ (a c : ℕ). check_reports n f links F s (members F) a c) (routes_within (minus (full n) F) links n f F A S 4 0 (omega arith)) (λ a c p. reports_within F (members F) a c p))
        (λ u. (omega arith, omega arith)))
        (λ t. (omega arith, omega arith)))

-- the answer of the block check at a place, seen from the plan's start
module _ (n f : ℕ) (links : Links) (s : List ℕ) (d : DueBlock) {at : ℕ} (inside : at ≤ length s) {x : Progress} (e : x ≡ check_block n f links (take (length s - at) (drop at s)) d) where
  here : x ≡ check_block n f links (drop at s) d
  here = e ∙ ap (λ (t : List ℕ). check_block n f links t d) (part_rest s at)

  bound : Within (length (drop at s)) x
  bound = rw here (block_within (drop at s) n f links d)

  pub block_onward : (carriages : ℕ) → onward at carriages x ≡ onward at carriages (check_block n f links (drop at s) d)
  block_onward carriages = ap (onward at carriages) here

  pub block_reaches : {a c : ℕ} → reached a c ≡ x → at + a ≤ length s
  block_reaches r = let b = rw (sym r) at bound in let l = length-drop at s in omega arith

  pub block_stops : {number place : ℕ} → stopped number place ≡ x → (1 < number) × (at + place ≤ length s)
  block_stops r = let b = rw (sym r) at bound in let l = length-drop at s in (b.0, omega arith)
