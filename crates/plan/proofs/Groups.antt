-- The separate routes to one receiver, one after the other.
--     whole_command   a command that is not cut off has its operands
--     part_rest       a part of a plan up to its end
--     wide            the commands of routes are of one width
--     due-..          whether a route's command is the one due, with all of its operand
--     route-..        what the tests of one route give
--     group-..        the loop over the routes: what is left of the group from here gives the answer of the whole
-- Assumes nothing.
use mathlib.Core.Path.{◌≡◌, refl, sym, ap, ◌∙◌}
use mathlib.Core.Bool.{Bool, true, false, cond, not, ◌&&◌, and-false}
use mathlib.Core.List.{List}
use Prim.Native.Nat.{ℕ, suc, ◌+◌, ◌-◌, ◌≤◌, ◌<◌}
use native.Mathlib.Omega.{arith}
use lib.ListN.{length, get_or, take, drop, length-drop}
use lib.Seq.{take_all}
use lib.Dec.{eqb, ltb}
use borrow.Author.Tests.{lt-ltb, le-ltb, eq-eqb, ne_eqb, eqb-true, ltb-true, ltb-false}
use Rattle.facts.proofs.Bools.{cases, clash, and_left, and_right, not_true}
use Rattle.sets.specs.Sets.{union, meet, minus, single}
use Rattle.sets.proofs.Members.{meet_nothing}
use Rattle.network.specs.Links.{Links}
use Rattle.plan.specs.Due.{Group}
use Rattle.route.specs.Route.{route_set}
use Rattle.route.specs.Commands.{width, is_cut}
use Rattle.plan.specs.declared.check.Kind.{Kind}
use Rattle.plan.specs.Answers.{command_of}
use Rattle.plan.specs.Check.{Progress, reached, stopped, is_due, one_route, check_group}

pub whole_command : (s : List ℕ) (at w : ℕ) → is_cut s at ≡ false → width (get_or s at 0) ≡ w → (at < length s) × (w ≤ length s - at)
unfolding is_cut
whole_command s at w e q =
    cases (ltb at (length s))
    (λ h. cases (eqb (width (get_or s at 0)) 0)
    (λ z. absurd (clash true refl (sym (simp (h, z)) ∙ e)))
    (λ z. cases (ltb (length s - at) (width (get_or s at 0)))
    (λ t. absurd (clash true refl (sym (simp (h, z, t)) ∙ e)))
    (λ t. (ltb-true at (length s) h, rw q at (ltb-false (length s - at) (width (get_or s at 0)) t)))))
    (λ h. absurd (clash true refl (sym (simp h) ∙ e)))

pub part_rest : (s : List ℕ) (m : ℕ) → take (length s - m) (drop m s) ≡ drop m s
part_rest s m = take_all (length s - m) (drop m s) (simp length-drop (omega arith))

pub wide : (k : Kind) → width (command_of k) ≡ 9
unfolding width
wide Kind.Inward = refl
wide Kind.Among = refl
wide Kind.Outward = refl

-- whether a route's command is the one due, with all of its operand
module _ (s : List ℕ) (at command : ℕ) (wide : width command ≡ 9) where
  due_width : eqb (get_or s at 0) command ≡ true → width (get_or s at 0) ≡ 9
  due_width q = ap width (eqb-true _ _ q) ∙ wide

  pub due_short : length s - at < 9 → false ≡ (not (is_cut s at) && eqb (get_or s at 0) command)
  unfolding is_cut
  due_short h =
      cases (eqb (get_or s at 0) command)
      (λ q. cases (ltb at (length s)) (λ i. sym (simp (i, due_width q, lt-ltb (length s - at) 9 h))) (λ i. sym (simp i)))
      (λ q. sym (simp (q, and-false (not (is_cut s at)))))

  pub due_past : length s ≤ at → false ≡ (not (is_cut s at) && eqb (get_or s at 0) command)
  unfolding is_cut
  due_past h = sym (simp (le-ltb at (length s) h))

  pub due_whole : at < length s → 9 ≤ length s - at → eqb (get_or s at 0) command ≡ (not (is_cut s at) && eqb (get_or s at 0) command)
  unfolding is_cut
  due_whole i h =
      cases (eqb (get_or s at 0) command)
      (λ q. sym (simp (lt-ltb at (length s) i, due_width q, le-ltb (length s - at) 9 h)))
      (λ q. simp (q, and-false (not (is_cut s at))))

-- one route by itself, and what follows with its servers
module _ (W : ℕ) (links : Links) (s : List ℕ) (g : Group) (at : ℕ) {b : Bool} (p : b ≡ (not (is_cut s at) && eqb (get_or s at 0) g.command)) where
  -- cut off, or another command
  pub route_other : b ≡ false → {number place : ℕ} → (number ≡ cond (is_cut s at) 2 7) × (place ≡ at) → (on : ℕ → Progress) → stopped number place ≡ one_route W links s g at on
  unfolding is_due
  route_other f {number} {place} (x, y) on =
      rw (x, y)
      (cases (is_cut s at)
      (λ c. simp c)
      (λ c. let o : eqb (get_or s at 0) g.command ≡ false = sym (simp c) ∙ sym p ∙ f in simp (c, o)))

  module _ (e : b ≡ true) where
    here : (is_cut s at ≡ false) × (eqb (get_or s at 0) g.command ≡ true)
    here = let both = sym p ∙ e in (not_true (is_cut s at) (and_left _ _ both), and_right (not (is_cut s at)) _ both)

    pub route_long : width g.command ≡ 9 → at + 9 ≤ length s
    route_long w = let z = whole_command s at 9 here.0 (ap width (eqb-true _ _ here.1) ∙ w) in omega arith

    module _ {set : ℕ} (q : set ≡ route_set W links g.sources g.receiver (take (length s - (at + 1)) (drop (at + 1) s))) (on : ℕ → Progress) where
      checked : route_set W links g.sources g.receiver (drop (at + 1) s) ≡ set
      checked = sym (q ∙ ap (route_set W links g.sources g.receiver) (part_rest s (at + 1)))

      tested : cond (eqb set 0) (stopped 9 at) (on set) ≡ one_route W links s g at on
      unfolding is_due
      tested = let h = here in sym (simp (h.0, h.1, checked))

      pub route_wrong : set ≡ 0 → stopped 9 at ≡ one_route W links s g at on
      route_wrong z = sym (simp (eq-eqb set 0 z)) ∙ tested

      pub route_sound : (set ≡ 0 → ⊥) → on set ≡ one_route W links s g at on
      route_sound o = sym (simp (ne_eqb set 0 o)) ∙ tested

-- a turn of the loop: k routes follow the one that is due
module _ (W : ℕ) (links : Links) (s : List ℕ) (g : Group) (k at carriages used : ℕ) {whole : Progress} (t : check_group W links s g (suc k) at carriages used ≡ whole) where
  -- on from the servers of the route
  onward_of : ℕ → Progress
  onward_of set =
      let others = minus set (single g.receiver) in
      cond (not (eqb (meet used others) 0)) (stopped 10 at) (check_group W links s g k (at + 9) (carriages + 1) (union used others))

  first : one_route W links s g at onward_of ≡ whole
  unfolding check_group onward_of
  first = t

  pub group_stops : {number place : ℕ} → ((on : ℕ → Progress) → stopped number place ≡ one_route W links s g at on) → stopped number place ≡ whole
  group_stops h = h onward_of ∙ first

  module _ {set : ℕ} (h : (on : ℕ → Progress) → on set ≡ one_route W links s g at on) {others shared : ℕ} (o : others ≡ minus set (single g.receiver)) (i : shared ≡ meet used others) where
    ahead : cond (not (eqb shared 0)) (stopped 10 at) (check_group W links s g k (at + 9) (carriages + 1) (union used others)) ≡ whole
    unfolding onward_of
    ahead = rw (i, o) (h onward_of ∙ first)

    pub group_shares : (shared ≡ 0 → ⊥) → stopped 10 at ≡ whole
    group_shares n = sym (simp (ne_eqb shared 0 n)) ∙ ahead

    pub group_goes : shared ≡ 0 → {used' : ℕ} → used' ≡ union used others → check_group W links s g k (at + 9) (carriages + 1) used' ≡ whole
    group_goes z v = rw v (sym (simp (eq-eqb shared 0 z)) ∙ ahead)

pub group_done : (W : ℕ) (links : Links) (s : List ℕ) (g : Group) (k at carriages used : ℕ) → k ≡ 0 → reached at carriages ≡ check_group W links s g k at carriages used
unfolding check_group
group_done W links s g k at carriages used z = sym (rw z refl)

-- a route that stands alone shares nothing
pub route_alone : (W : ℕ) (links : Links) (s : List ℕ) (g : Group) (at carriages : ℕ) {set : ℕ} → ((on : ℕ → Progress) → on set ≡ one_route W links s g at on)
    → reached (at + 9) (carriages + 1) ≡ check_group W links s g 1 at carriages 0
route_alone W links s g at carriages {set} h = group_done _ _ _ _ 0 _ _ _ refl ∙ group_goes W links s g 0 at carriages 0 refl h refl refl (meet_nothing (minus set (single g.receiver))) refl
