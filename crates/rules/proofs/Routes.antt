-- A route's bytes and the rules on its servers, for every network of at most eight servers.
--     route_rules      the bytes of a route that keeps the rules; rules_route the other way
--     operand_path     the servers of a route's operand are the route's
--     operand_long     the operand of a route has eight bytes
--     sound_small      V−F is a set of eight
--     servers_small    the servers of a route are a set of eight
--     servers_has      each server of a route is in its set; servers_index the other way
--     separate_apart   separate routes to one receiver: their sets without the receiver do not meet; apart_separate the other way
-- Assumes nothing.
use mathlib.Core.Path.{◌≡◌, refl, sym, ap, ◌∙◌}
use mathlib.Core.Bool.{Bool, true, false, not, ◌&&◌}
use mathlib.Core.List.{List, [], ◌∷◌, ◌++◌}
use Prim.Native.Nat.{ℕ, zero, suc, ◌-◌, ◌^◌, ◌≤◌, ◌<◌}
use native.Mathlib.Omega.{arith}
use lib.Pow.{pow-lt, pow_mono}
use lib.Dec.{eqb, ltb}
use lib.ListN.{length, get_or, replicate, length-append, length-replicate}
use borrow.Author.Tests.{lt-ltb, eq-eqb, ne_eqb, ltb-true, eqb-true, eqb-false}
use Rattle.facts.proofs.Bools.{cases, clash, is_false, and_left, and_right, both, not_true}
use Rattle.sets.specs.Sets.{In, has, single, meet, minus, full}
use Rattle.sets.proofs.Members.{has_union, has_minus, has_single, has_empty, has_below, has_full, full_small, union_small, minus_small, meet_apart, apart_meet}
use Rattle.network.specs.Links.{Links, linked_in}
use Rattle.route.specs.Route.{path, is_fill, filled, servers_of, goes_on, is_path, is_route}
use Rattle.rules.specs.Blocks.{Route, source_of, receiver_of, operand}
use Rattle.rules.specs.Rules.{IsRoute, Separate}

-- server b alone has just b

single_self : (b : ℕ) → b < 8 → has (single b) b ≡ true
single_self b h = has_single b b ∙ both (ltb b 8) (eqb b b) (lt-ltb b 8 h) (eq-eqb b b refl)

single_only : (b x : ℕ) → has (single b) x ≡ true → b ≡ x
single_only b x e = eqb-true b x (and_right (ltb b 8) (eqb b x) (sym (has_single b x) ∙ e))

single_other : (b x : ℕ) → (b ≡ x → ⊥) → has (single b) x ≡ false
single_other b x o = is_false (has (single b) x) (λ e. o (single_only b x e))

single_small : (b : ℕ) → single b < 256
unfolding single
single_small b = cases (ltb b 8) (λ e. rw e (below b (ltb-true b 8 e))) (λ e. rw e (omega arith))
  where
    below : (b : ℕ) → b < 8 → 2 ^ b < 256
    below b h = let p : 2 ^ b < 2 ^ 8 = pow-lt h in p

-- the fill

fill_is : (bs : List ℕ) → is_fill bs ≡ true → replicate (length bs) 255 ≡ bs
unfolding is_fill
fill_is [] e = refl
fill_is (b ∷ bs) e =
    let p = eqb-true b 255 (and_left (eqb b 255) (is_fill bs) e) in
    let ih = fill_is bs (and_right (eqb b 255) (is_fill bs) e) in
    cc

all_fill : (k : ℕ) → is_fill (replicate k 255) ≡ true
unfolding is_fill
all_fill zero = refl
all_fill (suc k) = all_fill k

path_fill : (k : ℕ) → path (replicate k 255) ≡ []
unfolding path
path_fill zero = refl
path_fill (suc k) = refl

filled_fill : (k : ℕ) → filled (replicate k 255) ≡ true
unfolding filled
filled_fill zero = refl
filled_fill (suc k) = all_fill k

-- the servers before the fill, and the fill up to the operand's end
path_filled : (bs : List ℕ) → filled bs ≡ true → path bs ++ replicate (length bs - length (path bs)) 255 ≡ bs
unfolding path filled
path_filled [] e = refl
path_filled (b ∷ bs) e =
    let y : suc (length bs) - 0 ≡ suc (length bs) = omega arith in
    let z : suc (length bs) - suc (length (path bs)) ≡ length bs - length (path bs) = omega arith in
    cases (eqb b 255) (λ t. let f = fill_is bs (cc) in let p = eqb-true b 255 t in rw (t, y) cc)
    (λ t. let ih = path_filled bs (cc) in rw (t, z) cc)

path_short : (bs : List ℕ) → length (path bs) ≤ length bs
unfolding path
path_short [] = omega arith
path_short (b ∷ bs) = let ih = path_short bs in cases (eqb b 255) (λ t. rw t (omega arith)) (λ t. rw t (omega arith))

-- no server is a fill byte
path_append : (p : List ℕ) (k : ℕ) → ((i : ℕ) → i < length p → get_or p i 0 < 255) → path (p ++ replicate k 255) ≡ p
unfolding path
path_append [] k h = path_fill k
path_append (b ∷ bs) k h =
    let s = h 0 (omega arith) in
    let t = ne_eqb b 255 (λ e. omega arith) in
    let ih = path_append bs k (λ i l. h (suc i) (omega arith)) in
    cc

filled_append : (p : List ℕ) (k : ℕ) → ((i : ℕ) → i < length p → get_or p i 0 < 255) → filled (p ++ replicate k 255) ≡ true
unfolding filled
filled_append [] k h = filled_fill k
filled_append (b ∷ bs) k h =
    let s = h 0 (omega arith) in
    let t = ne_eqb b 255 (λ e. omega arith) in
    let ih = filled_append bs k (λ i l. h (suc i) (omega arith)) in
    cc

module _ (links : Links) where
  -- the rules on the servers of a path that stays in `free`
  record Steps (free : ℕ) (p : Route) : Type 0 where
    inside : (i : ℕ) → i < length p → In (has free) (get_or p i 0)
    once : (i j : ℕ) → i < j → j < length p → get_or p i 0 ≡ get_or p j 0 → ⊥
    linked : (i : ℕ) → suc i < length p → linked_in links (get_or p i 0) (get_or p (suc i) 0) ≡ true

  -- what is in a set without b is in the set and is not b
  apart : (free b x : ℕ) → has (minus free (single b)) x ≡ true → (has free x ≡ true) × (has (single b) x ≡ false)
  apart free b x e = let m = sym (has_minus free (single b) x) ∙ e in (and_left _ _ m, not_true (has (single b) x) (and_right (has free x) _ m))

  no_steps : (free : ℕ) → Steps free []
  no_steps free = record { inside = λ i h. absurd (omega arith); once = λ i j h k e. omega arith; linked = λ i h. absurd (omega arith) }

  -- a server before the path
  module _ (free b : ℕ) (bs : List ℕ) (small : free < 256) where
    module _ (h : has free b ≡ true) (link : 0 < length bs → linked_in links b (get_or bs 0 0) ≡ true) (s : Steps (minus free (single b)) bs) where
      more_inside : (i : ℕ) → i < length (b ∷ bs) → In (has free) (get_or (b ∷ bs) i 0)
      more_inside zero l = h
      more_inside (suc i) l = (apart free b (get_or bs i 0) (s.inside i (omega arith))).0

      more_once : (i j : ℕ) → i < j → j < length (b ∷ bs) → get_or (b ∷ bs) i 0 ≡ get_or (b ∷ bs) j 0 → ⊥
      more_once i zero l k e = omega arith
      more_once zero (suc j) l k e =
          let x = (apart free b (get_or bs j 0) (s.inside j (omega arith))).1 in
          clash (has (single b) (get_or bs j 0)) (ap (has (single b)) (sym e) ∙ single_self b (has_below 8 free b small h)) x
      more_once (suc i) (suc j) l k e = s.once i j (omega arith) (omega arith) e

      more_linked : (i : ℕ) → suc i < length (b ∷ bs) → linked_in links (get_or (b ∷ bs) i 0) (get_or (b ∷ bs) (suc i) 0) ≡ true
      more_linked zero l = link (omega arith)
      more_linked (suc i) l = s.linked i (omega arith)

      more_steps : Steps free (b ∷ bs)
      more_steps = record { inside = more_inside; once = more_once; linked = more_linked }

    module _ (s : Steps free (b ∷ bs)) where
      less_inside : (i : ℕ) → i < length bs → In (has (minus free (single b))) (get_or bs i 0)
      less_inside i h =
          let m = has_minus free (single b) (get_or bs i 0) in
          let c : has free (get_or bs i 0) ≡ true = s.inside (suc i) (omega arith) in
          let d = single_other b (get_or bs i 0) (s.once 0 (suc i) (omega arith) (omega arith)) in
          cc

      less_steps : Steps (minus free (single b)) bs
      less_steps = record {
        inside = less_inside;
        once = λ i j h k e. s.once (suc i) (suc j) (omega arith) (omega arith) e;
        linked = λ i h. s.linked (suc i) (omega arith);
      }

  -- the walk from a server on keeps the rules and ends at the receiver
  abbrev Walk : (free from r : ℕ) → List ℕ → Type 0
  Walk free from r bs = Steps free bs × (0 < length bs → linked_in links from (get_or bs 0 0) ≡ true) × (get_or (from ∷ bs) (length bs) 0 ≡ r)

  walk_of : (free from r : ℕ) (bs : List ℕ) → free < 256 → goes_on links free from r bs ≡ true → Walk free from r bs
  unfolding goes_on
  walk_of free from r [] small e = (no_steps free, λ h. absurd (omega arith), eqb-true from r e)
  walk_of free from r (b ∷ bs) small e =
      let on = goes_on links (minus free (single b)) b r bs in
      let e1 = and_right (has free b) _ e in
      let (s, link, ends) = walk_of (minus free (single b)) b r bs (minus_small 8 free (single b) small) (and_right (linked_in links from b) on e1) in
      (more_steps free b bs small (and_left _ _ e) link s, λ h. and_left _ _ e1, ends)

  of_walk : (free from r : ℕ) (bs : List ℕ) → free < 256 → Walk free from r bs → goes_on links free from r bs ≡ true
  unfolding goes_on
  of_walk free from r [] small (s, link, ends) = eq-eqb from r ends
  of_walk free from r (b ∷ bs) small (s, link, ends) =
      let ih = of_walk (minus free (single b)) b r bs (minus_small 8 free (single b) small) (less_steps free b bs small s, λ h. s.linked 0 (omega arith), ends) in
      let a : has free b ≡ true = s.inside 0 (omega arith) in
      let d : linked_in links from b ≡ true = link (omega arith) in
      cc

-- the servers of a path of two servers or more, as a walk from the source
module _ (W : ℕ) (links : Links) (small : W < 256) (sources r : ℕ) where
  path_steps : (p : Route) → is_path W links sources r p ≡ true → (2 ≤ length p) × Steps links W p × In (has sources) (source_of p) × (receiver_of p ≡ r)
  unfolding is_path
  path_steps [] e = clash false e refl
  path_steps (b ∷ []) e = clash false e refl
  path_steps (b ∷ c ∷ bs) e =
      let e1 = and_right (has W b) _ e in
      let (s, link, ends) = walk_of links (minus W (single b)) b r (c ∷ bs) (minus_small 8 W (single b) small) (and_right (has sources b) _ e1) in
      let z : length (b ∷ c ∷ bs) - 1 ≡ length (c ∷ bs) = omega arith in
      (omega arith, more_steps links W b (c ∷ bs) small (and_left _ _ e) link s, and_left _ _ e1, rw z ends)

  steps_path : (p : Route) → 2 ≤ length p → Steps links W p → In (has sources) (source_of p) → receiver_of p ≡ r → is_path W links sources r p ≡ true
  unfolding is_path
  steps_path [] two s start ends = absurd (omega arith)
  steps_path (b ∷ []) two s start ends = absurd (omega arith)
  steps_path (b ∷ c ∷ bs) two s start ends =
      let z : length (b ∷ c ∷ bs) - 1 ≡ length (c ∷ bs) = omega arith in
      let last : get_or (b ∷ c ∷ bs) (length (c ∷ bs)) 0 ≡ r = rw z at ends in
      let on = of_walk links (minus W (single b)) b r (c ∷ bs) (minus_small 8 W (single b) small) (less_steps links W b (c ∷ bs) small s, λ h. s.linked 0 (omega arith), last) in
      let a : has W b ≡ true = s.inside 0 (omega arith) in
      cc

-- the set of servers, on lists of servers below 8

set_small : (p : Route) → servers_of p < 256
unfolding servers_of
set_small [] = omega arith
set_small (b ∷ bs) = union_small 8 (single b) (servers_of bs) (single_small b) (set_small bs)

set_has : (p : Route) → ((i : ℕ) → i < length p → get_or p i 0 < 8) → (i : ℕ) → i < length p → has (servers_of p) (get_or p i 0) ≡ true
unfolding servers_of
set_has [] low i h = absurd (omega arith)
set_has (b ∷ bs) low zero h = let u = has_union (single b) (servers_of bs) b in let s = single_self b (low 0 h) in cc
set_has (b ∷ bs) low (suc i) h =
    let u = has_union (single b) (servers_of bs) (get_or bs i 0) in
    let ih = set_has bs (λ j k. low (suc j) (omega arith)) i (omega arith) in
    cases (has (single b) (get_or bs i 0)) (λ t. cc) (λ t. cc)

set_index : (p : Route) (x : ℕ) → has (servers_of p) x ≡ true → (i : ℕ) × (i < length p) × (get_or p i 0 ≡ x)
unfolding servers_of
set_index [] x e = clash (has 0 x) e (has_empty x)
set_index (b ∷ bs) x e =
    let u = has_union (single b) (servers_of bs) x in
    cases (has (single b) x) (λ t. (0, omega arith, single_only b x t)) λ t.
    let (i, h, g) = set_index bs x (cc) in
    (suc i, omega arith, g)

module _ (n : ℕ) (links : Links) (F : ℕ) (few : n ≤ 8) where
  -- V−F
  abbrev W : ℕ
  W = minus (full n) F

  pub sound_small : W < 256
  sound_small = minus_small 8 (full n) F (let p : 2 ^ n ≤ 2 ^ 8 = pow_mono few in let l = full_small n in omega arith)

  in_sound : (x : ℕ) → has W x ≡ (ltb x n && not (has F x))
  in_sound x = has_minus (full n) F x ∙ ap (λ (b : Bool). b && not (has F x)) (has_full n x)

  steps_of : (p : Route) → IsRoute n links F p → Steps links W p
  steps_of p g = record {
    inside = λ i h. let a = lt-ltb _ n (g.servers i h) in let b : has F (get_or p i 0) ≡ false = g.clear i h in in_sound (get_or p i 0) ∙ simp (a, b);
    once = g.once;
    linked = g.linked;
  }

  -- the bytes of a route that keeps the rules
  pub route_rules : (sources r : ℕ) (bytes : List ℕ) → length bytes ≡ 8 → is_route (minus (full n) F) links sources r bytes ≡ true
      → IsRoute n links F (path bytes) × In (has sources) (source_of (path bytes)) × (receiver_of (path bytes) ≡ r) × (operand (path bytes) ≡ bytes)
  unfolding is_route operand
  route_rules sources r bytes long e =
      let (two, s, start, ends) = path_steps W links sound_small sources r (path bytes) (and_right (filled bytes) _ e) in
      let f = path_filled bytes (and_left (filled bytes) _ e) in
      let short = path_short bytes in
      let m : (i : ℕ) → i < length (path bytes) → (ltb (get_or (path bytes) i 0) n && not (has F (get_or (path bytes) i 0))) ≡ true = λ i h. sym (in_sound (get_or (path bytes) i 0)) ∙ s.inside i h in
      (record { two = two; eight = omega arith; servers = λ i h. ltb-true _ n (and_left _ _ (m i h)); clear = λ i h. not_true _ (and_right (ltb (get_or (path bytes) i 0) n) _ (m i h)); once = s.once; linked = s.linked }, start, ends, rw long at f)

  -- no server is a fill byte
  below_fill : (p : Route) → IsRoute n links F p → (i : ℕ) → i < length p → get_or p i 0 < 255
  below_fill p g i h = let s = g.servers i h in omega arith

  below_eight : (p : Route) → IsRoute n links F p → (i : ℕ) → i < length p → get_or p i 0 < 8
  below_eight p g i h = let s = g.servers i h in omega arith

  pub operand_path : (p : Route) → IsRoute n links F p → path (operand p) ≡ p
  unfolding operand
  operand_path p g = path_append p (8 - length p) (below_fill p g)

  operand_filled : (p : Route) → IsRoute n links F p → filled (operand p) ≡ true
  unfolding operand
  operand_filled p g = filled_append p (8 - length p) (below_fill p g)

  pub operand_long : (p : Route) → IsRoute n links F p → length (operand p) ≡ 8
  unfolding operand
  operand_long p g =
      let a = length-append p (replicate (8 - length p) 255) in
      let b = length-replicate {A = ℕ} (8 - length p) 255 in
      let c = g.eight in
      omega arith

  -- the operand of a route that keeps the rules passes the check
  pub rules_route : (sources r : ℕ) (p : Route) → IsRoute n links F p → In (has sources) (source_of p) → receiver_of p ≡ r
      → is_route (minus (full n) F) links sources r (operand p) ≡ true
  unfolding is_route
  rules_route sources r p g start ends =
      both (filled (operand p)) (is_path W links sources r (path (operand p))) (operand_filled p g)
      (rw (operand_path p g) (steps_path W links sound_small sources r p g.two (steps_of p g) start ends))

  -- the servers of a route, as a set

  pub servers_small : (p : Route) → IsRoute n links F p → servers_of p < 256
  servers_small p g = set_small p

  pub servers_has : (p : Route) → IsRoute n links F p → (i : ℕ) → i < length p → has (servers_of p) (get_or p i 0) ≡ true
  servers_has p g = set_has p (below_eight p g)

  pub servers_index : (p : Route) → IsRoute n links F p → (x : ℕ) → has (servers_of p) x ≡ true → (i : ℕ) × (i < length p) × (get_or p i 0 ≡ x)
  servers_index p g = set_index p

  -- two routes to r are separate exactly if their servers other than r do not meet

  -- a server of a route other than r
  abbrev Other : Route → ℕ → ℕ → Type 0
  Other p r x = (i : ℕ) × (i < length p) × (get_or p i 0 ≡ x) × (r ≡ x → ⊥)

  other_of : (p : Route) (r x : ℕ) → r < 8 → has (minus (servers_of p) (single r)) x ≡ true → Other p r x
  other_of p r x low e =
      let m = sym (has_minus (servers_of p) (single r) x) ∙ e in
      let (i, h, q) = set_index p x (and_left _ _ m) in
      let o = not_true (has (single r) x) (and_right (has (servers_of p) x) _ m) in
      (i, h, q, λ t. clash (has (single r) x) (ap (has (single r)) (sym t) ∙ single_self r low) o)

  of_other : (p : Route) (r i : ℕ) → IsRoute n links F p → i < length p → (r ≡ get_or p i 0 → ⊥) → has (minus (servers_of p) (single r)) (get_or p i 0) ≡ true
  of_other p r i g h o =
      let m = has_minus (servers_of p) (single r) (get_or p i 0) in
      let a = servers_has p g i h in
      let b = single_other r (get_or p i 0) o in
      cc

  pub separate_apart : (p q : Route) (r : ℕ) → IsRoute n links F p → IsRoute n links F q → receiver_of p ≡ r → receiver_of q ≡ r → Separate p q
      → meet (minus (servers_of p) (single r)) (minus (servers_of q) (single r)) ≡ 0
  separate_apart p q r g k e d s =
      let two = g.two in
      let last = below_eight p g (length p - 1) (omega arith) in
      let low : r < 8 = omega arith in
      apart_meet 8 (minus (servers_of p) (single r)) (minus (servers_of q) (single r)) (minus_small 8 (servers_of p) (single r) (set_small p)) λ x l.
      is_false _ λ t.
      let (i, h, a, o) = other_of p r x low (and_left _ _ t) in
      let (j, m, b, o') = other_of q r x low (and_right (has (minus (servers_of p) (single r)) x) _ t) in
      o (sym e ∙ sym (s i j h m (a ∙ sym b)) ∙ a)

  pub apart_separate : (p q : Route) (r : ℕ) → IsRoute n links F p → IsRoute n links F q → receiver_of p ≡ r → receiver_of q ≡ r
      → meet (minus (servers_of p) (single r)) (minus (servers_of q) (single r)) ≡ 0 → Separate p q
  apart_separate p q r g k e d z i j h m t =
      cases (eqb r (get_or p i 0)) (λ y. sym (eqb-true r (get_or p i 0) y) ∙ sym e) λ y.
      let o = eqb-false r (get_or p i 0) y in
      let a = of_other p r i g h o in
      let b = of_other q r j k m (λ w. o (w ∙ sym t)) in
      let c = meet_apart _ _ z (get_or p i 0) in
      clash (has (minus (servers_of q) (single r)) (get_or q j 0)) b cc
