-- The commands 11 and 13: separate routes to each receiver of a set, from a set of sources.
--     members_different   the members of a set are pairwise different
--     map_join            the images of two lists joined
--     fan_forward         what the check accepts is such routes
--     fan_backward        such routes are accepted
-- Assumes nothing.
use mathlib.Core.Path.{◌≡◌, refl, sym, ap, ap₂, ◌∙◌, subst}
use mathlib.Core.Logic.{⊎_elim}
use mathlib.Core.List.Memᴰ
use mathlib.Core.List.{List, [], ◌∷◌, ◌++◌, map, Memᴰ}
use Prim.Native.Nat.{ℕ, zero, suc, ◌+◌, ◌*◌, ◌≤◌}
use native.Mathlib.Nat.{suc-mul, zero-mul}
use native.Mathlib.Omega.{arith}
use lib.ListN.{length, replicate, length-map, length-append, length-replicate}
use Rattle.facts.proofs.Bools.{by_cond}
use Rattle.sets.specs.Sets.{Set, In, has, size, minus, full}
use Rattle.sets.proofs.Members.{meet_nothing}
use Rattle.network.specs.Links.{Links}
use Rattle.sets.specs.Members.{list_from, members}
use Rattle.plan.specs.Due.{Group, fan}
use Rattle.route.specs.Commands.{width}
use Rattle.plan.specs.Check.{Progress, reached, and_then, check_group, check_groups}
use Rattle.rules.specs.Blocks.{Route, source_of, receiver_of, encode_routes, routes_at}
use Rattle.facts.specs.Lists.{Each}
use Rattle.rules.specs.Rules.{IsRoute, AllSeparate, repeated, Fan}
use Rattle.rules.proofs.Lists.{listed_in, length_members}
use Rattle.rules.proofs.Spans.{Span, span_append, span_left, span_right}
use Rattle.rules.proofs.Progress.{reached_same, then_forward}
use Rattle.rules.proofs.Groups.{cut_map, each_append, separate_append, separate_left, separate_right, routes_length, routes_append, encode_append, encode_long, OfGroup, group_forward, group_backward}

-- no number stands twice
abbrev pub Different : List ℕ → Type 0
Different [] = Unit
Different (r ∷ rs) = Each (λ x. x ≡ r → ⊥) rs × Different rs

pub listed_different : (k lo : ℕ) (p : Set) → Different (list_from k lo p)
unfolding list_from
listed_different zero lo p = tt
listed_different (suc k) lo p =
    let ih = listed_different k (suc lo) p in
    by_cond Different (p lo) (lo ∷ list_from k (suc lo) p) (list_from k (suc lo) p)
    (λ e. (λ x m q. let h = listed_in k (suc lo) p x m in omega arith, ih))
    (λ e. ih)

pub members_different : (s : ℕ) → Different (members s)
unfolding members
members_different s = listed_different 8 0 (has s)

-- what stands in a list of repeated numbers is one of them

pub in_replicate : (k r x : ℕ) → Memᴰ x (replicate k r) → x ≡ r
in_replicate zero r x m = elim m [ ]
in_replicate (suc k) r x m = ⊎_elim (λ (e : x ≡ r). e) (in_replicate k r x) (Memᴰ.cases_cons m)

pub in_repeated : (k : ℕ) (rs : List ℕ) (x : ℕ) → Memᴰ x (repeated k rs) → Memᴰ x rs
unfolding repeated
in_repeated k [] x m = m
in_repeated k (r ∷ rs) x m =
    ⊎_elim
    (λ (h : Memᴰ x (replicate k r)). Memᴰ.head (in_replicate k r x h))
    (λ (h : Memᴰ x (repeated k rs)). Memᴰ.tail (in_repeated k rs x h))
    (Memᴰ.append_cases (replicate k r) m)

pub map_join : {A B : Type 0} (f : A → B) (xs ys : List A) → map f (xs ++ ys) ≡ map f xs ++ map f ys
map_join f [] ys = refl
map_join {A} {B} f (x ∷ xs) ys = ap (λ (l : List B). f x ∷ l) (map_join f xs ys)

-- a list whose images are all r
pub map_same : {A : Type 0} (f : A → ℕ) (xs : List A) (r : ℕ) → Each (λ x. f x ≡ r) xs → map f xs ≡ replicate (length xs) r
map_same f [] r h = refl
map_same f (x ∷ xs) r h =
    ap (λ (y : ℕ). y ∷ map f xs) (h x (Memᴰ.head refl))
    ∙ ap (λ (l : List ℕ). r ∷ l) (map_same f xs r (λ y m. h y (Memᴰ.tail m)))

-- the routes of a fan to the receivers of a list
record FanTo (n f : ℕ) (links : Links) (F sources : ℕ) (rs : List ℕ) (ps : List Route) : Type 0 where
  order : map receiver_of ps ≡ repeated (f + 1) rs
  start : Each (λ p. In (has sources) (source_of p)) ps
  routes : Each (IsRoute n links F) ps
  separate : AllSeparate ps

module _ (n f : ℕ) (links : Links) (F : ℕ) (few : n ≤ 8) (s : List ℕ) where
  module _ (command sources : ℕ) (wide : width command ≡ 9) where
    -- the group of a receiver
    abbrev groupTo : ℕ → Group
    groupTo r = record { command = command; sources = sources; receiver = r; count = f + 1 }

    -- separate routes to one receiver
    abbrev Separated : ℕ → List Route → Type 0
    Separated r us = Each (OfGroup n links F sources r 0) us × AllSeparate us

    fan_nobody : FanTo n f links F sources [] []
    unfolding repeated
    fan_nobody = record { order = refl; start = λ p m. elim m [ ]; routes = λ p m. elim m [ ]; separate = tt }

    -- the routes to one receiver, and then those to the others
    fan_join : (r : ℕ) (rs : List ℕ) (us vs : List Route) → Different (r ∷ rs) → length us ≡ f + 1 → Separated r us → FanTo n f links F sources rs vs
        → FanTo n f links F sources (r ∷ rs) (us ++ vs)
    unfolding repeated
    fan_join r rs us vs d l h t =
        record {
          order = map_join receiver_of us vs ∙ ap (λ (l : List ℕ). l ++ map receiver_of vs) (map_same receiver_of us r (λ p m. (h.0 p m).last) ∙ ap (λ (k : ℕ). replicate k r) l) ∙ ap (λ (l : List ℕ). replicate (f + 1) r ++ l) t.order;
          start = each_append (λ p. In (has sources) (source_of p)) us vs (λ p m. (h.0 p m).start) t.start;
          routes = each_append (IsRoute n links F) us vs (λ p m. (h.0 p m).sound) t.routes;
          separate = separate_append us vs h.1 t.separate (λ p m q o e. d.0 (receiver_of q) (in_repeated (f + 1) rs (receiver_of q) (subst (λ (l : List ℕ). Memᴰ (receiver_of q) l) t.order (Memᴰ.map receiver_of o))) (e ∙ (h.0 p m).last));
        }

    -- the routes to the first receiver, and those to the others
    fan_parts : (r : ℕ) (rs : List ℕ) (us vs : List Route) → map receiver_of us ≡ replicate (f + 1) r → map receiver_of vs ≡ repeated (f + 1) rs
        → FanTo n f links F sources (r ∷ rs) (us ++ vs)
        → (length us ≡ f + 1) × Separated r us × FanTo n f links F sources rs vs
    fan_parts r rs us vs u v h = (
      sym (length-map us receiver_of) ∙ ap length u ∙ length-replicate (f + 1) r,
      (λ p m. let w = Memᴰ.append_left vs m in record { sound = h.routes p w; start = h.start p w; last = in_replicate (f + 1) r (receiver_of p) (subst (λ (l : List ℕ). Memᴰ (receiver_of p) l) u (Memᴰ.map receiver_of m)); unused = meet_nothing _ }, separate_left us vs h.separate),
      record {
        order = v;
        start = λ p m. h.start p (Memᴰ.append_right us m);
        routes = λ p m. h.routes p (Memᴰ.append_right us m);
        separate = separate_right us vs h.separate;
      },
    )

    -- a fan is cut behind the routes to the first receiver
    fan_cut : (r : ℕ) (rs : List ℕ) (ps : List Route) → FanTo n f links F sources (r ∷ rs) ps
        → (us vs : List Route) × (ps ≡ us ++ vs) × (length us ≡ f + 1) × Separated r us × FanTo n f links F sources rs vs
    unfolding repeated
    fan_cut r rs ps h =
        let (us, vs, e, u, v) = cut_map receiver_of (replicate (f + 1) r) (repeated (f + 1) rs) ps h.order in
        let t = fan_parts r rs us vs u v (rw e at h) in
        (us, vs, e, t.0, t.1, t.2)

    fan_none : (at c a c' : ℕ) → check_groups (minus (full n) F) links s (fan f command sources []) at c ≡ reached a c' → (at ≡ a) × (c ≡ c')
    unfolding fan check_groups
    fan_none at c a c' e = reached_same at c a c' e

    -- the routes to the first receiver in what the check accepts
    fan_first : (r : ℕ) (rs : List ℕ) (at c a c' : ℕ) → check_groups (minus (full n) F) links s (fan f command sources (r ∷ rs)) at c ≡ reached a c'
        → Span s at (encode_routes command (routes_at s at (f + 1))) × Separated r (routes_at s at (f + 1))
        × (check_groups (minus (full n) F) links s (fan f command sources rs) (at + 9 * (f + 1)) (c + (f + 1)) ≡ reached a c')
    unfolding fan check_groups
    fan_first r rs at c a c' e =
        let (a₀, c₀, p, q) = then_forward (check_group (minus (full n) F) links s (groupTo r) (f + 1) at c 0) (λ (b d : ℕ). check_groups (minus (full n) F) links s (fan f command sources rs) b d) a c' e in
        let h = group_forward n links F few s (groupTo r) wide (f + 1) at c 0 a₀ c₀ p in
        (h.2, (h.3, h.4), rw (h.0, h.1) at q)

    -- the check accepts only a fan
    fan_to : (rs : List ℕ) → Different rs → (at c a c' : ℕ) → check_groups (minus (full n) F) links s (fan f command sources rs) at c ≡ reached a c'
        → (a ≡ at + 9 * (length rs * (f + 1))) × (c' ≡ c + length rs * (f + 1))
        × Span s at (encode_routes command (routes_at s at (length rs * (f + 1))))
        × FanTo n f links F sources rs (routes_at s at (length rs * (f + 1)))
    unfolding routes_at encode_routes
    fan_to [] d at c a c' e =
        let z = fan_none at c a c' e in
        let k : 0 * (f + 1) ≡ 0 = zero-mul (f + 1) in
        rw k (omega arith, omega arith, (let w : at + 0 ≡ at = omega arith in rw w refl), fan_nobody)
    fan_to (r ∷ rs) d at c a c' e =
        let (b, o, t) = fan_first r rs at c a c' e in
        let ih = fan_to rs d.1 (at + 9 * (f + 1)) (c + (f + 1)) a c' t in
        let k : suc (length rs) * (f + 1) ≡ f + 1 + length rs * (f + 1) = omega (arith, suc-mul (length rs) (f + 1)) in
        let us = routes_at s at (f + 1) in
        let vs = routes_at s (at + 9 * (f + 1)) (length rs * (f + 1)) in
        let l = routes_length s at (f + 1) in
        let w : length (encode_routes command us) ≡ 9 * (f + 1) = encode_long n links F few command us (λ p m. (o.0 p m).sound) ∙ ap (λ (x : ℕ). 9 * x) l in
        rw (k, routes_append s at (f + 1) (length rs * (f + 1)), encode_append command us vs) (
          omega (arith, ih.0),
          omega (arith, ih.1),
          span_append s at (encode_routes command us) (encode_routes command vs) b (rw w ih.2),
          fan_join r rs us vs d l o ih.3,
        )

    -- the check goes on after the routes to the first receiver
    fan_one : (r : ℕ) (rs : List ℕ) (us : List Route) (at c : ℕ) → length us ≡ f + 1 → Separated r us → Span s at (encode_routes command us)
        → check_groups (minus (full n) F) links s (fan f command sources (r ∷ rs)) at c ≡ check_groups (minus (full n) F) links s (fan f command sources rs) (at + 9 * (f + 1)) (c + (f + 1))
    unfolding fan check_groups
    fan_one r rs us at c l o b =
        let e = group_backward n links F few s (groupTo r) wide us at c 0 o.0 o.1 b in
        ap (λ (p : Progress). and_then p (λ (a' c' : ℕ). check_groups (minus (full n) F) links s (fan f command sources rs) a' c')) (rw l at e)

    fan_zero : (at c k : ℕ) → k ≡ 0 → check_groups (minus (full n) F) links s (fan f command sources []) at c ≡ reached (at + 9 * k) (c + k)
    unfolding fan check_groups
    fan_zero at c k z = let e : at + 9 * k ≡ at = omega arith in let d : c + k ≡ c = omega arith in rw (e, d) refl

    no_routes : (ps : List Route) → FanTo n f links F sources [] ps → length ps ≡ 0
    unfolding repeated
    no_routes ps h = sym (length-map ps receiver_of) ∙ ap length h.order

    -- the check accepts a fan
    fan_from : (rs : List ℕ) (ps : List Route) (at c : ℕ) → FanTo n f links F sources rs ps → Span s at (encode_routes command ps)
        → check_groups (minus (full n) F) links s (fan f command sources rs) at c ≡ reached (at + 9 * length ps) (c + length ps)
    fan_from [] ps at c h b = fan_zero at c (length ps) (no_routes ps h)
    fan_from (r ∷ rs) ps at c h b =
        let (us, vs, e, l, o, t) = fan_cut r rs ps h in
        let d : Span s at (encode_routes command us ++ encode_routes command vs) = rw (← encode_append command us vs) (subst (λ (x : List Route). Span s at (encode_routes command x)) e b) in
        let w : length (encode_routes command us) ≡ 9 * (f + 1) = encode_long n links F few command us (λ p m. (o.0 p m).sound) ∙ ap (λ (x : ℕ). 9 * x) l in
        let later = span_right s at (encode_routes command us) (encode_routes command vs) d in
        let ih = fan_from rs vs (at + 9 * (f + 1)) (c + (f + 1)) t (rw w at later) in
        let k : length ps ≡ f + 1 + length vs = ap length e ∙ length-append us vs ∙ ap (λ (x : ℕ). x + length vs) l in
        let x : at + 9 * (f + 1) + 9 * length vs ≡ at + 9 * length ps = omega arith in
        let y : c + (f + 1) + length vs ≡ c + length ps = omega arith in
        fan_one r rs us at c l o (span_left s at (encode_routes command us) (encode_routes command vs) d) ∙ ih ∙ ap₂ reached x y

  pub fan_forward : (command sources receivers at c a c' : ℕ) → width command ≡ 9
      → check_groups (minus (full n) F) links s (fan f command sources (members receivers)) at c ≡ reached a c'
      → (a ≡ at + 9 * (size receivers * (f + 1))) × (c' ≡ c + size receivers * (f + 1))
      × Span s at (encode_routes command (routes_at s at (size receivers * (f + 1))))
      × Fan n f links F sources receivers (routes_at s at (size receivers * (f + 1)))
  fan_forward command sources receivers at c a c' wide e =
      let h = fan_to command sources wide (members receivers) (members_different receivers) at c a c' e in
      let (p, q, b, t) = rw (length_members receivers) at h in
      (p, q, b, record { order = t.order; start = t.start; routes = t.routes; separate = t.separate })

  pub fan_backward : (command sources receivers at c : ℕ) (ps : List Route) → width command ≡ 9
      → Fan n f links F sources receivers ps → Span s at (encode_routes command ps)
      → check_groups (minus (full n) F) links s (fan f command sources (members receivers)) at c ≡ reached (at + 9 * length ps) (c + length ps)
  fan_backward command sources receivers at c ps wide h b =
      fan_from command sources wide (members receivers) ps at c (record { order = h.order; start = h.start; routes = h.routes; separate = h.separate }) b
