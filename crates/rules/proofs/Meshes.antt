-- The command 12: a route for each receiver of a set and each other server of the set as its source.
--     among_count     how many routes there are
--     mesh_forward    what the check accepts is such routes
--     mesh_backward   such routes are accepted
-- Assumes nothing.
use mathlib.Core.Path.{◌≡◌, refl, sym, ap, ap₂, ◌∙◌, subst}
use mathlib.Core.Logic.{⊎_elim}
use mathlib.Core.List.Memᴰ
use mathlib.Core.List.{List, [], ◌∷◌, ◌++◌, map, Memᴰ, cons-ne-nil, head-eq_of_cons-eq, tail-eq_of_cons-eq}
use Prim.Native.Nat.{ℕ, suc, ◌+◌, ◌-◌, ◌*◌, ◌≤◌, ◌<◌}
use native.Mathlib.Nat.{suc-mul, zero-mul}
use native.Mathlib.Omega.{arith}
use lib.Dec.{eqb, ltb}
use lib.ListN.{length, length-append}
use borrow.Author.Tests.{lt-ltb, eq-eqb, ne_eqb, eqb-true, eqb-false}
use Rattle.facts.proofs.Bools.{cases, by_cond, and_right, both}
use Rattle.sets.specs.Sets.{In, has, single, minus, full}
use Rattle.sets.proofs.Members.{has_single, meet_nothing}
use Rattle.network.specs.Links.{Links}
use Rattle.sets.specs.Members.{members}
use Rattle.plan.specs.Due.{Group, to_one, pairs}
use Rattle.route.specs.Route.{path}
use Rattle.route.specs.Commands.{width}
use Rattle.plan.specs.Check.{Progress, reached, route_at, and_then, check_group, check_groups}
use Rattle.rules.specs.Blocks.{Route, source_of, operand, encode_routes, routes_at, among_due}
use Rattle.facts.specs.Lists.{Each}
use Rattle.rules.specs.Rules.{IsRoute, sources_for, pairs_of, ends_of, Mesh}
use Rattle.rules.proofs.Routes.{operand_long}
use Rattle.rules.proofs.Lists.{length_members, members_in}
use Rattle.rules.proofs.Spans.{Span, span_append, span_left, span_right}
use Rattle.rules.proofs.Progress.{reached_same, then_forward}
use Rattle.rules.proofs.Groups.{each_cons, each_append, encode_append, encode_long, OfGroup, group_first, group_none, group_backward}
use Rattle.rules.proofs.Fans.{Different, members_different, map_join}

-- the group of a receiver and a source
abbrev group_of : ℕ × ℕ → Group
group_of e = record { command = 0x12; sources = single e.1; receiver = e.0; count = 1 }

-- the groups that are due are those of the pairs

one_groups : (r : ℕ) (ss : List ℕ) → to_one r ss ≡ map group_of (sources_for r ss)
unfolding to_one sources_for
one_groups r [] = refl
one_groups r (s ∷ ss) =
    let ih = one_groups r ss in
    cases (eqb s r) (λ e. rw e ih) (λ e. rw e (ap (λ (l : List Group). group_of (r, s) ∷ l) ih))

pair_groups : (ss rs : List ℕ) → pairs ss rs ≡ map group_of (pairs_of ss rs)
unfolding pairs pairs_of
pair_groups ss [] = refl
pair_groups ss (r ∷ rs) =
    ap₂ (λ (k l : List Group). k ++ l) (one_groups r ss) (pair_groups ss rs) ∙ sym (map_join group_of (sources_for r ss) (pairs_of ss rs))

-- the sources are servers of the list

one_sources : (P : ℕ → Type 0) (r : ℕ) (ss : List ℕ) → Each P ss → Each (λ (e : ℕ × ℕ). P e.1) (sources_for r ss)
unfolding sources_for
one_sources P r [] h = λ e m. elim m [ ]
one_sources P r (s ∷ ss) h =
    let ih = one_sources P r ss (λ x m. h x (Memᴰ.tail m)) in
    by_cond (λ (l : List (ℕ × ℕ)). Each (λ (e : ℕ × ℕ). P e.1) l) (eqb s r) (sources_for r ss) ((r, s) ∷ sources_for r ss)
    (λ e. ih)
    (λ e. each_cons (λ (e : ℕ × ℕ). P e.1) (r, s) (sources_for r ss) (h s (Memᴰ.head refl)) ih)

pair_sources : (P : ℕ → Type 0) (ss rs : List ℕ) → Each P ss → Each (λ (e : ℕ × ℕ). P e.1) (pairs_of ss rs)
unfolding pairs_of
pair_sources P ss [] h = λ e m. elim m [ ]
pair_sources P ss (r ∷ rs) h =
    each_append (λ (e : ℕ × ℕ). P e.1) (sources_for r ss) (pairs_of ss rs) (one_sources P r ss h) (pair_sources P ss rs h)

-- how many pairs there are

-- a receiver that is not in the list
one_without : (r : ℕ) (ss : List ℕ) → Each (λ x. x ≡ r → ⊥) ss → length (sources_for r ss) ≡ length ss
unfolding sources_for
one_without r [] h = refl
one_without r (s ∷ ss) h =
    let ih = one_without r ss (λ x m. h x (Memᴰ.tail m)) in
    let e = ne_eqb s r (h s (Memᴰ.head refl)) in
    rw e (ap suc ih)

-- a receiver that is in the list
one_count : (r : ℕ) (ss : List ℕ) → Different ss → Memᴰ r ss → suc (length (sources_for r ss)) ≡ length ss
unfolding sources_for
one_count r [] d m = elim m [ ]
one_count r (s ∷ ss) d m =
    cases (eqb s r)
    (λ e. rw e (ap suc (one_without r ss (λ x o q. d.0 x o (q ∙ sym (eqb-true s r e))))))
    (λ e. rw e (⊎_elim (λ (q : r ≡ s). absurd (eqb-false s r e (sym q))) (λ (o : Memᴰ r ss). ap suc (one_count r ss d.1 o)) (Memᴰ.cases_cons m)))

pair_count : (ss rs : List ℕ) → Different ss → Each (λ r. Memᴰ r ss) rs → length (pairs_of ss rs) ≡ length rs * (length ss - 1)
unfolding pairs_of
pair_count ss [] d h = sym (zero-mul (length ss - 1))
pair_count ss (r ∷ rs) d h =
    let ih = pair_count ss rs d (λ x m. h x (Memᴰ.tail m)) in
    let e = one_count r ss d (h r (Memᴰ.head refl)) in
    let l = length-append (sources_for r ss) (pairs_of ss rs) in
    let k = suc-mul (length rs) (length ss - 1) in
    omega arith

pub among_count : (S : ℕ) → length (pairs_of (members S) (members S)) ≡ among_due S
unfolding among_due
among_count S =
    let l = length_members S in
    pair_count (members S) (members S) (members_different S) (λ r m. m) ∙ ap (λ (k : ℕ). k * (k - 1)) l

-- a set of one server has just this one

single_in : (x : ℕ) → x < 8 → In (has (single x)) x
single_in x h = has_single x x ∙ both (ltb x 8) (eqb x x) (lt-ltb x 8 h) (eq-eqb x x refl)

in_single : (x y : ℕ) → In (has (single x)) y → y ≡ x
in_single x y h = sym (eqb-true x y (and_right (ltb x 8) (eqb x y) (sym (has_single x y) ∙ h)))

module _ (n : ℕ) (links : Links) (F : ℕ) (few : n ≤ 8) (s : List ℕ) where
  -- a command 12 takes nine bytes
  wide : width 0x12 ≡ 9
  unfolding width
  wide = refl

  mesh_none : (at c a c' : ℕ) → check_groups (minus (full n) F) links s [] at c ≡ reached a c' → (at ≡ a) × (c ≡ c')
  unfolding check_groups
  mesh_none at c a c' e = reached_same at c a c' e

  -- the first route of what the check accepts
  mesh_first : (e : ℕ × ℕ) (es : List (ℕ × ℕ)) (at c a c' : ℕ) → check_groups (minus (full n) F) links s (map group_of (e ∷ es)) at c ≡ reached a c'
      → Span s at (0x12 ∷ operand (path (route_at s at))) × IsRoute n links F (path (route_at s at)) × (ends_of (path (route_at s at)) ≡ e)
      × (check_groups (minus (full n) F) links s (map group_of es) (at + 9) (c + 1) ≡ reached a c')
  unfolding check_groups
  mesh_first e es at c a c' h =
      let (a₀, c₀, p, q) = then_forward (check_group (minus (full n) F) links s (group_of e) 1 at c 0) (λ (b d : ℕ). check_groups (minus (full n) F) links s (map group_of es) b d) a c' h in
      let (b, o, t) = group_first n links F few s (group_of e) wide 0 at c 0 a₀ c₀ p in
      let z = group_none n links F few s (group_of e) wide (at + 9) (c + 1) _ a₀ c₀ t in
      (b, o.sound, ap₂ (λ (r x : ℕ). (r, x)) o.last (in_single e.1 (source_of (path (route_at s at))) o.start), rw (← z.0, ← z.1) at q)

  -- the check accepts only routes with these ends
  mesh_to : (es : List (ℕ × ℕ)) (at c a c' : ℕ) → check_groups (minus (full n) F) links s (map group_of es) at c ≡ reached a c'
      → (a ≡ at + 9 * length es) × (c' ≡ c + length es)
      × Span s at (encode_routes 0x12 (routes_at s at (length es)))
      × (map ends_of (routes_at s at (length es)) ≡ es) × Each (IsRoute n links F) (routes_at s at (length es))
  unfolding routes_at encode_routes
  mesh_to [] at c a c' h =
      let z = mesh_none at c a c' h in
      (omega arith, omega arith, (let w : at + 0 ≡ at = omega arith in rw w refl), refl, (λ p m. elim m [ ]))
  mesh_to (e ∷ es) at c a c' h =
      let p = path (route_at s at) in
      let (b, o, q, t) = mesh_first e es at c a c' h in
      let ih = mesh_to es (at + 9) (c + 1) a c' t in
      let l = operand_long n links F few p o in
      let place : at + 9 ≡ at + suc (length (operand p)) = omega arith in (
        omega (arith, ih.0),
        omega (arith, ih.1),
        span_append s at (0x12 ∷ operand p) (encode_routes 0x12 (routes_at s (at + 9) (length es))) b (rw (← place) ih.2),
        ap₂ (λ (x : ℕ × ℕ) (l : List (ℕ × ℕ)). x ∷ l) q ih.3,
        each_cons (IsRoute n links F) p (routes_at s (at + 9) (length es)) o ih.4,
      )

  -- the check goes on after a route with the first ends
  mesh_one : (e : ℕ × ℕ) (es : List (ℕ × ℕ)) (p : Route) (at c : ℕ) → e.1 < 8 → ends_of p ≡ e → IsRoute n links F p → Span s at (encode_routes 0x12 (p ∷ []))
      → check_groups (minus (full n) F) links s (map group_of (e ∷ es)) at c ≡ check_groups (minus (full n) F) links s (map group_of es) (at + 9) (c + 1)
  unfolding check_groups
  mesh_one e es p at c h q o b =
      let x : source_of p ≡ e.1 = ap (λ (y : ℕ × ℕ). y.1) q in
      let start : In (has (single e.1)) (source_of p) = rw x (single_in e.1 h) in
      let first : OfGroup n links F (single e.1) e.0 0 p = record { sound = o; start = start; last = ap (λ (y : ℕ × ℕ). y.0) q; unused = meet_nothing _ } in
      let t = group_backward n links F few s (group_of e) wide (p ∷ []) at c 0 (each_cons (OfGroup n links F (single e.1) e.0 0) p [] first (λ y m. elim m [ ])) (λ y m. elim m [ ], tt) b in
      ap (λ (y : Progress). and_then y (λ (a' c' : ℕ). check_groups (minus (full n) F) links s (map group_of es) a' c')) t

  mesh_zero : (at c : ℕ) → check_groups (minus (full n) F) links s [] at c ≡ reached (at + 0) (c + 0)
  unfolding check_groups
  mesh_zero at c = let e : at + 0 ≡ at = omega arith in let d : c + 0 ≡ c = omega arith in rw (e, d) refl

  -- the check accepts routes with these ends
  mesh_from : (es : List (ℕ × ℕ)) (ps : List Route) (at c : ℕ) → Each (λ (e : ℕ × ℕ). e.1 < 8) es → map ends_of ps ≡ es → Each (IsRoute n links F) ps
      → Span s at (encode_routes 0x12 ps) → check_groups (minus (full n) F) links s (map group_of es) at c ≡ reached (at + 9 * length ps) (c + length ps)
  mesh_from [] [] at c h q o b = mesh_zero at c
  mesh_from [] (p ∷ ps) at c h q o b = absurd (cons-ne-nil (ends_of p) (map ends_of ps) q)
  mesh_from (e ∷ es) [] at c h q o b = absurd (cons-ne-nil e es (sym q))
  mesh_from (e ∷ es) (p ∷ ps) at c h q o b =
      let d : Span s at (encode_routes 0x12 (p ∷ []) ++ encode_routes 0x12 ps) = subst (λ (t : List ℕ). Span s at t) (encode_append 0x12 (p ∷ []) ps) b in
      let r = o p (Memᴰ.head refl) in
      let w : length (encode_routes 0x12 (p ∷ [])) ≡ 9 = encode_long n links F few 0x12 (p ∷ []) (each_cons (IsRoute n links F) p [] r (λ y m. elim m [ ])) in
      let later = span_right s at (encode_routes 0x12 (p ∷ [])) (encode_routes 0x12 ps) d in
      let first = span_left s at (encode_routes 0x12 (p ∷ [])) (encode_routes 0x12 ps) d in
      let ih = mesh_from es ps (at + 9) (c + 1) (λ y m. h y (Memᴰ.tail m)) (tail-eq_of_cons-eq q) (λ y m. o y (Memᴰ.tail m)) (rw w at later) in
      let x : at + 9 + 9 * length ps ≡ at + 9 * suc (length ps) = omega arith in
      let y : c + 1 + length ps ≡ c + suc (length ps) = omega arith in
      mesh_one e es p at c (h e (Memᴰ.head refl)) (head-eq_of_cons-eq q) r first ∙ ih ∙ ap₂ reached x y

module _ (n f : ℕ) (links : Links) (F : ℕ) (few : n ≤ 8) (s : List ℕ) where
  pub mesh_forward : (S at c a c' : ℕ) → check_groups (minus (full n) F) links s (pairs (members S) (members S)) at c ≡ reached a c'
      → (a ≡ at + 9 * among_due S) × (c' ≡ c + among_due S)
      × Span s at (encode_routes 0x12 (routes_at s at (among_due S)))
      × Mesh n links F S (routes_at s at (among_due S))
  mesh_forward S at c a c' h =
      let t = mesh_to n links F few s (pairs_of (members S) (members S)) at c a c' (rw (pair_groups (members S) (members S)) at h) in
      let (p, q, b, e, o) = rw (among_count S) at t in
      (p, q, b, record { order = e; routes = o })

  pub mesh_backward : (S at c : ℕ) (ps : List Route) → Mesh n links F S ps → Span s at (encode_routes 0x12 ps)
      → check_groups (minus (full n) F) links s (pairs (members S) (members S)) at c ≡ reached (at + 9 * length ps) (c + length ps)
  mesh_backward S at c ps h b =
      let small : Each (λ (e : ℕ × ℕ). e.1 < 8) (pairs_of (members S) (members S)) = pair_sources (λ x. x < 8) (members S) (members S) (λ x m. (members_in S x m).1) in
      rw (pair_groups (members S) (members S)) (mesh_from n links F few s (pairs_of (members S) (members S)) ps at c small h.order h.routes b)
