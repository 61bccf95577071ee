-- The separate routes to one receiver, as the check goes through them and as the rules say it.
--     cut_map           a list cut where its images are cut
--     separate_append   separate routes of two lists with no receiver in common; separate_left and separate_right the other way
--     routes_length     how many routes are decoded; routes_append in two parts
--     encode_long       how many bytes routes take; encode_append in two parts
--     route_span        the bytes at such a place; span_command, span_whole and span_route the other way
--     group_forward     what the check of a group accepts is separate routes to the receiver
--     group_backward    separate routes to the receiver are accepted
-- Assumes nothing.
use mathlib.Core.Path.{◌≡◌, refl, sym, ap, ◌∙◌, subst}
use mathlib.Core.Logic.{⊎_elim}
use mathlib.Core.Bool.{true, false}
use mathlib.Core.List.Memᴰ
use mathlib.Core.List.{List, [], ◌∷◌, ◌++◌, map, append_assoc, cons-ne-nil, head-eq_of_cons-eq, tail-eq_of_cons-eq}
use Prim.Native.Nat.{ℕ, zero, suc, ◌+◌, ◌-◌, ◌*◌, ◌≤◌, ◌<◌}
use native.Mathlib.Omega.{arith}
use lib.ListN.{length, get_or, take, drop, length-append, length-drop, take-append-drop}
use lib.Seq.{drop-drop, drop-cons, get_or-drop, length-take-le, take_at}
use lib.Dec.{eqb}
use borrow.Author.Tests.{lt-ltb, le-ltb, eq-eqb, ne_eqb, eqb-true, eqb-false}
use Rattle.facts.proofs.Bools.{cases}
use Rattle.sets.specs.Sets.{In, has, union, meet, minus, single, full}
use Rattle.sets.proofs.Members.{meet_comm, minus_small, apart_union, apart_left, apart_right}
use Rattle.network.specs.Links.{Links}
use Rattle.plan.specs.Due.{Group}
use Rattle.route.specs.Route.{path, servers_of, is_route, route_set}
use Rattle.route.proofs.Walks.{route_set_lem, set_some, set_route, set_is}
use Rattle.route.specs.Commands.{width, is_cut}
use Rattle.plan.specs.Check.{reached, is_due, route_at, check_group}
use Rattle.plan.proofs.Groups.{whole_command}
use Rattle.rules.specs.Blocks.{Route, source_of, receiver_of, operand, encode_routes, routes_at}
use Rattle.facts.specs.Lists.{Each}
use Rattle.rules.specs.Rules.{IsRoute, Separate, AllSeparate}
use Rattle.rules.proofs.Progress.{stopped_reached, reached_same, due_forward}
use Rattle.rules.proofs.Routes.{sound_small, route_rules, rules_route, operand_path, operand_long, servers_small, separate_apart, apart_separate}
use Rattle.rules.proofs.Spans.{Span, span_append, span_left, span_right}

-- the first of a list and the others
pub each_cons : {A : Type 0} (P : A → Type 0) (x : A) (xs : List A) → P x → Each P xs → Each P (x ∷ xs)
each_cons P x xs h t a m = ⊎_elim (λ (e : a ≡ x). subst P (sym e) h) (t a) (Memᴰ.cases_cons m)

-- a list is cut where its images are cut
pub cut_map : {A B : Type 0} (f : A → B) (xs ys : List B) (ps : List A) → map f ps ≡ xs ++ ys
    → (us vs : List A) × (ps ≡ us ++ vs) × (map f us ≡ xs) × (map f vs ≡ ys)
cut_map f [] ys ps e = ([], ps, refl, refl, e)
cut_map f (x ∷ xs) ys [] e = absurd (cons-ne-nil x (xs ++ ys) (sym e))
cut_map {A} {B} f (x ∷ xs) ys (p ∷ ps) e =
    let (us, vs, q, h, t) = cut_map f xs ys ps (tail-eq_of_cons-eq e) in
    (p ∷ us, vs, ap (λ (l : List A). p ∷ l) q, ap (λ (y : B). y ∷ map f us) (head-eq_of_cons-eq e) ∙ ap (λ (l : List B). x ∷ l) h, t)

pub each_append : {A : Type 0} (P : A → Type 0) (xs ys : List A) → Each P xs → Each P ys → Each P (xs ++ ys)
each_append P xs ys h t a m = ⊎_elim (h a) (t a) (Memᴰ.append_cases xs m)

-- separate routes of two lists that share no receiver

pub separate_append : (ps qs : List Route) → AllSeparate ps → AllSeparate qs → Each (λ p. Each (λ q. receiver_of q ≡ receiver_of p → ⊥) qs) ps → AllSeparate (ps ++ qs)
separate_append [] qs h t d = t
separate_append (p ∷ ps) qs h t d = (
  each_append (λ q. receiver_of q ≡ receiver_of p → Separate p q) ps qs h.0 (λ q m e. absurd (d p (Memᴰ.head refl) q m e)),
  separate_append ps qs h.1 t (λ q m. d q (Memᴰ.tail m)),
)

pub separate_left : (ps qs : List Route) → AllSeparate (ps ++ qs) → AllSeparate ps
separate_left [] qs h = tt
separate_left (p ∷ ps) qs h = (λ q m. h.0 q (Memᴰ.append_left qs m), separate_left ps qs h.1)

pub separate_right : (ps qs : List Route) → AllSeparate (ps ++ qs) → AllSeparate qs
separate_right [] qs h = h
separate_right (p ∷ ps) qs h = separate_right ps qs h.1

-- the lists of routes

pub routes_length : (s : List ℕ) (at k : ℕ) → length (routes_at s at k) ≡ k
unfolding routes_at
routes_length s at zero = refl
routes_length s at (suc k) = ap suc (routes_length s (at + 9) k)

pub routes_append : (s : List ℕ) (at j k : ℕ) → routes_at s at (j + k) ≡ routes_at s at j ++ routes_at s (at + 9 * j) k
unfolding routes_at
routes_append s at zero k = let e : 0 + k ≡ k = omega arith in let d : at + 9 * 0 ≡ at = omega arith in rw (e, d) refl
routes_append s at (suc j) k =
    let e : suc j + k ≡ suc (j + k) = omega arith in
    let d : at + 9 * suc j ≡ at + 9 + 9 * j = omega arith in
    rw (e, d) (ap (λ (t : List Route). path (route_at s at) ∷ t) (routes_append s (at + 9) j k))

pub encode_append : (command : ℕ) (ps qs : List Route) → encode_routes command (ps ++ qs) ≡ encode_routes command ps ++ encode_routes command qs
unfolding encode_routes
encode_append command [] qs = refl
encode_append command (p ∷ ps) qs =
    ap (λ (t : List ℕ). command ∷ t) (ap (λ (t : List ℕ). operand p ++ t) (encode_append command ps qs) ∙ sym (append_assoc (operand p) (encode_routes command ps) (encode_routes command qs)))

pub encode_long : (n : ℕ) (links : Links) (F : ℕ) → n ≤ 8 → (command : ℕ) (ps : List Route) → Each (IsRoute n links F) ps → length (encode_routes command ps) ≡ 9 * length ps
unfolding encode_routes
encode_long n links F few command [] h = omega arith
encode_long n links F few command (p ∷ ps) h =
    let ih = encode_long n links F few command ps (λ q m. h q (Memᴰ.tail m)) in
    let e = operand_long n links F few p (h p (Memᴰ.head refl)) in
    let l = length-append (operand p) (encode_routes command ps) in
    omega arith

-- the command at a place

module _ (s : List ℕ) (at command : ℕ) (wide : width command ≡ 9) where
  pub route_whole : is_cut s at ≡ false → get_or s at 0 ≡ command → 8 ≤ length (drop (at + 1) s)
  route_whole e q =
      let z = whole_command s at 9 e (ap width q ∙ wide) in
      let l = length-drop (at + 1) s in
      omega arith

  pub route_long : is_cut s at ≡ false → get_or s at 0 ≡ command → length (route_at s at) ≡ 8
  unfolding route_at
  route_long e q = length-take-le 8 (drop (at + 1) s) (route_whole e q)

  pub route_span : is_cut s at ≡ false → get_or s at 0 ≡ command → Span s at (command ∷ route_at s at)
  unfolding route_at
  route_span e q =
      let z = whole_command s at 9 e (ap width q ∙ wide) in
      let k = route_length e q in
      let place : at + 1 + 8 ≡ at + suc (length (take 8 (drop (at + 1) s))) = omega arith in
      let one : suc at ≡ at + 1 = omega arith in
      drop-cons s at 0 z.0
      ∙ ap (λ (c : ℕ). c ∷ drop (suc at) s) q
      ∙ ap (λ (k : ℕ). command ∷ drop k s) one
      ∙ ap (λ (t : List ℕ). command ∷ t) (sym (take-append-drop 8 (drop (at + 1) s)) ∙ ap (λ (t : List ℕ). take 8 (drop (at + 1) s) ++ t) (drop-drop 8 (at + 1) s ∙ ap (λ (k : ℕ). drop k s) place))
    where
      route_length : is_cut s at ≡ false → get_or s at 0 ≡ command → length (take 8 (drop (at + 1) s)) ≡ 8
      route_length e q = route_long e q

  module _ (xs : List ℕ) (long : length xs ≡ 8) (h : Span s at (command ∷ xs)) where
    pub span_command : get_or s at 0 ≡ command
    span_command =
        let z : at + 0 ≡ at = omega arith in
        let d = get_or-drop at s 0 0 in
        let e : get_or s (at + 0) 0 ≡ command = sym d ∙ ap (λ (t : List ℕ). get_or t 0 0) h in
        rw z at e

    pub span_whole : is_cut s at ≡ false
    unfolding is_cut
    span_whole =
        let l = length-drop at s in
        let k = ap length h in
        let j = length-append xs (drop (at + suc (length xs)) s) in
        let m : 9 ≤ length s - at = omega arith in
        let w : width (get_or s at 0) ≡ 9 = ap width span_command ∙ wide in
        simp (lt-ltb at (length s) (omega arith), w, le-ltb (length s - at) 9 m)

    pub span_route : route_at s at ≡ xs
    unfolding route_at
    span_route =
        ap (take 8) (sym (drop-drop 1 at s) ∙ ap (drop 1) h) ∙ take_at xs (drop (at + suc (length xs)) s) 8 long

-- a group

-- a route of a group, apart from the servers in use
pub record OfGroup (n : ℕ) (links : Links) (F sources r used : ℕ) (p : Route) : Type 0 where
  pub sound : IsRoute n links F p
  pub start : In (has sources) (source_of p)
  pub last : receiver_of p ≡ r
  pub unused : meet used (minus (servers_of p) (single r)) ≡ 0

module _ (n : ℕ) (links : Links) (F : ℕ) (few : n ≤ 8) (s : List ℕ) (g : Group) (wide : width g.command ≡ 9) where
  -- the servers of a route, the receiver aside
  abbrev others : Route → ℕ
  others p = minus (servers_of p) (single g.receiver)

  others_small : (p : Route) → IsRoute n links F p → others p < 256
  others_small p h = minus_small 8 (servers_of p) (single g.receiver) (servers_small n links F few p h)

  -- the set that the route check yields at a place
  abbrev set_at : ℕ → ℕ
  set_at at = route_set (minus (full n) F) links g.sources g.receiver (drop (at + 1) s)

  pub group_none : (at c used a c' : ℕ) → check_group (minus (full n) F) links s g zero at c used ≡ reached a c' → (at ≡ a) × (c ≡ c')
  unfolding check_group
  group_none at c used a c' e = reached_same at c a c' e

  pub group_zero : (at c used : ℕ) → check_group (minus (full n) F) links s g zero at c used ≡ reached (at + 0) (c + 0)
  unfolding check_group
  group_zero at c used = let e : at + 0 ≡ at = omega arith in let d : c + 0 ≡ c = omega arith in rw (e, d) refl

  -- the first route of what the check accepts
  pub group_first : (k at c used a c' : ℕ) → check_group (minus (full n) F) links s g (suc k) at c used ≡ reached a c'
      → Span s at (g.command ∷ operand (path (route_at s at)))
      × OfGroup n links F g.sources g.receiver used (path (route_at s at))
      × (check_group (minus (full n) F) links s g k (at + 9) (c + 1) (union used (others (path (route_at s at)))) ≡ reached a c')
  unfolding check_group route_at
  group_first k at c used a c' e =
      let d = due_forward s at g.command _ a c' e in
      let l = route_long s at g.command wide d.0 d.1 in
      let w = route_whole s at g.command wide d.0 d.1 in
      cases (eqb (set_at at) 0)
      (λ p. stopped_reached 9 at a c' (sym (simp p) ∙ d.2))
      (λ p. let some = eqb-false (set_at at) 0 p in
      let h = route_rules n links F few g.sources g.receiver (route_at s at) l (set_route (minus (full n) F) links g.sources g.receiver (sound_small n links F few) (drop (at + 1) s) w refl some) in
      let x : set_at at ≡ servers_of (path (route_at s at)) = set_is (minus (full n) F) links g.sources g.receiver (sound_small n links F few) (drop (at + 1) s) w refl some in
      cases (eqb (meet used (minus (set_at at) (single g.receiver))) 0)
      (λ q. (
        rw h.3 (route_span s at g.command wide d.0 d.1),
        record { sound = h.0; start = h.1; last = h.2; unused = rw (← x) (eqb-true _ 0 q) },
        rw (← x) (sym (simp (p, q)) ∙ d.2),
      ))
      (λ q. stopped_reached 10 at a c' (sym (simp (p, q)) ∙ d.2)))

  -- a route is apart from the servers in use and from those of p exactly if it is apart from both
  module _ (used : ℕ) (p q : Route) (h : IsRoute n links F q) where
    used_left : meet (union used (others p)) (others q) ≡ 0 → meet used (others q) ≡ 0
    used_left e =
        meet_comm used (others q) ∙ apart_left 8 (others q) used (others p) (others_small q h) (meet_comm (others q) (union used (others p)) ∙ e)

    used_right : meet (union used (others p)) (others q) ≡ 0 → meet (others p) (others q) ≡ 0
    used_right e =
        meet_comm (others p) (others q) ∙ apart_right 8 (others q) used (others p) (others_small q h) (meet_comm (others q) (union used (others p)) ∙ e)

    used_both : meet used (others q) ≡ 0 → meet (others p) (others q) ≡ 0 → meet (union used (others p)) (others q) ≡ 0
    used_both e d =
        meet_comm (union used (others p)) (others q)
        ∙ apart_union 8 (others q) used (others p) (others_small q h) (meet_comm (others q) used ∙ e) (meet_comm (others q) (others p) ∙ d)

  -- the check accepts only separate routes to the receiver
  pub group_forward : (k at c used a c' : ℕ) → check_group (minus (full n) F) links s g k at c used ≡ reached a c'
      → (a ≡ at + 9 * k) × (c' ≡ c + k)
      × Span s at (encode_routes g.command (routes_at s at k))
      × Each (OfGroup n links F g.sources g.receiver used) (routes_at s at k)
      × AllSeparate (routes_at s at k)
  unfolding routes_at encode_routes
  group_forward zero at c used a c' e =
      let z = group_none at c used a c' e in
      (omega arith, omega arith, (let d : at + 0 ≡ at = omega arith in rw d refl), (λ q m. elim m [ ]), tt)
  group_forward (suc k) at c used a c' e =
      let p = path (route_at s at) in
      let (b, o, t) = group_first k at c used a c' e in
      let ih = group_forward k (at + 9) (c + 1) (union used (others p)) a c' t in
      let l = operand_long n links F few p o.sound in
      let place : at + 9 ≡ at + suc (length (operand p)) = omega arith in (
        omega (arith, ih.0),
        omega (arith, ih.1),
        span_append s at (g.command ∷ operand p) (encode_routes g.command (routes_at s (at + 9) k)) b (rw (← place) ih.2),
        each_cons (OfGroup n links F g.sources g.receiver used) p (routes_at s (at + 9) k) o (λ q m. let i = ih.3 q m in record { sound = i.sound; start = i.start; last = i.last; unused = used_left used p q i.sound i.unused }),
        (λ q m u. let i = ih.3 q m in apart_separate n links F few p q g.receiver o.sound i.sound o.last i.last (used_right used p q i.sound i.unused), ih.4),
      )

  -- the check goes on after a route of the group
  pub group_one : (k at c used : ℕ) (p : Route) → OfGroup n links F g.sources g.receiver used p → Span s at (g.command ∷ operand p)
      → check_group (minus (full n) F) links s g (suc k) at c used ≡ check_group (minus (full n) F) links s g k (at + 9) (c + 1) (union used (others p))
  unfolding check_group is_due route_at
  group_one k at c used p o b =
      let l = operand_long n links F few p o.sound in
      let r : route_at s at ≡ operand p = span_route s at g.command wide (operand p) l b in
      let w = span_whole s at g.command wide (operand p) l b in
      let q = eq-eqb (get_or s at 0) g.command (span_command s at g.command wide (operand p) l b) in
      let t = rules_route n links F few g.sources g.receiver p o.sound o.start o.last in
      let y : is_route (minus (full n) F) links g.sources g.receiver (take 8 (drop (at + 1) s)) ≡ true = ap (is_route (minus (full n) F) links g.sources g.receiver) r ∙ t in
      let x : set_at at ≡ servers_of p = route_set_lem (minus (full n) F) links g.sources g.receiver (sound_small n links F few) (drop (at + 1) s) (route_whole s at g.command wide w (eqb-true _ _ q)) y ∙ ap (λ (b : List ℕ). servers_of (path b)) r ∙ ap servers_of (operand_path n links F few p o.sound) in
      let z = ne_eqb (servers_of p) 0 (λ e. set_some (minus (full n) F) links g.sources g.receiver (sound_small n links F few) (drop (at + 1) s) y (ap (λ (b : List ℕ). servers_of (path b)) r ∙ ap servers_of (operand_path n links F few p o.sound) ∙ e)) in
      let u = eq-eqb (meet used (others p)) 0 o.unused in
      simp (w, q, x, z, u)

  -- the check accepts separate routes to the receiver
  pub group_backward : (ps : List Route) (at c used : ℕ) → Each (OfGroup n links F g.sources g.receiver used) ps → AllSeparate ps
      → Span s at (encode_routes g.command ps) → check_group (minus (full n) F) links s g (length ps) at c used ≡ reached (at + 9 * length ps) (c + length ps)
  unfolding encode_routes
  group_backward [] at c used h d b = group_zero at c used
  group_backward (p ∷ ps) at c used h d b =
      let o = h p (Memᴰ.head refl) in
      let l = operand_long n links F few p o.sound in
      let place : at + suc (length (operand p)) ≡ at + 9 = omega arith in
      let later : Span s (at + suc (length (operand p))) (encode_routes g.command ps) = span_right s at (g.command ∷ operand p) (encode_routes g.command ps) b in
      let ih = group_backward ps (at + 9) (c + 1) (union used (others p)) (λ q m. let i = h q (Memᴰ.tail m) in record { sound = i.sound; start = i.start; last = i.last; unused = used_both used p q i.sound i.unused (separate_apart n links F few p q g.receiver o.sound i.sound o.last i.last (d.0 q m (i.last ∙ sym o.last))) }) d.1 (rw place at later) in
      let first = span_left s at (g.command ∷ operand p) (encode_routes g.command ps) b in
      let e : at + 9 + 9 * length ps ≡ at + 9 * suc (length ps) = omega arith in
      let f : c + 1 + length ps ≡ c + suc (length ps) = omega arith in
      group_one (length ps) at c used p o first ∙ ih ∙ rw (e, f) refl
