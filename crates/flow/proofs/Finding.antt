-- The routes that the search answers are so many routes from the sources to the receiver that keep the route rules and share nothing but the
-- receiver. The trail of a start is a walk that leads to an end, and r behind it (`Way`); that walks do not meet gives that no server stands twice
-- and that two trails are separate.
--     way_route, way_separate    the trail of a start is a route, and the trails of two starts are separate
--     flow_found                 the routes of a flow in which nothing is lacking
--     finds                      the routes that the search answers
-- Assumes nothing.
use mathlib.Core.Path.{◌≡◌, refl, sym, ◌∙◌}
use mathlib.Core.Logic.{◌⊎◌, inl, inr, ⊎_elim}
use mathlib.Core.Bool.{true, cond}
use mathlib.Core.List.Memᴰ
use mathlib.Core.List.{List, [], ◌∷◌, map}
use Prim.Native.Nat.{ℕ, suc, ◌-◌, ◌≤◌, ◌<◌}
use native.Mathlib.Omega.{arith}
use lib.Dec.{eqb}
use lib.ListN.{length, get_or, length-map}
use borrow.Author.Tests.{eqb-true, eqb-false, ltb-true, lt-ltb}
use Rattle.facts.specs.Lists.{Each}
use Rattle.facts.proofs.Bools.{cases, clash, and_left, and_right, not_true, is_false}
use Rattle.sets.specs.Sets.{In, Out, has, single, meet, minus, encode, full, size}
use Rattle.sets.proofs.Members.{has_meet, has_minus, has_single, has_full, has_empty, has_below, encode_has, minus_small}
use Rattle.network.specs.Links.{Links, linked_in}
use Rattle.network.specs.Rows.{rows_of}
use Rattle.network.specs.Proper.{Proper}
use Rattle.network.proofs.LinkRows.{rows_linked}
use Rattle.sets.specs.Members.{members}
use Rattle.rules.specs.Blocks.{Route, source_of, receiver_of}
use Rattle.rules.specs.Rules.{IsRoute, Separate, AllSeparate}
use Rattle.rules.proofs.Lists.{length_members, members_in}
use Rattle.rules.proofs.Routes.{sound_small}
use Rattle.rules.proofs.Fans.{Different, members_different}
use Rattle.flow.specs.declared.Flow.{Flow}
use Rattle.flow.specs.Search.{Sought, last_in, linking, linked_to, flow_to}
use Rattle.flow.specs.Routes.{trail, routes_of, cut_of, routes, cut, separate_routes}
use Rattle.flow.specs.Theorems.{Found, Finds}
use Rattle.flow.proofs.Kept.{Valid}
use Rattle.flow.proofs.Updates.{eqb_self}
use Rattle.flow.proofs.Pushed.{flow_valid}
use Rattle.flow.proofs.Trails.{along, Goes, Leads, Starts, visited, handed, meeting, leads, leads_short, trail_long, trail_at, trail_end}

-- what is in a set less r is in the set, and is not r
minus_in : (W r x : ℕ) → In (has (minus W (single r))) x → In (has W) x × Out (has (single r)) x
minus_in W r x e =
    let a = sym (has_minus W (single r) x) ∙ e in
    (and_left _ _ a, not_true _ (and_right (has W x) _ a))

minus_self : (W r : ℕ) → r < 8 → Out (has (minus W (single r))) r
minus_self W r l =
    is_false (has (minus W (single r)) r) λ e.
    let a = has_single r r in
    let b = lt-ltb r 8 l in
    let c = eqb_self r in
    clash (has (single r) r) (cc) (minus_in W r r e).1

-- the last servers of routes have a link to r, which is in W itself
last_linked : (rows : List ℕ) (W r x : ℕ) → W < 256 → In (has (linked_to rows W r)) x → In (has W) r × In (has (get_or rows x 0)) r
unfolding last_in linking
last_linked rows W r x small e =
    cases (has W r)
    (λ t. let a : has (meet (minus W (single r)) (encode 8 (λ (y : ℕ). has (get_or rows y 0) r))) x ≡ true = rw t at e in
    let b = sym (has_meet (minus W (single r)) (encode 8 (λ (y : ℕ). has (get_or rows y 0) r)) x) ∙ a in
    let low = has_below 8 (minus W (single r)) x (minus_small 8 W (single r) small) (and_left _ _ b) in
    (t, sym (encode_has 8 (λ (y : ℕ). has (get_or rows y 0) r) x low) ∙ and_right (has (minus W (single r)) x) _ b))
    (λ t. clash (has 0 x) (rw t at e) (has_empty x))

module _ (n f : ℕ) (links : Links) (proper : Proper n f links) (F : ℕ) where
  abbrev W : ℕ
  W = minus (full n) F

  abbrev rows : List ℕ
  rows = rows_of (linked_in links)

  small : W < 256
  small = sound_small n links F proper.most

  sound : (x : ℕ) → In (has W) x → (x < n) × Out (has F) x
  sound x e =
      let a = sym (has_minus (full n) F x) ∙ e in
      (ltb-true x n (sym (has_full n x) ∙ and_left _ _ a), not_true _ (and_right (has (full n) x) _ a))

  linked : (x y : ℕ) → In (has (get_or rows x 0)) y → linked_in links x y ≡ true
  linked x y e = sym (rows_linked n f links proper x y) ∙ e

  alone : (x : ℕ) → Out (has (get_or rows x 0)) x
  alone x = rows_linked n f links proper x x ∙ is_false (linked_in links x x) (λ e. proper.other x x e refl)

  module _ (sources r k : ℕ) where
    abbrev inner : ℕ
    inner = minus W (single r)

    abbrev Sound : Flow → Type 0
    Sound φ = Valid rows inner (linked_to rows W r) (meet sources inner) k φ

    inner_small : inner < 256
    inner_small = minus_small 8 W (single r) small

    module _ (φ : Flow) (valid : Sound φ) where
      -- p is the walk from s up to its end, and r
      record Way (s : ℕ) (p : Route) : Type 0 where
        starts : Starts φ s
        size : ℕ
        short : size < 7
        leads : Leads φ size s
        long : length p ≡ suc (suc size)
        at : (j : ℕ) → j ≤ size → get_or p j 0 ≡ along φ j s
        end : get_or p (suc size) 0 ≡ r
        link : linked_in links (along φ size s) r ≡ true
        final : In (has W) r

      trail_way : (s : ℕ) → Starts φ s → Way s (trail φ r 7 s)
      trail_way s st =
          let (i, w) = leads _ _ _ _ _ φ valid inner_small s st in
          let (t, e) = last_linked rows W r (along φ i s) small (valid.ending (along φ i s) w.1) in
          let low = has_below 8 W r small t in
          let short = leads_short _ _ _ _ _ φ valid inner_small s st r i low (minus_self W r low) w.0 in
          record {
            starts = st;
            size = i;
            short = short;
            leads = w;
            long = trail_long φ r i 7 s short w;
            at = trail_at φ r i 7 s short w;
            end = trail_end φ r i 7 s short w;
            link = linked (along φ i s) r e;
            final = t;
          }

      module _ (s : ℕ) (p : Route) (w : Way s p) where
        goes : (j : ℕ) → j ≤ w.size → Goes φ j s
        goes j l i h = w.leads.0 i (omega arith)

        way_inner : (j : ℕ) → j ≤ w.size → In (has inner) (along φ j s)
        way_inner j l = valid.passes (along φ j s) (visited _ _ _ _ _ φ valid inner_small s w.starts j (goes j l))

        way_receiver : receiver_of p ≡ r
        way_receiver = let l = w.long in let z : length p - 1 ≡ suc w.size = omega arith in rw z w.end

        -- r is no place of the walk
        way_other : (j : ℕ) → j ≤ w.size → along φ j s ≡ r → ⊥
        way_other j l e =
            clash (has inner r) (rw e at (way_inner j l)) (minus_self W r (has_below 8 W r small w.final))

        -- a place of the route is one of the walk, or that of r
        way_place : (j : ℕ) → j < length p → (j ≤ w.size) ⊎ (get_or p j 0 ≡ r)
        way_place j l =
            let h = w.long in
            cases (eqb j (suc w.size))
            (λ e. inr (let q = eqb-true j (suc w.size) e in rw q w.end))
            (λ e. inl (let o = eqb-false j (suc w.size) e in omega arith))

        way_sound : (j : ℕ) → j < length p → In (has W) (get_or p j 0)
        way_sound j l = ⊎_elim (λ h. rw (w.at j h) (minus_in W r (along φ j s) (way_inner j h)).0) (λ e. rw e w.final) (way_place j l)

        way_once : (i j : ℕ) → i < j → j < length p → get_or p i 0 ≡ get_or p j 0 → ⊥
        way_once i j l h e =
            let long = w.long in
            let early : i ≤ w.size = omega arith in
            let a = w.at i early in
            ⊎_elim
            (λ m. let q = meeting _ _ _ _ _ φ valid inner_small i j s s w.starts w.starts (goes i early) (goes j m) (sym a ∙ e ∙ w.at j m) in omega arith)
            (λ m. way_other i early (sym a ∙ e ∙ m))
            (way_place j h)

        way_linked : (i : ℕ) → suc i < length p → linked_in links (get_or p i 0) (get_or p (suc i) 0) ≡ true
        way_linked i l =
            let long = w.long in
            cases (eqb i w.size)
            (λ e. let q = eqb-true i w.size e in let a = w.at w.size (omega arith) in rw q (rw (a, w.end) w.link))
            (λ e. let o = eqb-false i w.size e in
            let m : suc i ≤ w.size = omega arith in
            let a = w.at i (omega arith) in
            let b = w.at (suc i) m in
            let h = handed _ _ _ _ _ φ valid inner_small s w.starts i (goes (suc i) m) in
            rw (a, b) (linked (along φ i s) (along φ (suc i) s) (valid.steps (along φ i s) (along φ (suc i) s) h).0))

        way_route : IsRoute n links F p
        way_route =
            let long = w.long in
            let short = w.short in
            record {
              two = omega arith;
              eight = omega arith;
              servers = λ i l. (sound (get_or p i 0) (way_sound i l)).0;
              clear = λ i l. (sound (get_or p i 0) (way_sound i l)).1;
              once = way_once;
              linked = way_linked;
            }

      way_separate : (s t : ℕ) (p q : Route) → Way s p → Way t q → (s ≡ t → ⊥) → Separate p q
      way_separate s t p q w v o i j l h e =
          ⊎_elim
          (λ m. ⊎_elim
          (λ x. absurd (o (meeting _ _ _ _ _ φ valid inner_small i j s t w.starts v.starts (goes s p w i m) (goes t q v j x) (sym (w.at i m) ∙ e ∙ v.at j x)).1))
          (λ x. absurd (way_other s p w i m (sym (w.at i m) ∙ e ∙ x)))
          (way_place t q v j h))
          (λ m. m ∙ sym (way_receiver s p w))
          (way_place s p w i l)

      -- the trails of different starts

      trails_separate : (ss : List ℕ) → Each (Starts φ) ss → Different ss → AllSeparate (map (trail φ r 7) ss)
      trails_separate [] h d = tt
      trails_separate (s ∷ ss) h d = (
        λ q m e.
            let (t, o, z) = Memᴰ.of_map (trail φ r 7) ss m in
            way_separate s t (trail φ r 7 s) q (trail_way s (h s (Memᴰ.head refl))) (rw z at (trail_way t (h t (Memᴰ.tail o)))) (λ y. d.0 t o (sym y)),
        trails_separate ss (λ x m. h x (Memᴰ.tail m)) d.1,
      )

      members_start : Each (Starts φ) (members φ.start)
      members_start s m = let (a, b) = members_in φ.start s m in (b, a)

      -- each route of the flow is the trail of a start
      routes_way : Each (λ p. (s : ℕ) × Way s p) (routes_of φ r)
      unfolding routes_of
      routes_way p m =
          let (s, o, z) = Memᴰ.of_map (trail φ r 7) (members φ.start) m in
          (s, rw z at (trail_way s (members_start s o)))

      way_start : (s : ℕ) (p : Route) → Way s p → In (has sources) (source_of p)
      unfolding along
      way_start s p w =
          let a : In (has (meet sources inner)) s = valid.starts s w.starts.1 in
          rw (w.at 0 (omega arith)) (and_left _ _ (sym (has_meet sources inner s) ∙ a))

      flow_found : Found n links F sources r k (routes_of φ r)
      unfolding routes_of size
      flow_found =
          record {
            many = length-map (members φ.start) (trail φ r 7) ∙ length_members φ.start ∙ valid.value;
            start = λ p m. let (s, w) = routes_way p m in way_start s p w;
            end = λ p m. let (s, w) = routes_way p m in way_receiver s p w;
            routes = λ p m. let (s, w) = routes_way p m in way_route s p w;
            separate = trails_separate (members φ.start) members_start (members_different φ.start);
          }

-- the answer is routes only if a flow was found, and then they are its routes
routes_answer : (s : Sought) (r : ℕ) (ps : List Route) → cond s.found (routes (routes_of s.flow r)) (cut (cut_of s)) ≡ routes ps
    → (s.found ≡ true) × (routes_of s.flow r ≡ ps)
routes_answer s r ps e =
    cases s.found
    (λ t. (t, cc))
    (λ t. (cc, cc))

pub finds : Finds
unfolding separate_routes
finds n f links proper F sources r k ps e =
    let s = flow_to (rows_of (linked_in links)) (minus (full n) F) sources r k in
    let (t, q) = routes_answer s r ps e in
    rw q at (flow_found n f links proper F sources r k s.flow (flow_valid (rows_of (linked_in links)) (minus (full n) F) sources r k (small n f links proper F) (alone n f links proper F) t))
