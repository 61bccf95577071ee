-- What is answered and written, and what the theorems on the search say of it.
--     written-..     the two answers of `write_routes`: a buffer without room is refused, any other holds the routes
--     answer-..      the three answers of `Call::answer`: 13, a cut, and what `write_routes` answers; bytes_routes what it writes
--     routes_found   routes that are answered are f + 1 separate routes, and the first bytes hold them
--     cut_missed     a cut that is answered cuts every route off
--     answered-..    what is said of n, f and links is said of the card that was read
-- Assumes nothing.
use mathlib.Core.Path.{◌≡◌, refl, sym, ap, ◌∙◌}
use mathlib.Core.Bool.{Bool, true, false, cond}
use mathlib.Core.List.{List, ◌++◌}
use Prim.Native.Nat.{ℕ, ◌+◌, ◌*◌, ◌≤◌, ◌<◌}
use native.Mathlib.Omega.{arith}
use lib.Dec.{ltb}
use lib.ListN.{length, take, drop}
use lib.Seq.{take_at}
use borrow.Author.Tests.{lt-ltb, le-ltb}
use Rattle.facts.specs.Laid.{laid}
use Rattle.facts.proofs.Bools.{cases, clash}
use Rattle.facts.proofs.Stores.{laid_whole}
use Rattle.refusal.specs.Refused.{refusal_of, call}
use Rattle.refusal.specs.declared.Refusal.{Refusal}
use Rattle.sets.specs.Sets.{minus, full, size}
use Rattle.network.specs.Links.{Links, linked_in}
use Rattle.network.specs.Card.{network, refused, read_card}
use Rattle.network.specs.Rows.{rows_of}
use Rattle.network.specs.Proper.{Proper}
use Rattle.network.proofs.Networks.{card_proper}
use Rattle.rules.specs.Blocks.{Route}
use Rattle.flow.specs.declared.Flow.{Flow}
use Rattle.flow.specs.Search.{sought_of, lost, reached, flow_to}
use Rattle.flow.specs.Routes.{Separated, routes, cut, routes_of, cut_of, separate_routes}
use Rattle.flow.specs.Theorems.{Found, CutOff, sought}
use Rattle.flow.proofs.Finding.{finds}
use Rattle.flow.proofs.Cutting.{cuts}
use Rattle.routes.specs.Routing.{routed, cut_off, unrouted, call_fits, operands, answer_to, answer_for, route_into, operands_of, after_routes, routed_in}
use Rattle.routes.specs.Answers.{routing_of, Answered}
use Rattle.std.specs.Prelude.{Result, Ok, Err}
use Rattle.flow.specs.declared.Searched.{Searched}
use Rattle.routes.specs.declared.Routing as Code
use Rattle.routes.proofs.Laying.{operands_long, routes_long, routes_many}

-- write_routes

module _ (φ : Flow) (r : ℕ) (lent : List ℕ) (k : ℕ) (sized : k ≡ size φ.start) where
  pub written_short : length lent < 8 * k → unrouted (call 14) ≡ answer_to (size φ.start) (routes (routes_of φ r)) lent
  written_short h =
      let l = lt-ltb (length lent) (8 * k) h in
      let t = rw sized at l in
      sym (ap (λ (b : Bool). cond b (unrouted (call 14)) (routed (size φ.start))) t)

  module _ (room : 8 * k ≤ length lent) where
    pub written_room : length (operands (routes_of φ r)) ≤ length lent
    written_room = let l = routes_long φ r in omega arith

    pub written_so : routed k ≡ answer_to (size φ.start) (routes (routes_of φ r)) lent
    written_so = let l = le-ltb (length lent) (8 * k) room in let t = rw sized at l in sym (rw t (ap routed (sym sized)))

    pub written_bytes : (after : List ℕ) → after ≡ laid 0 (operands (routes_of φ r)) lent → after ≡ operands (routes_of φ r) ++ drop (8 * k) lent
    written_bytes after e =
        let l = routes_long φ r in
        let z : length (operands (routes_of φ r)) ≡ 8 * k = omega arith in
        let w = laid_whole (operands (routes_of φ r)) lent written_room in
        e ∙ rw z at w

-- routes_in

module _ (n f : ℕ) (links : Links) (F sources r : ℕ) (lent : List ℕ) (b : Bool) (e : b ≡ call_fits n f F sources r) where
  pub answer_unfit : b ≡ false → unrouted (call 13) ≡ answer_for n f links F sources r lent
  unfolding answer_for
  answer_unfit h = let z = sym e ∙ h in sym (simp z)

  module _ (h : b ≡ true) (m : Searched) (t : Result Searched Searched) (q : sought_of t ≡ flow_to (rows_of (linked_in links)) (minus (full n) F) sources r (f + 1)) where
    answer_is : answer_for n f links F sources r lent ≡ answer_to (f + 1) (sought n links F sources r (f + 1)) lent
    unfolding answer_for
    answer_is = let z = sym e ∙ h in simp z

    pub answer_cut : t ≡ Err m → (K : ℕ) → K ≡ minus m.entered m.left → cut_off K ≡ answer_for n f links F sources r lent
    unfolding cut_of separate_routes lost
    answer_cut g K c = let w = rw g at q in sym (answer_is ∙ rw (← w, c) refl)

    module _ (p : Proper n f links) (g : t ≡ Ok m) where
      routes_are : sought n links F sources r (f + 1) ≡ routes (routes_of m.flow r)
      unfolding separate_routes reached
      routes_are = let w = rw g at q in rw (← w) refl

      count_is : size m.flow.start ≡ f + 1
      count_is = sym (routes_many m.flow r) ∙ (finds n f links p F sources r (f + 1) (routes_of m.flow r) routes_are).many

      module _ (a : Result Code.Routing Refusal) where
        pub answer_routes : routing_of a ≡ answer_to (size m.flow.start) (routes (routes_of m.flow r)) lent → routing_of a ≡ answer_for n f links F sources r lent
        answer_routes x = let z = rw count_is at x in z ∙ sym (answer_is ∙ rw routes_are refl)

        pub bytes_routes : (after : List ℕ) → after ≡ after_routes (routing_of a) (operands (routes_of m.flow r)) lent
            → after ≡ after_routes (routing_of a) (operands_of (sought n links F sources r (f + 1))) lent
        bytes_routes after y = rw routes_are y

-- the theorems on the search

module _ (n f : ℕ) (links : Links) (p : Proper n f links) (F sources r : ℕ) (lent : List ℕ) where
  -- the answer to what the search gives
  found_by : (z : Separated) → sought n links F sources r (f + 1) ≡ z → (count : ℕ) → answer_to (f + 1) z lent ≡ routed count
      → (after : List ℕ) → after ≡ operands_of z ++ drop (8 * count) lent
      → (count ≡ f + 1) × (ps : List Route) × Found n links F sources r (f + 1) ps × (take (8 * count) after ≡ operands ps)
  found_by (routes ps) q count e after b =
      cases (ltb (length lent) (8 * (f + 1)))
      (λ t. let z : true ≡ false = cc in clash true refl z)
      λ t.
      let c : f + 1 ≡ count = cc in
      let x = finds n f links p F sources r (f + 1) ps q in
      let m = x.many in
      let l = operands_long ps (λ w i. (x.routes w i).eight) in
      let o : length (operands ps) ≡ 8 * count = omega arith in
      (sym c, ps, x, rw b (take_at (operands ps) (drop (8 * count) lent) (8 * count) o))
  found_by (cut K) q count e after b = let z : true ≡ false = cc in clash true refl z

  missed_by : (z : Separated) → sought n links F sources r (f + 1) ≡ z → (K : ℕ) → answer_to (f + 1) z lent ≡ cut_off K → CutOff n links F sources r (f + 1) K
  missed_by (routes ps) q K e =
      cases (ltb (length lent) (8 * (f + 1)))
      (λ t. let z : true ≡ false = cc in clash true refl z)
      (λ t. let z : true ≡ false = cc in clash true refl z)
  missed_by (cut J) q K e = let z : J ≡ K = cc in rw z at (cuts n f links p F sources r (f + 1) J q)

  pub routes_found : (count : ℕ) → answer_for n f links F sources r lent ≡ routed count
      → (after : List ℕ) → after ≡ operands_of (sought n links F sources r (f + 1)) ++ drop (8 * count) lent
      → (count ≡ f + 1) × (ps : List Route) × Found n links F sources r (f + 1) ps × (take (8 * count) after ≡ operands ps)
  unfolding answer_for
  routes_found count e after b =
      cases (call_fits n f F sources r)
      (λ t. found_by (sought n links F sources r (f + 1)) refl count (rw t at e) after b)
      (λ t. let z : true ≡ false = cc in clash true refl z)

  pub cut_missed : (K : ℕ) → answer_for n f links F sources r lent ≡ cut_off K → CutOff n links F sources r (f + 1) K
  unfolding answer_for
  cut_missed K e =
      cases (call_fits n f F sources r)
      (λ t. missed_by (sought n links F sources r (f + 1)) refl K (rw t at e))
      (λ t. let z : true ≡ false = cc in clash true refl z)

-- separate_routes

module _ (s : List ℕ) (F sources r : ℕ) (lent : List ℕ) where
  -- of the answer and the bytes that are defined, the theorems hold
  answered_so : (a : Result Code.Routing Refusal) (after : List ℕ) → routing_of a ≡ route_into s F sources r lent → after ≡ routed_in s F sources r lent → Answered s F sources r lent a after
  unfolding route_into routed_in
  answered_so a after x y =
      record {
        answer = x;
        bytes = y;
        found = λ n f links c count e.
            let u = rw c at x in
            let w = sym u ∙ e in
            let v = rw c at y in
            routes_found n f links (card_proper s n f links c) F sources r lent count w after (rw w at v);
        missed = λ n f links c K e.
            let u = rw c at x in
            cut_missed n f links (card_proper s n f links c) F sources r lent K (sym u ∙ e);
      }

  pub answered_refused : (w : Refusal) → refused (refusal_of w) ≡ read_card s → Answered s F sources r lent (Err w) lent
  unfolding route_into routed_in
  answered_refused w e = answered_so (Err w) lent (rw (sym e) refl) (rw (sym e) refl)

  pub answered_network : (n f : ℕ) (links : Links) → network n f links ≡ read_card s → (a : Result Code.Routing Refusal) (after : List ℕ)
      → routing_of a ≡ answer_for n f links F sources r lent → after ≡ after_routes (routing_of a) (operands_of (sought n links F sources r (f + 1))) lent
      → Answered s F sources r lent a after
  unfolding route_into routed_in
  answered_network n f links e a after x y = answered_so a after (rw (sym e) x) (rw (sym e, ← x) y)
