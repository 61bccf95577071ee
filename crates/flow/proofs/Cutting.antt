-- What a search that finds nothing says of the network, where it began from a valid flow of j routes.
--     Unreached     what holds of the servers that the search did not come to
--     cuts_valid    the cut has j servers, and every route from a source to the receiver meets it: its source has its entry side seen, and from a seen
--                   leaving side it goes on to a seen entry side, never to the receiver
--     cut_weak      the servers of V−F of which neither side was seen are a set with the receiver and no source that has at most j incoming neighbours
--                   outside F: these are all in the cut
--     lost_cut, lost_weak    both for the search for k routes, from no routes on, with a j below k
--     cuts          the servers that the search answers cut off every route
-- Assumes nothing.
use mathlib.Core.Path.{◌≡◌, refl, sym, ap, ◌∙◌}
use mathlib.Core.Bool.{true, false, not, ◌&&◌, ◌||◌}
use mathlib.Core.List.{List}
use Prim.Native.Nat.{ℕ, zero, suc, ◌+◌, ◌-◌, ◌^◌, ◌≤◌, ◌<◌}
use native.Mathlib.Omega.{arith}
use lib.Dec.{eqb, ltb}
use lib.ListN.{length, get_or}
use lib.Pow.{pow_mono}
use borrow.Author.Tests.{ltb-true, eqb-true, eqb-false, eq-eqb, ne_eqb, lt-ltb}
use Rattle.facts.proofs.Bools.{cases, clash, is_false, and_left, and_right, both, or_false_left, not_true, bools}
use Rattle.sets.specs.Sets.{In, Out, has, single, union, meet, minus, within, full, count, encode}
use Rattle.sets.proofs.Members.{has_meet, has_union, has_minus, has_single, has_full, full_small, minus_small, encode_has, in_within, below_power}
use Rattle.sets.proofs.Counts.{count_mono, count_beyond}
use Rattle.network.specs.Links.{Links, linked_in}
use Rattle.network.specs.Rows.{rows_of}
use Rattle.network.specs.Proper.{Proper}
use Rattle.network.proofs.LinkRows.{rows_linked}
use Rattle.split.specs.Split.{incoming}
use Rattle.split.specs.Weak.{outside}
use Rattle.split.proofs.Neighbours.{some_at}
use Rattle.rules.specs.Blocks.{Route, source_of, receiver_of}
use Rattle.rules.specs.Rules.{IsRoute}
use Rattle.rules.specs.Routable.{Passes}
use Rattle.flow.specs.declared.Flow.{Flow}
use Rattle.flow.specs.Search.{Sought, seek, last_in, linking, linked_to, flow_to}
use Rattle.flow.specs.Routes.{cut_of, cut, separate_routes}
use Rattle.flow.specs.Theorems.{CutOff, sought, Cuts}
use Rattle.flow.proofs.Kept.{Valid}
use Rattle.flow.proofs.Pushed.{flow_lost}
use Rattle.flow.proofs.Closed.{Closed, seek_closed}
use Rattle.flow.proofs.Cut.{left_inside, left_last, link_entered, cut_count}

-- the sets of a search for routes to r in V−F

abbrev pub rows_in : Links → List ℕ
rows_in links = rows_of (linked_in links)

abbrev pub sound : ℕ → ℕ → ℕ
sound n F = minus (full n) F

abbrev pub inner_of : (n F r : ℕ) → ℕ
inner_of n F r = minus (minus (full n) F) (single r)

abbrev pub last_of : ℕ → Links → (F r : ℕ) → ℕ
last_of n links F r = linked_to (rows_of (linked_in links)) (minus (full n) F) r

abbrev pub sources_of : (n F sources r : ℕ) → ℕ
sources_of n F sources r = meet sources (minus (minus (full n) F) (single r))

module _ (n F : ℕ) where
  sound_below : (x : ℕ) → In (has (sound n F)) x → x < n
  sound_below x e = ltb-true x n (sym (has_full n x) ∙ and_left (has (full n) x) (not (has F x)) (sym (has_minus (full n) F x) ∙ e))

  sound_in : (x : ℕ) → x < n → Out (has F) x → In (has (sound n F)) x
  sound_in x h o = let a = has_minus (full n) F x in let b = has_full n x in let c = lt-ltb x n h in cc

  module _ (r : ℕ) where
    inner_sound : (x : ℕ) → In (has (inner_of n F r)) x → In (has (sound n F)) x
    inner_sound x e = and_left (has (sound n F) x) (not (has (single r) x)) (sym (has_minus (sound n F) (single r) x) ∙ e)

    inner_other : n ≤ 8 → (x : ℕ) → In (has (inner_of n F r)) x → x ≡ r → ⊥
    inner_other h x e q =
        let i = inner_sound x e in
        let a = sound_below x i in
        let b = has_single r x in
        let c = lt-ltb r 8 (omega arith) in
        let d = eq-eqb r x (sym q) in
        let m = has_minus (sound n F) (single r) x in
        clash (has (inner_of n F r) x) e (cc)

    inner_in : (x : ℕ) → In (has (sound n F)) x → (x ≡ r → ⊥) → In (has (inner_of n F r)) x
    inner_in x e o =
        let a = has_minus (sound n F) (single r) x in
        let b = has_single r x in
        let c = ne_eqb r x (λ q. o (sym q)) in
        cases (ltb r 8) (λ l. cc) (λ l. cc)

    source_inner : (sources x : ℕ) → In (has (sources_of n F sources r)) x → In (has (inner_of n F r)) x
    source_inner sources x e = and_right (has sources x) (has (inner_of n F r) x) (sym (has_meet sources (inner_of n F r) x) ∙ e)

    source_in : (sources x : ℕ) → In (has sources) x → In (has (inner_of n F r)) x → In (has (sources_of n F sources r)) x
    source_in sources x e i = has_meet sources (inner_of n F r) x ∙ both (has sources x) (has (inner_of n F r) x) e i

module _ (n f : ℕ) (links : Links) (p : Proper n f links) (F r : ℕ) where
  last_in_lem : (x : ℕ) → In (has (sound n F)) r → In (has (inner_of n F r)) x → linked_in links x r ≡ true → In (has (last_of n links F r)) x
  unfolding last_in linking
  last_in_lem x w e l =
      let m = p.most in
      let h = sound_below n F x (inner_sound n F r x e) in
      let a = has_meet (inner_of n F r) (encode 8 (λ (y : ℕ). has (get_or (rows_in links) y 0) r)) x in
      let b = encode_has 8 (λ (y : ℕ). has (get_or (rows_in links) y 0) r) x (omega arith) in
      let c = rows_linked n f links p x r in
      rw w (cc)

-- a set all of whose members are in another is within it
within_all : (a b : ℕ) → ((i : ℕ) → has a i ≡ true → has b i ≡ true) → within a b ≡ true
within_all a b h =
    let l = below_power (a + b) in
    in_within (a + b) a b (omega arith) (omega arith) (λ i k. h i)

-- R has the receiver and no source, and no more than j of its incoming neighbours are outside F
pub record Unreached (n : ℕ) (links : Links) (F sources r j R : ℕ) : Type 0 where
  pub receiver : In (has R) r
  pub small : R < 2 ^ n
  pub inside : within R (minus (full n) F) ≡ true
  pub sourceless : (x : ℕ) → In (has (sources_of n F sources r)) x → In (has R) x → ⊥
  pub few : outside n links F R ≤ j

module _ (n f : ℕ) (links : Links) (p : Proper n f links) (F sources r j : ℕ) (φ : Flow)
    (v : Valid (rows_in links) (inner_of n F r) (last_of n links F r) (sources_of n F sources r) j φ)
    (s : Sought) (is : seek (rows_in links) (inner_of n F r) (last_of n links F r) (sources_of n F sources r) φ ≡ s) (none : s.found ≡ false) where
  closed : Closed (rows_in links) (inner_of n F r) (last_of n links F r) (sources_of n F sources r) φ s.entered s.left
  closed =
      rw is at (seek_closed (rows_in links) (inner_of n F r) (last_of n links F r) (sources_of n F sources r) φ v.passes (source_inner n F r sources) (rw is none))

  inner_below : (x : ℕ) → In (has (inner_of n F r)) x → x < 8
  inner_below x e = let a = sound_below n F x (inner_sound n F r x e) in let m = p.most in omega arith

  source_entered : (x : ℕ) → In (has (sources_of n F sources r)) x → In (has s.entered) x
  source_entered x e = closed.begun x (inner_below x (source_inner n F r sources x e)) e

  -- a link from a seen leaving side leads to a seen entry side
  linked_entered : (x y : ℕ) → In (has s.left) x → In (has (inner_of n F r)) y → linked_in links x y ≡ true → In (has s.entered) y
  linked_entered x y e i l =
      link_entered (rows_in links) (inner_of n F r) (last_of n links F r) (sources_of n F sources r) j φ v inner_below s.entered s.left closed
      x y e i (rows_linked n f links p x y ∙ l)

  left_inner : (x : ℕ) → In (has s.left) x → In (has (inner_of n F r)) x
  left_inner x e =
      left_inside (rows_in links) (inner_of n F r) (last_of n links F r) (sources_of n F sources r) j φ v inner_below s.entered s.left closed x e

  -- and never to the receiver
  left_unlinked : (x : ℕ) → In (has (sound n F)) r → In (has s.left) x → linked_in links x r ≡ true → ⊥
  left_unlinked x w e l =
      clash (has (last_of n links F r) x)
      (last_in_lem n f links p F r x w (left_inner x e) l)
      (left_last (rows_in links) (inner_of n F r) (last_of n links F r) (sources_of n F sources r) j φ v inner_below s.entered s.left closed x e)

  cut_inner : (x : ℕ) → In (has (cut_of s)) x → In (has (inner_of n F r)) x
  unfolding cut_of
  cut_inner x e = closed.inside x (and_left (has s.entered x) (not (has s.left x)) (sym (has_minus s.entered s.left x) ∙ e))

  cut_in : (x : ℕ) → In (has s.entered) x → Out (has s.left) x → In (has (cut_of s)) x
  unfolding cut_of
  cut_in x e o = let a = has_minus s.entered s.left x in cc

  pub cut_many : count n (has (cut_of s)) ≡ j
  unfolding cut_of
  cut_many =
      let m = p.most in
      let e : 8 - n + n ≡ 8 = omega arith in
      sym (count_beyond n (8 - n) (has (cut_of s)) (λ i h. is_false (has (cut_of s) i) (λ q. let l = sound_below n F i (inner_sound n F r i (cut_inner i q)) in omega arith)))
      ∙ ap (λ (m : ℕ). count m (has (cut_of s))) e
      ∙ cut_count (rows_in links) (inner_of n F r) (last_of n links F r) (sources_of n F sources r) j φ v inner_below s.entered s.left closed

  -- a route to r that begins at a source
  module _ (q : Route) (i : IsRoute n links F q) (to : receiver_of q ≡ r) where
    on_sound : (k : ℕ) → k < length q → In (has (sound n F)) (get_or q k 0)
    on_sound k h = sound_in n F (get_or q k 0) (i.servers k h) (i.clear k h)

    on_inner : (k : ℕ) → suc k < length q → In (has (inner_of n F r)) (get_or q k 0)
    on_inner k h = inner_in n F r (get_or q k 0) (on_sound k (omega arith)) (λ e. i.once k (length q - 1) (omega arith) (omega arith) (e ∙ sym to))

    to_sound : In (has (sound n F)) r
    to_sound = rw to at (on_sound (length q - 1) (let t = i.two in omega arith))

    -- d servers more before r, from place k on, which has its entry side seen
    met_from : (d k : ℕ) → suc (suc k) + d ≡ length q → In (has s.entered) (get_or q k 0) → (x : ℕ) × In (has (cut_of s)) x × Passes q x
    met_from zero k h e =
        let z : length q - 1 ≡ suc k = omega arith in
        let t : get_or q (suc k) 0 ≡ r = rw z at to in
        cases (has s.left (get_or q k 0))
        (λ l. absurd (left_unlinked (get_or q k 0) to_sound l (rw t at (i.linked k (omega arith)))))
        (λ l. (get_or q k 0, cut_in (get_or q k 0) e l, (k, omega arith, refl)))
    met_from (suc d) k h e =
        cases (has s.left (get_or q k 0))
        (λ l. met_from d (suc k) (omega arith) (linked_entered (get_or q k 0) (get_or q (suc k) 0) l (on_inner (suc k) (omega arith)) (i.linked k (omega arith))))
        (λ l. (get_or q k 0, cut_in (get_or q k 0) e l, (k, omega arith, refl)))

    met_source : In (has sources) (source_of q) → (x : ℕ) × In (has (cut_of s)) x × Passes q x
    met_source e = let t = i.two in met_from (length q - 2) 0 (omega arith) (source_entered (source_of q) (source_in n F r sources (source_of q) e (on_inner 0 (omega arith))))

  pub cuts_valid : (k : ℕ) → j < k → CutOff n links F sources r k (cut_of s)
  cuts_valid k h = record {
    inside = within_all (cut_of s) (minus (full n) F) (λ x e. inner_sound n F r x (cut_inner x e));
    few = rw cut_many h;
    other = is_false (has (cut_of s) r) (λ e. inner_other n F r p.most r (cut_inner r e) refl);
    met = λ q i e t. met_source q i t e;
  }

  -- the servers of V−F of which neither side was seen
  abbrev unseen : ℕ
  unseen = minus (minus (full n) F) (union s.entered s.left)

  unseen_has : (x : ℕ) → has unseen x ≡ (has (sound n F) x && not (has s.entered x || has s.left x))
  unseen_has x = simp (has_minus (minus (full n) F), has_union)

  unseen_entered : (x : ℕ) → In (has unseen) x → Out (has s.entered) x
  unseen_entered x e = or_false_left (has s.entered x) (has s.left x) (not_true _ (and_right (has (sound n F) x) _ (sym (unseen_has x) ∙ e)))

  unseen_sound : (x : ℕ) → In (has unseen) x → In (has (sound n F)) x
  unseen_sound x e = and_left (has (sound n F) x) _ (sym (unseen_has x) ∙ e)

  unseen_receiver : In (has (sound n F)) r → In (has unseen) r
  unseen_receiver w =
      let a = unseen_has r in
      let b = is_false (has s.entered r) (λ e. inner_other n F r p.most r (closed.inside r e) refl) in
      let c = is_false (has s.left r) (λ e. inner_other n F r p.most r (left_inner r e) refl) in
      cc

  -- no link leads to them from a seen leaving side
  unseen_unlinked : In (has (sound n F)) r → (x y : ℕ) → In (has s.left) x → In (has unseen) y → linked_in links x y ≡ true → ⊥
  unseen_unlinked w x y e m l =
      cases (eqb y r)
      (λ q. left_unlinked x w e (rw (eqb-true y r q) at l))
      (λ q. clash (has s.entered y) (linked_entered x y e (inner_in n F r y (unseen_sound y m) (eqb-false y r q)) l) (unseen_entered y m))

  -- an incoming neighbour of them in V−F is in the cut
  incoming_cut : In (has (sound n F)) r → (u : ℕ) → u < n → Out (has F) u → incoming n links unseen u ≡ true → In (has (cut_of s)) u
  unfolding incoming
  incoming_cut w u h o e =
      let i = sound_in n F u h o in
      let a = unseen_has u in
      let m = not_true (has unseen u) (search bools) in
      let (y, k, b) = some_at n (λ (x : ℕ). has unseen x && linked_in links u x) (search bools) in
      cases (has s.left u)
      (λ l. absurd (unseen_unlinked w u y l (and_left (has unseen y) (linked_in links u y) b) (and_right (has unseen y) (linked_in links u y) b)))
      (λ l. cases (has s.entered u) (λ d. cut_in u d l) (λ d. cc))

  pub cut_weak : In (has (minus (full n) F)) r → Unreached n links F sources r j (minus (minus (full n) F) (union s.entered s.left))
  unfolding outside
  cut_weak w = record {
    receiver = unseen_receiver w;
    small = minus_small n (minus (full n) F) (union s.entered s.left) (minus_small n (full n) F (full_small n));
    inside = within_all unseen (minus (full n) F) unseen_sound;
    sourceless = λ x e m. clash (has s.entered x) (source_entered x e) (unseen_entered x m);
    few = rw cut_many at (count_mono n (λ (u : ℕ). not (has F u) && incoming n links unseen u) (has (cut_of s)) (λ u h e. incoming_cut w u h (search bools) (search bools)));
  }

-- the flow with k routes, where it is not found
module _ (n f : ℕ) (links : Links) (p : Proper n f links) (F sources r k : ℕ) where
  rows_alone : (x : ℕ) → Out (has (get_or (rows_in links) x 0)) x
  rows_alone x = rows_linked n f links p x x ∙ is_false (linked_in links x x) (λ e. p.other x x e refl)

  sound_small : sound n F < 256
  sound_small = let l = minus_small n (full n) F (full_small n) in let t : 2 ^ n ≤ 2 ^ 8 = pow_mono p.most in omega arith

  pub lost_cut : (flow_to (rows_of (linked_in links)) (minus (full n) F) sources r k).found ≡ false
      → CutOff n links F sources r k (cut_of (flow_to (rows_of (linked_in links)) (minus (full n) F) sources r k))
  lost_cut e =
      let (j, h, φ, v, q) = flow_lost (rows_in links) (sound n F) sources r k sound_small rows_alone e in
      cuts_valid n f links p F sources r j φ v (flow_to (rows_in links) (sound n F) sources r k) q e k h

  pub lost_weak : (flow_to (rows_of (linked_in links)) (minus (full n) F) sources r k).found ≡ false → In (has (minus (full n) F)) r
      → (j R : ℕ) × (j < k) × Unreached n links F sources r j R
  lost_weak e w =
      let (j, h, φ, v, q) = flow_lost (rows_in links) (sound n F) sources r k sound_small rows_alone e in
      (j, _, h, cut_weak n f links p F sources r j φ v (flow_to (rows_in links) (sound n F) sources r k) q e w)

  -- what is answered with a cut was not found, and the cut is that of the search
  cut_answer : (K : ℕ) → sought n links F sources r k ≡ cut K
      → ((flow_to (rows_in links) (sound n F) sources r k).found ≡ false) × (cut_of (flow_to (rows_in links) (sound n F) sources r k) ≡ K)
  unfolding separate_routes
  cut_answer K e =
      cases (flow_to (rows_in links) (sound n F) sources r k).found
      (λ g. let z : true ≡ false = cc in clash true refl z)
      (λ g. (g, cc))

pub cuts : Cuts
cuts n f links p F sources r k K e =
    let w = cut_answer n f links p F sources r k K e in
    rw w.1 at (lost_cut n f links p F sources r k w.0)
