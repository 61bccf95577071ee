-- The blocks that are written keep the rules, in a network without a bad split.
--     fan_found, mesh_found   the search finds the routes that a block has: what would cut them off would be a weak set that the quorum misses, or
--                             a set that has one server of the quorum and not another
--     fan_right, mesh_right   so the routes of 13 and 12 keep their rules
--     choice_quorum           the S that is chosen is a quorum that needs each of its servers
--     block_right             a block that is written is the due one, within the rules; order_right all of them
-- Assumes nothing.
use mathlib.Core.Path.{◌≡◌, refl, sym, ap, ap₂, subst, ◌∙◌}
use mathlib.Core.Logic.{◌⊎◌, inl, inr, ⊎_elim}
use mathlib.Core.Bool.{true, false, not, ◌&&◌, ◌||◌}
use mathlib.Core.List.Memᴰ
use mathlib.Core.List.{List, [], ◌∷◌, ◌++◌, map, Memᴰ}
use Prim.Native.Nat.{ℕ, ◌+◌, ◌-◌, ◌*◌, ◌^◌, ◌≤◌, ◌<◌}
use native.Mathlib.Omega.{arith}
use lib.Dec.{eqb, ltb}
use lib.ListN.{length, replicate}
use borrow.Author.Tests.{eqb-true, eqb-false}
use Rattle.facts.specs.Lists.{Each}
use Rattle.facts.proofs.Bools.{cases, clash, both, is_false, by_cond, bools}
use Rattle.sets.specs.Sets.{In, has, single, meet, minus, within, full, count, size}
use Rattle.sets.proofs.Members.{has_meet, has_empty, within_in, same_all}
use Rattle.sets.proofs.Counts.{count_none, count_beyond, size_count, size_empty}
use Rattle.network.specs.Links.{Links, linked_in}
use Rattle.network.specs.Rows.{rows_of}
use Rattle.network.specs.Proper.{Proper}
use Rattle.split.specs.Split.{good, first_bad}
use Rattle.condition.proofs.Theorem.{good_condition}
use Rattle.condition.proofs.Wide.{condition_wide}
use Rattle.condition.proofs.Partitions.{member_of}
use Rattle.sets.specs.Members.{list_from, members}
use Rattle.plan.specs.Due.{DueBlock, is_part, due}
use Rattle.rules.specs.Blocks.{source_of, receiver_of, Report}
use Rattle.rules.specs.Rules.{IsRoute, AllSeparate, repeated, Fan, sources_for, pairs_of, ends_of, Mesh, IsReport, reports_to, InBlock, InOrder}
use Rattle.rules.proofs.Lists.{members_in}
use Rattle.rules.proofs.Groups.{each_cons, each_append, separate_append}
use Rattle.rules.proofs.Fans.{Different, members_different, in_repeated, map_join, map_same}
use Rattle.rules.proofs.Order.{due_in}
use Rattle.flow.specs.Search.{Sought, flow_to}
use Rattle.flow.specs.Routes.{separate_routes}
use Rattle.flow.specs.Theorems.{Found}
use Rattle.flow.proofs.Finding.{finds}
use Rattle.flow.proofs.Cutting.{lost_weak}
use Rattle.planner.specs.Choice.{meets_all, side_of, quorum_of}
use Rattle.planner.specs.Plan.{routes_to, fans_to, mesh_of, report_to, block_with, block_of, plan_of}
use Rattle.planner.proofs.WeakSets.{weak_of}
use Rattle.flow.proofs.Membership.{has_left, left_has, within_of, has_only, only_out, only_has}
use Rattle.planner.proofs.Hitting.{has_sound, sound_has, sound_small, sound_count, meets_at, side_meets, thinned_inside, thinned_meets, thinned_needs}
use Rattle.planner.proofs.Quorums.{Quorum, quorum_few, quorum_many, quorum_joined}
use Rattle.planner.proofs.Reporters.{report_right}

-- a list of one, by its image
map_one : {A B : Type 0} (h : A → B) (xs : List A) (y : B) → length xs ≡ 1 → Each (λ x. h x ≡ y) xs → map h xs ≡ y ∷ []
map_one h [] y l e = absurd (omega arith)
map_one {A} {B} h (x ∷ []) y l e = ap (λ (z : B). z ∷ []) (e x (Memᴰ.head refl))
map_one h (x ∷ x' ∷ xs) y l e = absurd (omega arith)

-- what holds of each pair of a receiver and another server as its source

one_each : (Q : ℕ → ℕ → Type 0) (r : ℕ) (ss : List ℕ) → ((s : ℕ) → Memᴰ s ss → (s ≡ r → ⊥) → Q r s) → Each (λ (e : ℕ × ℕ). Q e.0 e.1) (sources_for r ss)
unfolding sources_for
one_each Q r [] h = λ e m. elim m [ ]
one_each Q r (s ∷ ss) h =
    let ih = one_each Q r ss (λ x m. h x (Memᴰ.tail m)) in
    by_cond (λ (l : List (ℕ × ℕ)). Each (λ (e : ℕ × ℕ). Q e.0 e.1) l) (eqb s r) (sources_for r ss) ((r, s) ∷ sources_for r ss)
    (λ e. ih)
    (λ e. each_cons (λ (e : ℕ × ℕ). Q e.0 e.1) (r, s) (sources_for r ss) (h s (Memᴰ.head refl) (eqb-false s r e)) ih)

pair_each : (Q : ℕ → ℕ → Type 0) (ss rs : List ℕ) → ((r s : ℕ) → Memᴰ r rs → Memᴰ s ss → (s ≡ r → ⊥) → Q r s) → Each (λ (e : ℕ × ℕ). Q e.0 e.1) (pairs_of ss rs)
unfolding pairs_of
pair_each Q ss [] h = λ e m. elim m [ ]
pair_each Q ss (r ∷ rs) h =
    each_append (λ (e : ℕ × ℕ). Q e.0 e.1) (sources_for r ss) (pairs_of ss rs) (one_each Q r ss (λ s. h r s (Memᴰ.head refl))) (pair_each Q ss rs (λ x s m. h x s (Memᴰ.tail m)))

-- reports

report_to_lem : (links : Links) (W k r : ℕ) → reports_to (report_to links W k r) ≡ r
unfolding report_to
report_to_lem links W k r = refl

told_all : (h : ℕ → Report) (ks : List ℕ) → ((k : ℕ) → reports_to (h k) ≡ k) → map reports_to (map h ks) ≡ ks
told_all h [] e = refl
told_all h (k ∷ ks) e = ap₂ (λ (x : ℕ) (l : List ℕ). x ∷ l) (e k) (told_all h ks e)

pub each_map : {A B : Type 0} (h : A → B) (P : B → Type 0) (xs : List A) → ((x : A) → Memᴰ x xs → P (h x)) → Each P (map h xs)
each_map h P [] e = λ y m. elim m [ ]
each_map h P (x ∷ xs) e = each_cons P (h x) (map h xs) (e x (Memᴰ.head refl)) (each_map h P xs (λ y m. e y (Memᴰ.tail m)))

members_none : members 0 ≡ []
unfolding members list_from has
members_none = refl

-- parts of a cut

part_inside : (W P : ℕ) → is_part W P ≡ true → within P W ≡ true
unfolding is_part
part_inside W P e = search bools

module _ (n f : ℕ) (links : Links) (p : Proper n f links) (g : first_bad n f links ≡ good) where
  side_one : (F P : ℕ) → (side_of n f links F P ≡ P) ⊎ (side_of n f links F P ≡ minus (minus (full n) F) P)
  unfolding side_of
  side_one F P =
      cases (meets_all n f links F P && (not (meets_all n f links F (minus (minus (full n) F) P)) || ltb (quorum_of n f links F P) (quorum_of n f links F (minus (minus (full n) F) P))))
      (λ e. inl (rw e refl)) (λ e. inr (rw e refl))

  side_inside : (F P : ℕ) → within P (minus (full n) F) ≡ true → within (side_of n f links F P) (minus (full n) F) ≡ true
  side_inside F P w =
      ⊎_elim (λ e. rw e w) (λ e. rw e (within_of (minus (minus (full n) F) P) (minus (full n) F) (λ i h. (has_left (minus (full n) F) P i h).0))) (side_one F P)

  pub network_wide : 3 * f + 1 ≤ n
  network_wide = condition_wide n f (linked_in links) (good_condition n f links p.most g) p.least

  -- what the search answers for a fan
  abbrev answer : (F sources r k : ℕ) → Sought
  answer F sources r k = flow_to (rows_of (linked_in links)) (minus (full n) F) sources r k

  found_routes : (F sources r k : ℕ) → (answer F sources r k).found ≡ true → Found n links F sources r k (routes_to (rows_of (linked_in links)) (minus (full n) F) sources k r)
  unfolding routes_to separate_routes
  found_routes F sources r k e = finds n f links p F sources r k (routes_to (rows_of (linked_in links)) (minus (full n) F) sources k r) (rw e refl)

  module _ (F : ℕ) (small : F < 2 ^ n) (bound : size F ≤ f) where
    some_sound : (x : ℕ) × In (has (minus (full n) F)) x
    some_sound =
        let c = sound_count n F in
        let w = network_wide in
        let s = size_count n F p.most small in
        let z : eqb (minus (full n) F) 0 ≡ false = is_false (eqb (minus (full n) F) 0) (λ e. let q = eqb-true (minus (full n) F) 0 e in
        let d = count_none n (has (minus (full n) F)) (λ i k. ap (λ (s : ℕ). has s i) q ∙ has_empty i) in absurd (omega arith)) in
        let (x, k, h) = member_of n (minus (full n) F) p.most (sound_small n F) z in
        (x, h)

    module _ (S : ℕ) (q : Quorum n f links F S) where
      -- a server of V−F that is not the receiver is one that a route may start at
      source_kept : (sources r x : ℕ) → In (has sources) x → In (has (minus (full n) F)) x → (x ≡ r → ⊥) → In (has (meet sources (minus (minus (full n) F) (single r)))) x
      source_kept sources r x e w o =
          has_meet sources (minus (minus (full n) F) (single r)) x
          ∙ both (has sources x) (has (minus (minus (full n) F) (single r)) x) e (left_has (minus (full n) F) (single r) x w (only_out r x o))

      quorum_sound : (x : ℕ) → In (has S) x → In (has (minus (full n) F)) x
      quorum_sound x h = let (k, o) = q.inside x h in sound_has n F x k o

      pub fan_found : (r : ℕ) → In (has (minus (minus (full n) F) S)) r → (answer F S r (f + 1)).found ≡ true
      fan_found r e =
          cases (answer F S r (f + 1)).found (λ t. t)
          (λ t. let (w, o) = has_left (minus (full n) F) S r e in
          let (j, R, l, u) = lost_weak n f links p F S r (f + 1) t w in
          let b = u.few in
          let frail = weak_of n f links F R small r u.receiver (λ i h. (has_sound n F i (within_in R (minus (full n) F) u.inside i h)).1) (omega arith) in
          let (x, k, a, c) = meets_at n f links p.most F small S q.meets R u.small frail in
          absurd (u.sourceless x (source_kept S r x c (quorum_sound x c) (λ z. clash (has S r) (rw z at c) o)) a))

      pub mesh_found : (r s : ℕ) → In (has S) r → In (has S) s → (s ≡ r → ⊥) → (answer F (single s) r 1).found ≡ true
      mesh_found r s a b o =
          cases (answer F (single s) r 1).found (λ t. t)
          (λ t. let (j, R, l, u) = lost_weak n f links p F (single s) r 1 t (quorum_sound r a) in
          let d = u.few in
          let c = quorum_joined n f links p.most g F small bound S q R u.small (λ i h. (has_sound n F i (within_in R (minus (full n) F) u.inside i h)).1) (omega arith) r u.receiver s b in
          let k = (q.inside s b).0 in
          let m = p.most in
          absurd (u.sourceless s (source_kept (single s) r s (only_has s (omega arith)) (quorum_sound s b) o) c))

      -- the routes of 13, receiver by receiver
      fans_right : (rs : List ℕ) → Different rs → Each (λ r. In (has (minus (minus (full n) F) S)) r) rs
          → (map receiver_of (fans_to (rows_of (linked_in links)) (minus (full n) F) S (f + 1) rs) ≡ repeated (f + 1) rs) × Each (λ p. In (has S) (source_of p)) (fans_to (rows_of (linked_in links)) (minus (full n) F) S (f + 1) rs)
          × Each (IsRoute n links F) (fans_to (rows_of (linked_in links)) (minus (full n) F) S (f + 1) rs) × AllSeparate (fans_to (rows_of (linked_in links)) (minus (full n) F) S (f + 1) rs)
      unfolding fans_to repeated
      fans_right [] d h = (refl, λ p m. elim m [ ], λ p m. elim m [ ], tt)
      fans_right (r ∷ rs) d h =
          let us = routes_to (rows_of (linked_in links)) (minus (full n) F) S (f + 1) r in
          let vs = fans_to (rows_of (linked_in links)) (minus (full n) F) S (f + 1) rs in
          let u = found_routes F S r (f + 1) (fan_found r (h r (Memᴰ.head refl))) in
          let (order, start, each, apart) = fans_right rs d.1 (λ x m. h x (Memᴰ.tail m)) in (
            map_join receiver_of us vs ∙ ap (λ (l : List ℕ). l ++ map receiver_of vs) (map_same receiver_of us r u.end ∙ ap (λ (k : ℕ). replicate k r) u.many) ∙ ap (λ (l : List ℕ). replicate (f + 1) r ++ l) order,
            each_append (λ p. In (has S) (source_of p)) us vs u.start start,
            each_append (IsRoute n links F) us vs u.routes each,
            separate_append us vs u.separate apart (λ p m q o e. d.0 (receiver_of q) (in_repeated (f + 1) rs (receiver_of q) (subst (λ (l : List ℕ). Memᴰ (receiver_of q) l) order (Memᴰ.map receiver_of o))) (e ∙ u.end p m)),
          )

      pub fan_right : Fan n f links F S (minus (minus (full n) F) S) (fans_to (rows_of (linked_in links)) (minus (full n) F) S (f + 1) (members (minus (minus (full n) F) S)))
      fan_right =
          let (order, start, each, apart) = fans_right (members (minus (minus (full n) F) S)) (members_different (minus (minus (full n) F) S)) (λ r m. (members_in (minus (minus (full n) F) S) r m).0) in
          record { order = order; start = start; routes = each; separate = apart }

      -- the routes of 12, pair by pair
      one_right : (r s : ℕ) → In (has S) r → In (has S) s → (s ≡ r → ⊥) → (map ends_of (routes_to (rows_of (linked_in links)) (minus (full n) F) (single s) 1 r) ≡ (r, s) ∷ []) × Each (IsRoute n links F) (routes_to (rows_of (linked_in links)) (minus (full n) F) (single s) 1 r)
      one_right r s a b o =
          let u = found_routes F (single s) r 1 (mesh_found r s a b o) in
          (map_one ends_of (routes_to (rows_of (linked_in links)) (minus (full n) F) (single s) 1 r) (r, s) u.many (λ p m. ap₂ (λ (x y : ℕ). (x, y)) (u.end p m) (has_only s (source_of p) (u.start p m))), u.routes)

      meshes_right : (es : List (ℕ × ℕ)) → Each (λ (e : ℕ × ℕ). In (has S) e.0 × In (has S) e.1 × (e.1 ≡ e.0 → ⊥)) es
          → (map ends_of (mesh_of (rows_of (linked_in links)) (minus (full n) F) es) ≡ es) × Each (IsRoute n links F) (mesh_of (rows_of (linked_in links)) (minus (full n) F) es)
      unfolding mesh_of
      meshes_right [] h = (refl, λ p m. elim m [ ])
      meshes_right (e ∷ es) h =
          let us = routes_to (rows_of (linked_in links)) (minus (full n) F) (single e.1) 1 e.0 in
          let vs = mesh_of (rows_of (linked_in links)) (minus (full n) F) es in
          let (a, b, o) = h e (Memᴰ.head refl) in
          let (ends, each) = one_right e.0 e.1 a b o in
          let (order, others) = meshes_right es (λ x m. h x (Memᴰ.tail m)) in
          (map_join ends_of us vs ∙ ap₂ (λ (k l : List (ℕ × ℕ)). k ++ l) ends order, each_append (IsRoute n links F) us vs each others)

      pub mesh_right : Mesh n links F S (mesh_of (rows_of (linked_in links)) (minus (full n) F) (pairs_of (members S) (members S)))
      mesh_right =
          let (order, each) = meshes_right (pairs_of (members S) (members S)) (pair_each (λ (r s : ℕ). In (has S) r × In (has S) s × (s ≡ r → ⊥)) (members S) (members S) (λ r s a b o. ((members_in S r a).0, (members_in S s b).0, o))) in
          record { order = order; routes = each }

    -- the choice of S

    module _ (A : ℕ) (inside : within A (minus (full n) F) ≡ true) (meets : meets_all n f links F A ≡ true) where
      pub choice_quorum : Quorum n f links F (quorum_of n f links F A)
      unfolding quorum_of
      choice_quorum =
          record {
            inside = λ x h. has_sound n F x (within_in A (minus (full n) F) inside x (thinned_inside n f links p.most F small _ A x h));
            meets = thinned_meets n f links p.most F small _ A meets;
            needs = λ x h. let b = (has_sound n F x (within_in A (minus (full n) F) inside x (thinned_inside n f links p.most F small _ A x h))).0 in
                let m = p.most in
                thinned_needs n f links p.most F small _ A x (omega arith) (omega arith) h;
          }

      abbrev S : ℕ
      S = quorum_of n f links F A

      pub choice_size : size S ≡ f + 1
      unfolding size
      choice_size =
          let q = choice_quorum in
          let m = p.most in
          let e : 8 - n + n ≡ 8 = omega arith in
          let b = count_beyond n (8 - n) (has S) (λ i h. is_false (has S i) λ t. let k = (q.inside i t).0 in absurd (omega arith)) in
          let a = quorum_few n f links p.most g F small bound S q in
          let c = quorum_many n f links p.most g F small bound S q network_wide in
          let z : count 8 (has S) ≡ count n (has S) = rw e at b in
          omega arith

      -- S lies within A
      nothing_inward : minus S A ≡ 0
      unfolding quorum_of
      nothing_inward = same_all (minus S A) 0 (λ x. is_false (has (minus S A) x) (λ h. let (a, o) = has_left S A x h in clash (has A x) (thinned_inside n f links p.most F small _ A x a) o) ∙ sym (has_empty x))

      fan_nothing : Fan n f links F A (minus S A) []
      unfolding repeated
      fan_nothing = record { order = sym (ap (λ (s : ℕ). repeated (f + 1) (members s)) nothing_inward ∙ ap (repeated (f + 1)) members_none); start = λ p m. elim m [ ]; routes = λ p m. elim m [ ]; separate = tt }

      block_with_lem : (d : DueBlock) → d.faults ≡ F → (A ≡ d.part) ⊎ (A ≡ minus (minus (full n) F) d.part) → InBlock n f links d (block_with n f links F A S)
      unfolding block_with
      block_with_lem d e side =
          let q = choice_quorum in
          let z = choice_size in
          record {
            faults = sym e;
            side = rw e side;
            some = λ t. let y = ap size t ∙ size_empty in absurd (omega arith);
            inside = within_of S (minus (full n) F) (λ i h. let (k, o) = q.inside i h in sound_has n F i k o);
            inward = fan_nothing;
            among = mesh_right S q;
            outward = fan_right S q;
            told = told_all (report_to links (minus (full n) F) (f + 1)) (members F) (λ k. report_to_lem links (minus (full n) F) (f + 1) k);
            reports = each_map (report_to links (minus (full n) F) (f + 1)) (IsReport n f links F) (members F) (λ k m. report_right n f links p.most F k g small bound (members_in F k m).0 some_sound);
          }

  pub block_right : (d : DueBlock) → Memᴰ d (due n f) → InBlock n f links d (block_of n f links d)
  unfolding block_of
  block_right d m =
      let (small, bound, part) = due_in n f d m in
      let F = d.faults in
      let A = side_of n f links F d.part in
      block_with_lem F small bound A (side_inside F d.part (part_inside (minus (full n) F) d.part part)) (side_meets n f links p.most F small g bound d.part) d refl (side_one F d.part)

  -- its S has f + 1 servers, all in A
  pub block_quorum : (d : DueBlock) → Memᴰ d (due n f) → (size (block_of n f links d).quorum ≡ f + 1) × (minus (block_of n f links d).quorum (block_of n f links d).side ≡ 0)
  unfolding block_of block_with
  block_quorum d m =
      let (small, bound, part) = due_in n f d m in
      let F = d.faults in
      let inside = side_inside F d.part (part_inside (minus (full n) F) d.part part) in
      let meets = side_meets n f links p.most F small g bound d.part in
      let A = side_of n f links F d.part in
      (choice_size F small bound A inside meets, nothing_inward F small bound A inside meets)

  orders : (ds : List DueBlock) → Each (λ d. Memᴰ d (due n f)) ds → InOrder n f links ds (map (block_of n f links) ds)
  orders [] h = tt
  orders (d ∷ ds) h = (block_right d (h d (Memᴰ.head refl)), orders ds (λ x m. h x (Memᴰ.tail m)))

  pub order_right : InOrder n f links (due n f) (plan_of n f links)
  unfolding plan_of
  order_right = orders (due n f) (λ d m. m)
