-- A quorum that meets every weak set and needs each of its servers, in a network without a bad split.
--     Quorum            such a set
--     quorum_few        it has at most f + 1 servers
--     quorum_many       and no fewer
--     quorum_joined     a set with a server of the quorum and without an incoming neighbour outside F has all of the quorum
-- For each server x of the quorum there is a weak set Rx that has no other server of it. Joining these sets one after the other, each takes one
-- incoming neighbour at least away: what the sets so far share with the next is not empty, as weak sets meet, and has no server of the quorum, so
-- it is not weak and has more than f incoming neighbours; by `outside_sub` the union has fewer than before. So there are at most f + 1 of them.
-- Assumes nothing.
use mathlib.Core.Path.{◌≡◌, refl, sym, ap, ◌∙◌}
use mathlib.Core.Logic.{◌⊎◌, inl, inr, ⊎_elim}
use mathlib.Core.Bool.{true, false, not, ◌&&◌}
use Prim.Native.Nat.{ℕ, zero, suc, ◌+◌, ◌*◌, ◌^◌, ◌≤◌, ◌<◌}
use native.Mathlib.Omega.{arith}
use lib.Dec.{eqb, leb}
use borrow.Author.Tests.{eqb-true, eqb-false, leb-true, leb-false}
use Rattle.facts.proofs.Bools.{cases, clash, both, or_cases, bools}
use Rattle.sets.specs.Sets.{In, Out, has, single, union, meet, minus, full, count, size}
use Rattle.sets.proofs.Members.{has_meet, has_union, has_empty, union_small, meet_small, minus_small}
use Rattle.sets.proofs.Counts.{count_mono, size_count}
use Rattle.network.specs.Links.{Links}
use Rattle.split.specs.Split.{good, first_bad, incoming}
use Rattle.split.specs.Weak.{outside, weak}
use Rattle.condition.proofs.Partitions.{member_of}
use Rattle.planner.specs.Choice.{meets_all}
use Rattle.planner.proofs.Submodular.{outside_sub}
use Rattle.planner.proofs.WeakSets.{weak_apart, weak_few, weak_of, weak_meets_weak}
use Rattle.flow.proofs.Membership.{has_both, has_left, left_has, only_out}
use Rattle.planner.proofs.Hitting.{sound_has, has_sound, sound_small, sound_count, Missed, meets_at, meets_not}

pub record Quorum (n f : ℕ) (links : Links) (F S : ℕ) : Type 0 where
  pub inside : (x : ℕ) → In (has S) x → (x < n) × Out (has F) x
  pub meets : meets_all n f links F S ≡ true
  pub needs : (x : ℕ) → In (has S) x → meets_all n f links F (minus S (single x)) ≡ false

module _ (n f : ℕ) (links : Links) (few : n ≤ 8) (g : first_bad n f links ≡ good) (F : ℕ) (small : F < 2 ^ n) (bound : size F ≤ f) (S : ℕ) (q : Quorum n f links F S) where
  -- the weak set with no other server of the quorum than x
  own : (x : ℕ) → In (has S) x → Missed n f links few F small (minus S (single x))
  own x h = meets_not n f links few F small (minus S (single x)) (q.needs x h)

  own_alone : (x : ℕ) (h : In (has S) x) (y : ℕ) → In (has (own x h).set) y → In (has S) y → y ≡ x
  own_alone x h y a b =
      cases (eqb y x) (λ e. eqb-true y x e)
      (λ e. clash (has (minus S (single x)) y) (left_has S (single x) y b (only_out x y (eqb-false y x e))) ((own x h).apart y a))

  -- sets joined for the servers of the quorum below i
  record Joint (i : ℕ) : Type 0 where
    all : ℕ
    inside : all < 2 ^ n
    apart : (y : ℕ) → In (has all) y → Out (has F) y
    below : (y : ℕ) → In (has all) y → In (has S) y → y < i
    less : outside n links F all + count i (has S) ≤ f + 1
    first : ℕ
    first_inside : first < 2 ^ n
    first_weak : weak n f links F first ≡ true
    first_in_lem : (y : ℕ) → In (has first) y → In (has all) y

  joint_starts : (i : ℕ) → In (has S) i → count i (has S) ≡ 0 → Joint (suc i)
  unfolding count
  joint_starts i h z =
      let m = own i h in
      let w = weak_few n f links F m.set m.frail in
      record {
        all = m.set;
        inside = m.inside;
        apart = weak_apart n f links F m.set m.frail;
        below = λ y a b. let e = own_alone i h y a b in omega arith;
        less = rw h (omega arith);
        first = m.set;
        first_inside = m.inside;
        first_weak = m.frail;
        first_in_lem = λ y a. a;
      }

  joint_passes : (i : ℕ) → Out (has S) i → Joint i → Joint (suc i)
  unfolding count
  joint_passes i o j =
      record {
        all = j.all;
        inside = j.inside;
        apart = j.apart;
        below = λ y a b. let k = j.below y a b in omega arith;
        less = rw o j.less;
        first = j.first;
        first_inside = j.first_inside;
        first_weak = j.first_weak;
        first_in_lem = j.first_in_lem;
      }

  -- what the sets so far share with the next is not weak
  joint_shares : (i : ℕ) (h : In (has S) i) (j : Joint i) → f < outside n links F (meet j.all (own i h).set)
  joint_shares i h j =
      let m = own i h in
      let both = meet j.all m.set in
      let (x, k, a, b) = weak_meets_weak n f links few g F small bound j.first m.set j.first_inside m.inside j.first_weak m.frail in
      cases (leb (outside n links F both) f)
      (λ e. let w = weak_of n f links F both small x (shared_has j.all m.set x (j.first_in_lem x a) b) (λ y t. j.apart y (has_both j.all m.set y t).0) (leb-true (outside n links F both) f e) in
      let (y, l, c, d) = meets_at n f links few F small S q.meets both (meet_small n j.all m.set j.inside m.inside) w in
      let (c0, c1) = has_both j.all m.set y c in
      let s = j.below y c0 d in
      let t = own_alone i h y c1 d in
      absurd (omega arith))
      (λ e. leb-false (outside n links F both) f e)
    where
      shared_has : (a b x : ℕ) → In (has a) x → In (has b) x → In (has (meet a b)) x
      shared_has a b x c d = has_meet a b x ∙ both (has a x) (has b x) c d

  joint_joins : (i : ℕ) → In (has S) i → Joint i → Joint (suc i)
  unfolding count
  joint_joins i h j =
      let m = own i h in
      let s = joint_shares i h j in
      let o = outside_sub n links F j.all m.set in
      let w = weak_few n f links F m.set m.frail in
      let l = j.less in
      record {
        all = union j.all m.set;
        inside = union_small n j.all m.set j.inside m.inside;
        apart = λ y a. ⊎_elim (j.apart y) (weak_apart n f links F m.set m.frail y) (in_union j.all m.set y a);
        below = λ y a b. ⊎_elim (λ t. let k = j.below y t b in omega arith) (λ t. let e = own_alone i h y t b in omega arith) (in_union j.all m.set y a);
        less = rw h (omega arith);
        first = j.first;
        first_inside = j.first_inside;
        first_weak = j.first_weak;
        first_in_lem = λ y a. let z = j.first_in_lem y a in let u = has_union j.all m.set y in cc;
      }
    where
      in_union : (a b y : ℕ) → In (has (union a b)) y → In (has a) y ⊎ In (has b) y
      in_union a b y e = or_cases (has a y) (has b y) (sym (has_union a b y) ∙ e)

  joint : (i : ℕ) → (count i (has S) ≡ 0) ⊎ Joint i
  unfolding count
  joint zero = inl refl
  joint (suc i) =
      cases (has S i)
      (λ h. inr (⊎_elim (joint_starts i h) (joint_joins i h) (joint i)))
      (λ h. ⊎_elim (λ z. inl (rw h z)) (λ j. inr (joint_passes i h j)) (joint i))

  pub quorum_few : count n (has S) ≤ f + 1
  quorum_few = ⊎_elim (λ z. omega arith) (λ j. let l = j.less in omega arith) (joint n)

  -- what the quorum leaves of V−F
  abbrev X : ℕ
  X = minus (minus (full n) F) S

  X-small : X < 2 ^ n
  X-small = minus_small n (minus (full n) F) S (sound_small n F)

  -- its incoming neighbours outside F are in the quorum
  left_few : outside n links F (minus (minus (full n) F) S) ≤ count n (has S)
  unfolding outside incoming
  left_few =
      count_mono n (λ (u : ℕ). not (has F u) && incoming n links (minus (minus (full n) F) S) u) (has S)
      (λ u k e. let a : has F u ≡ false = search bools in let b : has (minus (minus (full n) F) S) u ≡ false = search bools in
      cases (has S u) (λ s. s) (λ s. clash (has (minus (minus (full n) F) S) u) (left_has (minus (full n) F) S u (sound_has n F u k a) s) b))

  pub quorum_many : 3 * f + 1 ≤ n → f + 1 ≤ count n (has S)
  quorum_many wide =
      cases (leb (f + 1) (count n (has S)))
      (λ e. leb-true (f + 1) (count n (has S)) e)
      (λ e. let l = leb-false (f + 1) (count n (has S)) e in
      let c = sound_count n F in
      let s = size_count n F few small in
      let o = left_few in
      cases (eqb X 0)
      (λ z. let m = count_mono n (has (minus (full n) F)) (has S) (λ i k h. cases (has S i) (λ t. t) (λ t. clash (has X i) (left_has (minus (full n) F) S i h t) (ap (λ (s : ℕ). has s i) (eqb-true X 0 z) ∙ has_empty i))) in
      absurd (omega arith))
      (λ z. let (x, k, h) = member_of n X few X-small z in
      let w = weak_of n f links F X small x h (λ i t. (has_sound n F i (has_left (minus (full n) F) S i t).0).1) (omega arith) in
      let (y, j, a, b) = meets_at n f links few F small S q.meets X X-small w in
      clash (has S y) b (has_left (minus (full n) F) S y a).1))

  pub quorum_joined : (T : ℕ) → T < 2 ^ n → ((y : ℕ) → In (has T) y → Out (has F) y) → outside n links F T ≡ 0 → (r : ℕ) → In (has T) r → (s : ℕ) → In (has S) s → In (has T) s
  quorum_joined T k apart none r at s h =
      let m = own s h in
      let t = weak_of n f links F T small r at apart (omega arith) in
      let (x, l, a, b) = weak_meets_weak n f links few g F small bound T m.set k m.inside t m.frail in
      let o = outside_sub n links F T m.set in
      let w = weak_few n f links F m.set m.frail in
      let z = weak_of n f links F (meet T m.set) small x (has_meet T m.set x ∙ both (has T x) (has m.set x) a b) (λ y e. apart y (has_both T m.set y e).0) (omega arith) in
      let (y, j, c, d) = meets_at n f links few F small S q.meets (meet T m.set) (meet_small n T m.set k m.inside) z in
      let (c0, c1) = has_both T m.set y c in
      let e = own_alone s h y c1 d in
      rw e at c0
