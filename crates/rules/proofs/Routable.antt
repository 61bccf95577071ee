-- A routable network meets Theorem 1's condition, for partitions into arbitrary sets.
--     routable_condition   the theorem
-- Let F, L, C, R be a partition, and take A and S of the cut of V−F into L and C∪R. A server of R that is not in S has its routes from S, and one that is
-- in S but not in A has its routes from A. If S misses R, or meets it with A = L, these start outside R, so they cross more than f incoming neighbours of
-- R. In the same way for L, if S misses it, or meets it with A = C∪R; and one of the four is the case. Assumes nothing.
use mathlib.Core.Path.{◌≡◌, sym, ◌∙◌}
use mathlib.Core.Logic.{◌⊎◌, inl, inr, ⊎_elim}
use mathlib.Core.Bool.{true, false, not, ◌&&◌}
use mathlib.Core.List.{List}
use Prim.Native.Nat.{ℕ, ◌≤◌, ◌<◌}
use native.Mathlib.Omega.{arith}
use borrow.Author.Tests.{lt-ltb}
use Rattle.facts.proofs.Bools.{cases, clash, is_false, and_left, and_right, both, not_true}
use Rattle.sets.specs.Sets.{Set, In, Out, has, minus, full, count, encode}
use Rattle.sets.proofs.Members.{has_minus, has_full, minus_small, full_small, encode_has, encode_small, in_within}
use Rattle.sets.proofs.Counts.{count_same, count_mono, count_some}
use Rattle.network.specs.Links.{Links, linked_in}
use Rattle.split.specs.Split.{some_below}
use Rattle.split.proofs.Neighbours.{some_at, none_at}
use Rattle.condition.specs.Condition.{neighbour, Arrow, joined, Partition, Some, Condition}
use Rattle.rules.specs.Blocks.{Route}
use Rattle.rules.specs.Routable.{Disjoint, Propagates, Cut, Served, Routable}
use Rattle.rules.proofs.SeparateRoutes.{fan_crosses}

module _ (n f : ℕ) (links : Links) (F L C R : Set) (p : Partition n F L C R) (l : Some n L) (r : Some n R) (few : count n F ≤ f) where
  -- the sets as numbers
  abbrev faults : ℕ
  faults = encode n F

  abbrev left : ℕ
  left = encode n L

  has_outside : (i : ℕ) → i < n → has (minus (full n) faults) i ≡ not (F i)
  has_outside i k =
      let a = has_minus (full n) faults i in
      let b = has_full n i in
      let c = lt-ltb i n k in
      let e = encode_has n F i k in
      cc

  cut : Cut n faults left
  cut =
      record {
        inside = in_within n left (minus (full n) faults) (encode_small n L) (minus_small n (full n) faults (full_small n)) sound;
        some = let c = count_some n (has left) l.0 l.1 (encode_has n L l.0 l.1 ∙ l.2) in omega arith;
        others = let c = count_some n (λ (i : ℕ). not (has faults i) && not (has left i)) r.0 r.1 outside in omega arith;
      }
    where
      sound : (i : ℕ) → i < n → has left i ≡ true → has (minus (full n) faults) i ≡ true
      sound i k e =
          let a = is_false (F i) (λ x. p.FL i k x (sym (encode_has n L i k) ∙ e)) in
          let b = has_outside i k in
          cc

      outside : (not (has faults r.0) && not (has left r.0)) ≡ true
      outside =
          let (i, k, e) = r in
          let a = is_false (F i) (λ x. p.FR i k x e) in
          let b = is_false (L i) (λ x. p.LR i k x e) in
          let c = encode_has n F i k in
          let d = encode_has n L i k in
          cc

  -- X has all of V−F outside Y, and Y has none of F
  module _ (X Y : Set) (faces : (i : ℕ) → i < n → Out F i → Out Y i → In X i) (sound : (i : ℕ) → i < n → In Y i → Out F i) where
    entered : (A y : ℕ) → In Y y → ((i : ℕ) → i < n → In (has A) i → Out Y i) → (ps : List Route) × Disjoint n f links faults A y ps → Arrow n f (linked_in links) X Y
    entered A y into out (ps, d) =
        let a = fan_crosses n f links faults A y ps d Y into out in
        let m = count_mono n (λ (i : ℕ). (not (has faults i) && not (Y i)) && neighbour n (linked_in links) Y i) (λ (i : ℕ). X i && neighbour n (linked_in links) Y i) (λ i k e. faced i k e) in
        omega arith
      where
        faced : (i : ℕ) → i < n → ((not (has faults i) && not (Y i)) && neighbour n (linked_in links) Y i) ≡ true → (X i && neighbour n (linked_in links) Y i) ≡ true
        faced i k e =
            let u = and_left (not (has faults i) && not (Y i)) (neighbour n (linked_in links) Y i) e in
            let v = and_right (not (has faults i) && not (Y i)) (neighbour n (linked_in links) Y i) e in
            let a = not_true (has faults i) (and_left (not (has faults i)) (not (Y i)) u) in
            let b = not_true (Y i) (and_right (not (has faults i)) (not (Y i)) u) in
            both (X i) (neighbour n (linked_in links) Y i) (faces i k (sym (encode_has n F i k) ∙ a) b) v

    -- S misses Y
    missed : (S : ℕ) → Propagates n f links faults S (minus (minus (full n) faults) S) → Some n Y → some_below n (λ (i : ℕ). has S i && Y i) ≡ false
        → Arrow n f (linked_in links) X Y
    missed S outward (y, k, into) none = entered S y into apart (outward y there)
      where
        apart : (i : ℕ) → i < n → In (has S) i → Out Y i
        apart i h e = let z = none_at n (λ (i : ℕ). has S i && Y i) none i h in cc

        there : has (minus (minus (full n) faults) S) y ≡ true
        there =
            let a = has_minus (minus (full n) faults) S y in
            let b = has_outside y k in
            let c = sound y k into in
            let d = is_false (has S y) (λ x. clash (Y y) into (apart y k x)) in
            cc

    -- S meets Y, and A does not
    met : (A S : ℕ) → Propagates n f links faults A (minus S A) → ((i : ℕ) → i < n → In (has A) i → Out Y i) → some_below n (λ (i : ℕ). has S i && Y i) ≡ true
        → Arrow n f (linked_in links) X Y
    met A S inward out some =
        let (y, k, e) = some_at n (λ (i : ℕ). has S i && Y i) some in
        let s = and_left (has S y) (Y y) e in
        let into = and_right (has S y) (Y y) e in
        let a = is_false (has A y) (λ x. clash (Y y) into (out y k x)) in
        let b = has_minus S A y in
        entered A y into out (inward y (cc))

  arrow : Served n f links faults left → Arrow n f (linked_in links) (joined L C) R ⊎ Arrow n f (linked_in links) (joined R C) L
  arrow s =
      cases (some_below n (λ (i : ℕ). has s.quorum i && R i))
      (λ a.
      cases (some_below n (λ (i : ℕ). has s.quorum i && L i))
      (λ b. ⊎_elim (λ e. inl (to_r_lem (λ i k x. left_r i k (rw e at x)) a)) (λ e. inr (to_l (λ i k x. rest_l i k (rw e at x)) b)) s.part)
      (λ b. inr (missed (joined R C) L faces_l sound_l s.quorum s.outward l b)))
      (λ a. inl (missed (joined L C) R faces_r sound_r s.quorum s.outward r a))
    where
      sound_r : (i : ℕ) → i < n → In R i → Out F i
      sound_r i k e = is_false (F i) (λ x. p.FR i k x e)

      sound_l : (i : ℕ) → i < n → In L i → Out F i
      sound_l i k e = is_false (F i) (λ x. p.FL i k x e)

      faces_r : (i : ℕ) → i < n → Out F i → Out R i → In (joined L C) i
      faces_r i k a b = let w = p.whole i k in cases (L i) (λ x. cc) (λ x. cases (C i) (λ y. cc) (λ y. cc))

      faces_l : (i : ℕ) → i < n → Out F i → Out L i → In (joined R C) i
      faces_l i k a b = let w = p.whole i k in cases (R i) (λ x. cc) (λ x. cases (C i) (λ y. cc) (λ y. cc))

      to_r_lem : ((i : ℕ) → i < n → In (has s.side) i → Out R i) → some_below n (λ (i : ℕ). has s.quorum i && R i) ≡ true → Arrow n f (linked_in links) (joined L C) R
      to_r_lem = met (joined L C) R faces_r sound_r s.side s.quorum s.inward

      to_l : ((i : ℕ) → i < n → In (has s.side) i → Out L i) → some_below n (λ (i : ℕ). has s.quorum i && L i) ≡ true → Arrow n f (linked_in links) (joined R C) L
      to_l = met (joined R C) L faces_l sound_l s.side s.quorum s.inward

      -- A is L
      left_r : (i : ℕ) → i < n → has left i ≡ true → Out R i
      left_r i k x = is_false (R i) (λ y. p.LR i k (sym (encode_has n L i k) ∙ x) y)

      -- A is the rest of V−F
      rest_l : (i : ℕ) → i < n → has (minus (minus (full n) faults) left) i ≡ true → Out L i
      rest_l i k x =
          let a = has_minus (minus (full n) faults) left i in
          let b = encode_has n L i k in
          sym b ∙ not_true (has left i) (and_right (has (minus (full n) faults) i) (not (has left i)) (sym a ∙ x))

pub routable_condition : (n f : ℕ) (links : Links) → Routable n f links → Condition n f (linked_in links)
routable_condition n f links h F L C R p l r few =
    let small = encode_small n F in
    let same = count_same n (has (encode n F)) F (encode_has n F) in
    arrow n f links F L C R p l r few (h (encode n F) small (omega arith) (encode n L) (cut n f links F L C R p l r few))
