-- The older rule and Theorem 1's condition, for links that all have a return.
--     rule_condition    if n is at least 3f + 1 and each K that separates has 2f + 1 servers or more, the condition holds
--     condition_apart   if the condition holds, each K that separates has 2f + 1 servers or more
-- Assumes nothing.
use mathlib.Core.Path.{◌≡◌, ◌∙◌}
use mathlib.Core.Logic.{inl, inr, ⊎_elim}
use mathlib.Core.Bool.{true, false, not, ◌&&◌, ◌||◌}
use Prim.Native.Nat.{ℕ, ◌+◌, ◌*◌, ◌≤◌, ◌<◌}
use native.Mathlib.Omega.{arith}
use lib.Dec.{ltb, leb}
use borrow.Author.Tests.{leb-true, leb-false}
use Rattle.facts.proofs.Bools.{cases, clash, and_left, and_right, or_cases, not_true}
use Rattle.sets.specs.Sets.{Set, Edges, In, Out, count}
use Rattle.sets.proofs.Counts.{count_mono, count_apart, count_all}
use Rattle.split.specs.Split.{some_below}
use Rattle.split.proofs.Neighbours.{some_at, none_at, none_of}
use Rattle.condition.specs.Condition.{neighbour, Arrow, joined, Partition, Some, Condition}
use Rattle.condition.proofs.Theorem.{arrow_cases}
use Rattle.two_way.specs.Least.{Separates}
use Rattle.two_way.proofs.Counting.{first_of, later_of, count_first, count_later, first_or_later, first_not_later}

-- a server that is no neighbour of B has no link to a server of B
not_neighbour : (n : ℕ) (E : Edges) (B : Set) (u v : ℕ) → v < n → neighbour n E B u ≡ false → In B v → Out (E u) v
unfolding neighbour
not_neighbour n E B u v k e b = let z = none_at n (λ (j : ℕ). B j && E u j) e v k in cc

no_neighbour : (n : ℕ) (E : Edges) (B : Set) (u : ℕ) → ((v : ℕ) → v < n → In B v → Out (E u) v) → neighbour n E B u ≡ false
unfolding neighbour
no_neighbour n E B u h = none_of n (λ (j : ℕ). B j && E u j) (λ v k. cases (B v) (λ x. let y = h v k x in cc) (λ x. cc))

-- From the rule to the condition. L is a side of a split, D the rest of V−F without it: what L hears from D are at most f servers, which with F
-- would separate L from what is left of D. So nothing is left of it.
module _ (n f : ℕ) (E : Edges) (back : (u v : ℕ) → E u v ≡ E v u) (apart : (K L R : Set) → Separates n E K L R → 2 * f + 1 ≤ count n K)
    (F L D : Set) (whole : (i : ℕ) → i < n → (F i || (L i || D i)) ≡ true)
    (FL : (i : ℕ) → i < n → In F i → In L i → ⊥) (FD : (i : ℕ) → i < n → In F i → In D i → ⊥) (LD : (i : ℕ) → i < n → In L i → In D i → ⊥)
    (some : Some n L) (few : count n F ≤ f) (weak : count n (λ (i : ℕ). D i && neighbour n E L i) ≤ f) where
  -- the servers of D that L hears, and those that it does not hear
  heard : Set
  heard i = D i && neighbour n E L i

  unheard : Set
  unheard i = D i && not (neighbour n E L i)

  abbrev cut : Set
  cut i = F i || heard i

  cut_few : count n cut ≤ 2 * f
  unfolding heard
  cut_few = let a = count_apart n F heard (λ i k x y. FD i k x (and_left (D i) (neighbour n E L i) y)) in omega arith

  separated : Some n unheard → Separates n E cut L unheard
  unfolding heard unheard
  separated r =
      record {
        whole = λ i k.
            let w = whole i k in
            cases (F i) (λ x. cc) λ x. cases (L i) (λ y. cases (D i && neighbour n E L i) (λ z. cc) (λ z. cc)) λ y. cases (neighbour n E L i) (λ z. cc) (λ z. cc);
        KL = λ i k x y. ⊎_elim (λ h. FL i k h y) (λ h. LD i k y (and_left (D i) (neighbour n E L i) h)) (or_cases (F i) (D i && neighbour n E L i) x);
        KR = λ i k x y.
            ⊎_elim
            (λ h. FD i k h (and_left (D i) (not (neighbour n E L i)) y))
            (λ h. clash (neighbour n E L i) (and_right (D i) (neighbour n E L i) h) (not_true (neighbour n E L i) (and_right (D i) (not (neighbour n E L i)) y)))
            (or_cases (F i) (D i && neighbour n E L i) x);
        LR = λ i k x y. LD i k x (and_left (D i) (not (neighbour n E L i)) y);
        left = some;
        right = r;
        no_link_lr = λ u v h k x y.
            back u v ∙ not_neighbour n E L v u h (not_true (neighbour n E L v) (and_right (D v) (not (neighbour n E L v)) y)) x;
        no_link_rl = λ u v h k x y.
            not_neighbour n E L u v k (not_true (neighbour n E L u) (and_right (D u) (not (neighbour n E L u)) x)) y;
      }

  side_few : count n D ≤ f
  unfolding heard unheard
  side_few =
      cases (some_below n unheard)
      (λ e. let w = apart cut L unheard (separated (some_at n unheard e)) in let c = cut_few in absurd (omega arith))
      (λ e. let m = count_mono n D heard (λ i k x. let z = none_at n unheard e i k in cases (neighbour n E L i) (λ y. cc) (λ y. cc)) in omega arith)

-- each server of V is in exactly one of the sets of a split
module _ (n : ℕ) (F L C R : Set) (p : Partition n F L C R) where
  split_count : count n F + count n L + count n (joined R C) ≡ n
  split_count =
      let a = count_apart n L (joined R C) (λ i k x y. ⊎_elim (λ h. p.LR i k x h) (λ h. p.LC i k x h) (or_cases (R i) (C i) y)) in
      let b = count_apart n F (λ (i : ℕ). L i || joined R C i)
      (λ i k x y. ⊎_elim (λ h. p.FL i k x h) (λ h. ⊎_elim (λ g. p.FR i k x g) (λ g. p.FC i k x g) (or_cases (R i) (C i) h)) (or_cases (L i) (joined R C i) y)) in
      let c = count_all n (λ (i : ℕ). F i || (L i || joined R C i))
      (λ i k. let w = p.whole i k in cases (F i) (λ x. cc) λ x. cases (L i) (λ y. cc) λ y. cases (R i) (λ z. cc) (λ z. cases (C i) (λ t. cc) (λ t. cc))) in
      omega arith

  -- the same with L and R exchanged
  turned : Partition n F R C L
  turned =
      record {
        whole = λ i k. let w = p.whole i k in cases (F i) (λ x. cc) λ x. cases (R i) (λ y. cc) λ y. cases (C i) (λ z. cc) (λ z. cases (L i) (λ t. cc) (λ t. cc));
        FL = p.FR;
        FC = p.FC;
        FR = p.FL;
        LC = λ i k x y. p.CR i k y x;
        LR = λ i k x y. p.LR i k y x;
        CR = λ i k x y. p.LC i k y x;
      }

module _ (n f : ℕ) (E : Edges) (back : (u v : ℕ) → E u v ≡ E v u) where
  pub rule_condition : 3 * f + 1 ≤ n → ((K L R : Set) → Separates n E K L R → 2 * f + 1 ≤ count n K) → Condition n f E
  rule_condition wide apart F L C R p l r few =
      arrow_cases n f E (joined L C) R inl λ noR.
      arrow_cases n f E (joined R C) L inr λ noL.
      let a = faced F L C R p l few (omega arith) in
      let b = faced F R C L (turned n F L C R p) r few (omega arith) in
      let s = split_count n F L C R p in
      let m = count_mono n L (joined L C) (λ i k x. cc) in
      absurd (omega arith)
    where
      faced : (F L C R : Set) → Partition n F L C R → Some n L → count n F ≤ f → count n (λ (i : ℕ). joined R C i && neighbour n E L i) ≤ f → count n (joined R C) ≤ f
      faced F L C R p l few weak =
          side_few n f E back apart F L (joined R C)
          (λ i k. let w = p.whole i k in cases (F i) (λ x. cc) λ x. cases (L i) (λ y. cc) λ y. cases (R i) (λ z. cc) (λ z. cases (C i) (λ t. cc) (λ t. cc)))
          p.FL
          (λ i k x y. ⊎_elim (λ h. p.FR i k x h) (λ h. p.FC i k x h) (or_cases (R i) (C i) y))
          (λ i k x y. ⊎_elim (λ h. p.LR i k x h) (λ h. p.LC i k x h) (or_cases (R i) (C i) y))
          l few weak

-- From the condition to the rule.
module _ (n f : ℕ) (E : Edges) (holds : Condition n f E) where
  -- a K of at most 2f servers is two sets of at most f
  module _ (K L R : Set) (w : Separates n E K L R) (small : count n K ≤ 2 * f) where
    abbrev F : Set
    F = first_of f K

    abbrev C : Set
    C = later_of f K

    split_up : Partition n F L C R
    split_up =
        record {
          whole = λ i k. let v = w.whole i k in let o = first_or_later f K i in cases (first_of f K i) (λ a. cc) λ a. cases (L i) (λ b. cc) λ b. cases (R i) (λ c. cases (later_of f K i) (λ d. cc) (λ d. cc)) (λ c. cases (later_of f K i) (λ d. cc) (λ d. cc));
          FL = λ i k a b. w.KL i k (and_left (K i) (ltb (count i K) f) a) b;
          FC = λ i k a b. first_not_later f K i a b;
          FR = λ i k a b. w.KR i k (and_left (K i) (ltb (count i K) f) a) b;
          LC = λ i k a b. w.KL i k (and_left (K i) (not (ltb (count i K) f)) b) a;
          LR = w.LR;
          CR = λ i k a b. w.KR i k (and_left (K i) (not (ltb (count i K) f)) a) b;
        }

    -- of what faces B only servers of C have a link into it
    only_c : (A B : Set) → ((u v : ℕ) → u < n → v < n → In A u → In B v → Out (E u) v) → Arrow n f E (joined A C) B → ⊥
    only_c A B none arrow =
        let c = count_later n f f K (omega arith) in
        let m = count_mono n (λ (i : ℕ). joined A C i && neighbour n E B i) C
        (λ i k e. let b = and_right (joined A C i) (neighbour n E B i) e in
        ⊎_elim
        (λ a. clash (neighbour n E B i) b (no_neighbour n E B i (λ v l q. none i v k l a q)))
        (λ a. a)
        (or_cases (A i) (C i) (and_left (joined A C i) (neighbour n E B i) e))) in
        omega arith

    split_breaks : ⊥
    split_breaks =
        ⊎_elim (only_c L R w.no_link_lr) (only_c R L w.no_link_rl) (holds F L C R split_up w.left w.right (count_first n f K))

  pub condition_apart : (K L R : Set) → Separates n E K L R → 2 * f + 1 ≤ count n K
  condition_apart K L R w =
      cases (leb (2 * f + 1) (count n K))
      (λ e. leb-true (2 * f + 1) (count n K) e)
      (λ e. let m = leb-false (2 * f + 1) (count n K) e in absurd (split_breaks K L R w (omega arith)))
