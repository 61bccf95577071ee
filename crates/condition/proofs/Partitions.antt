-- The test of a split by numbers, and the paper's broken partition.
--     breaks_broken   numbers that pass the test are a partition that breaks the condition
--     broken_breaks   sets that break the condition have numbers that pass the test
--     member_of, of_member     a number that is not 0 has a member, and one whose members are those of a set with some is not 0
--     empty_apart, apart_empty   sets with an empty meet share no server, and the other way
-- Only servers below n count, so a set is known by the number that agrees with it there. The set C is what the other three leave.
-- Assumes nothing.
use mathlib.Core.Path.{◌≡◌, refl, sym, ap, ◌∙◌}
use mathlib.Core.Logic.{⊎_elim}
use mathlib.Core.Bool.{Bool, true, false, not, ◌&&◌, ◌||◌}
use Prim.Native.Nat.{ℕ, ◌^◌, ◌≤◌, ◌<◌}
use native.Mathlib.Omega.{arith}
use lib.Dec.{eqb, leb, ltb}
use lib.Pow.{pow-lt}
use borrow.Author.Tests.{eqb-true, eqb-false, eq-eqb, ne_eqb, leb-true, leb-false, le-leb, lt-ltb, ltb-true, ltb-false}
use Rattle.facts.proofs.Bools.{cases, clash, is_false, both, or_cases, bools}
use Rattle.sets.specs.Sets.{Set, In, has, union, meet, minus, full, count, size, lowest}
use Rattle.sets.proofs.Members.{has_union, has_meet, has_minus, has_full, has_empty, has_below, no_member, meet_small}
use Rattle.sets.proofs.Counts.{count_same, size_count}
use Rattle.sets.proofs.LowestMember.{lowest_in}
use Rattle.network.specs.Links.{Links, linked_in}
use Rattle.split.specs.Split.{rest, held, is_split, is_bad}
use Rattle.condition.specs.Condition.{neighbour, Arrow, joined, Partition, Some, Broken}
use Rattle.split.proofs.Search.{breaks}
use Rattle.condition.proofs.Neighbours.{Agree, Apart, held_count}

-- emptiness

small_byte : (n s : ℕ) → n ≤ 8 → s < 2 ^ n → s < 256
small_byte n s h k =
    cases (ltb n 8)
    (λ q. let m = pow-lt {i = n} {j = 8} (ltb-true n 8 q) in omega arith)
    (λ q. let m = ltb-false n 8 q in let e : n ≡ 8 = omega arith in rw e at k)

pub member_of : (n s : ℕ) → n ≤ 8 → s < 2 ^ n → eqb s 0 ≡ false → Some n (has s)
member_of n s h k e =
    let m = lowest_in s (small_byte n s h k) (eqb-false s 0 e) in
    (lowest s, has_below n s (lowest s) k m, m)

pub of_member : (n s : ℕ) (p : Set) → Agree n s p → Some n p → eqb s 0 ≡ false
of_member n s p a (i, k, e) =
    ne_eqb s 0 (λ q. clash (p i) e (sym (a i k) ∙ ap (λ (s : ℕ). has s i) q ∙ has_empty i))

-- disjointness

pub empty_apart : (n a b : ℕ) → eqb (meet a b) 0 ≡ true → Apart n (has a) (has b)
empty_apart n a b e i k p q =
    let z : has (meet a b) i ≡ false = ap (λ (s : ℕ). has s i) (eqb-true (meet a b) 0 e) ∙ has_empty i in
    clash (has (meet a b) i) (has_meet a b i ∙ both (has a i) (has b i) p q) z

pub apart_empty : (n a b : ℕ) (p q : Set) → a < 2 ^ n → b < 2 ^ n → Agree n a p → Agree n b q → Apart n p q → eqb (meet a b) 0 ≡ true
apart_empty n a b p q ha hb pa pb h =
    eq-eqb (meet a b) 0 (no_member n (meet a b) (meet_small n a b ha hb) λ i k. has_meet a b i ∙ outside i k)
  where
    outside : (i : ℕ) → i < n → (has a i && has b i) ≡ false
    outside i k =
        let x = pa i k in
        let y = pb i k in
        cases (p i) (λ e. let z = is_false (q i) (h i k e) in cc) (λ e. cc)

-- what is left

has_rest : (n F L R i : ℕ) → i < n → has (rest n F L R) i ≡ (not (has F i) && not (has L i || has R i))
unfolding rest
has_rest n F L R i k =
    let x = has_minus (minus (full n) F) (union L R) i in
    let y = has_minus (full n) F i in
    let z = has_union L R i in
    let w = has_full n i ∙ lt-ltb i n k in
    cc

rest_whole : (a b c d : Bool) → c ≡ (not a && not (b || d)) → (a || (b || (c || d))) ≡ true
rest_whole true b c d e = refl
rest_whole false true c d e = refl
rest_whole false false c true e = cc
rest_whole false false c false e = cc

rest_outside : (a b c d : Bool) → c ≡ (not a && not (b || d)) → c ≡ true → (a ≡ false) × (b ≡ false) × (d ≡ false)
rest_outside true b c d e p = (cc, cc, cc)
rest_outside false true c d e p = (cc, cc, cc)
rest_outside false false c true e p = (cc, cc, cc)
rest_outside false false c false e p = (refl, refl, refl)

whole_rest : (a b c d : Bool) → (a || (b || (c || d))) ≡ true → (a ≡ true → c ≡ true → ⊥) → (b ≡ true → c ≡ true → ⊥) → (c ≡ true → d ≡ true → ⊥)
    → (not a && not (b || d)) ≡ c
whole_rest a b true d w p q r =
    let x = is_false a (λ e. p e refl) in
    let y = is_false b (λ e. q e refl) in
    let z = is_false d (r refl) in
    cc
whole_rest true b false d w p q r = refl
whole_rest false true false d w p q r = refl
whole_rest false false false d w p q r = cc

-- unions

agree_union : (n a b : ℕ) (p q : Set) → Agree n a p → Agree n b q → Agree n (union a b) (joined p q)
agree_union n a b p q x y i k = let e = x i k in let g = y i k in let u = has_union a b i in cc

apart_joined : (n : ℕ) (p q r : Set) → Apart n p r → Apart n q r → Apart n (joined p q) r
apart_joined n p q r x y i k e g = ⊎_elim (λ h. x i k h g) (λ h. y i k h g) (or_cases (p i) (q i) e)

apart_flip : (n : ℕ) (p q : Set) → Apart n p q → Apart n q p
apart_flip n p q h i k e g = h i k g e

-- arrows: the sets l, c, r of the program are L, C, R, and R meets neither L nor C

module _ (n f : ℕ) (links : Links) (l c r : ℕ) (L C R : Set) (hl : Agree n l L) (hc : Agree n c C) (hr : Agree n r R)
    (LR : Apart n L R) (CR : Apart n C R) where
  held_arrow : held n links (union l c) r ≡ count n (λ (u : ℕ). joined L C u && neighbour n (linked_in links) R u)
  held_arrow = held_count n links (union l c) r (joined L C) R (agree_union n l c L C hl hc) hr (apart_joined n L C R LR CR)

  few_no_arrow : leb (held n links (union l c) r) f ≡ true → Arrow n f (linked_in links) (joined L C) R → ⊥
  few_no_arrow e w = let z = held_arrow in let m = leb-true (held n links (union l c) r) f e in omega arith

  no_arrow_few : (Arrow n f (linked_in links) (joined L C) R → ⊥) → leb (held n links (union l c) r) f ≡ true
  no_arrow_few h =
      let z = held_arrow in
      cases (leb (held n links (union l c) r) f)
      (λ e. e)
      (λ e. let m = leb-false (held n links (union l c) r) f e in absurd (h (omega arith)))

-- from numbers to sets

partition_numbers : (n F L R : ℕ) → eqb (meet F L) 0 ≡ true → eqb (meet F R) 0 ≡ true → eqb (meet L R) 0 ≡ true
    → Partition n (has F) (has L) (has (rest n F L R)) (has R)
partition_numbers n F L R a b c =
    let out : (i : ℕ) → i < n → In (has (rest n F L R)) i → (has F i ≡ false) × (has L i ≡ false) × (has R i ≡ false) =
    λ i k. rest_outside (has F i) (has L i) (has (rest n F L R) i) (has R i) (has_rest n F L R i k) in
    record {
      whole = λ i k. rest_whole (has F i) (has L i) (has (rest n F L R) i) (has R i) (has_rest n F L R i k);
      FL = empty_apart n F L a;
      FR = empty_apart n F R b;
      LR = empty_apart n L R c;
      FC = λ i k p q. clash (has F i) p (out i k q).0;
      LC = λ i k p q. clash (has L i) p (out i k q).1;
      CR = λ i k q p. clash (has R i) p (out i k q).2;
    }

pub breaks_broken : (n f : ℕ) (links : Links) (F L R : ℕ) → n ≤ 8 → F < 2 ^ n → L < 2 ^ n → R < 2 ^ n → breaks n f links F L R ≡ true
    → Broken n f (linked_in links) (has F) (has L) (has (rest n F L R)) (has R)
unfolding is_split is_bad
breaks_broken n f links F L R h a b c e =
    let fl : eqb (meet F L) 0 ≡ true = search bools in
    let fr : eqb (meet F R) 0 ≡ true = search bools in
    let lr : eqb (meet L R) 0 ≡ true = search bools in
    let p = partition_numbers n F L R fl fr lr in
    let l : eqb L 0 ≡ false = search bools in
    let r : eqb R 0 ≡ false = search bools in
    let s : leb (size F) f ≡ true = search bools in
    let to_r : leb (held n links (union L (rest n F L R)) R) f ≡ true = search bools in
    let toL : leb (held n links (union R (rest n F L R)) L) f ≡ true = search bools in
    let z = size_count n F h a in
    let y = leb-true (size F) f s in
    record {
      partition = p;
      left = member_of n L h b l;
      right = member_of n R h c r;
      few = omega arith;
      no_arrow_r = few_no_arrow n f links L (rest n F L R) R (has L) (has (rest n F L R)) (has R)
          (λ i k. refl) (λ i k. refl) (λ i k. refl) p.LR p.CR to_r;
      no_arrow_l = few_no_arrow n f links R (rest n F L R) L (has R) (has (rest n F L R)) (has L)
          (λ i k. refl) (λ i k. refl) (λ i k. refl) (apart_flip n (has L) (has R) p.LR) (apart_flip n (has L) (has (rest n F L R)) p.LC) toL;
    }

-- from sets to numbers

agree_rest : (n a b c : ℕ) (F L C R : Set) → Agree n a F → Agree n b L → Agree n c R → Partition n F L C R → Agree n (rest n a b c) C
agree_rest n a b c F L C R ha hb hc p i k =
    let x = ha i k in
    let y = hb i k in
    let z = hc i k in
    let u = has_rest n a b c i k in
    let w = whole_rest (F i) (L i) (C i) (R i) (p.whole i k) (p.FC i k) (p.LC i k) (p.CR i k) in
    cc

partition_split : (n f a b c : ℕ) (F L C R : Set) → n ≤ 8 → a < 2 ^ n → b < 2 ^ n → c < 2 ^ n → Agree n a F → Agree n b L → Agree n c R
    → Partition n F L C R → Some n L → Some n R → count n F ≤ f → is_split f a b c ≡ true
unfolding is_split
partition_split n f a b c F L C R h ka kb kc ha hb hc p l r s =
    let few = le-leb (size a) f (let z = size_count n a h ka in let y = count_same n (has a) F ha in omega arith) in
    let x = of_member n b L hb l in
    let y = of_member n c R hc r in
    let ab = apart_empty n a b F L ka kb ha hb p.FL in
    let ac = apart_empty n a c F R ka kc ha hc p.FR in
    let bc = apart_empty n b c L R kb kc hb hc p.LR in
    cc

pub broken_breaks : (n f : ℕ) (links : Links) (a b c : ℕ) (F L C R : Set) → n ≤ 8 → a < 2 ^ n → b < 2 ^ n → c < 2 ^ n
    → Agree n a F → Agree n b L → Agree n c R → Broken n f (linked_in links) F L C R → breaks n f links a b c ≡ true
unfolding is_bad
broken_breaks n f links a b c F L C R h ka kb kc ha hb hc w =
    let p = w.partition in
    let hr = agree_rest n a b c F L C R ha hb hc p in
    let split = partition_split n f a b c F L C R h ka kb kc ha hb hc p w.left w.right w.few in
    let to_r = no_arrow_few n f links b (rest n a b c) c L C R hb hr hc p.LR p.CR w.no_arrow_r in
    let toL = no_arrow_few n f links c (rest n a b c) b R C L hc hr hb (apart_flip n L R p.LR) (apart_flip n L C p.LC) w.no_arrow_l in
    cc
