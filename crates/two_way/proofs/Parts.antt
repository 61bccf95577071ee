-- The parts into which a network falls, by numbers and by arbitrary sets. Only servers below n count, so a set is known by the number that
-- agrees with it there.
--     has_others        membership in what K and L leave
--     unlinked          no link between two sets, from no link between their servers
--     parts_separate    numbers that pass the test are sets that separate
--     separate_parts    sets that separate have numbers that pass the test
--     separable-..      so some k servers separate by numbers exactly if some do by sets
--     few_separate      a set that separates leaves two servers at least
--     connectivity_is   a number that is enough, when nothing less is, is the one that is searched for
--     least_away        the number that is searched for is the least one
-- Assumes nothing.
use mathlib.Core.Path.{◌≡◌, refl, sym, ap, ◌∙◌}
use mathlib.Core.Logic.{◌⊎◌, inl, inr, ⊎_elim}
use mathlib.Core.Bool.{Bool, true, false, not, ◌&&◌, ◌||◌}
use Prim.Native.Nat.{ℕ, ◌+◌, ◌-◌, ◌^◌, ◌≤◌, ◌<◌}
use native.Mathlib.Omega.{arith}
use lib.Dec.{eqb, ltb}
use borrow.Author.Tests.{eqb-true, eq-eqb, lt-ltb}
use Rattle.facts.proofs.Bools.{cases, clash, is_false, and_left, and_right, or_false_left, or_false_right, bools}
use Rattle.sets.specs.Sets.{Set, has, meet, minus, full, count, size, encode}
use Rattle.sets.proofs.Members.{has_minus, has_full, minus_small, full_small, encode_has, encode_small}
use Rattle.sets.proofs.Counts.{count_same, count_apart, count_all, count_some, size_count}
use Rattle.sets.proofs.LowestMember.{first_in_found, first_in_least, first_in_most}
use Rattle.network.specs.Links.{Links, linked_in}
use Rattle.split.specs.Split.{some_below}
use Rattle.split.proofs.Neighbours.{some_at, some_of, none_at, none_of}
use Rattle.condition.proofs.Neighbours.{Agree}
use Rattle.condition.proofs.Partitions.{member_of, of_member, empty_apart, apart_empty}
use Rattle.two_way.specs.Separation.{link_to, others, parts, separates, separable, connectivity}
use Rattle.two_way.specs.Least.{Separates, Separable, LeastAway}

pub has_others : (n K L i : ℕ) → has (others n K L) i ≡ ((ltb i n && not (has K i)) && not (has L i))
unfolding others
has_others n K L i =
    let a = has_minus (minus (full n) K) L i in
    let b = has_minus (full n) K i in
    let c = has_full n i in
    cc

pub others_small : (n K L : ℕ) → others n K L < 2 ^ n
unfolding others
others_small n K L = minus_small n (minus (full n) K) L (minus_small n (full n) K (full_small n))

-- what a server below n is: in K, in L or one of the others
module _ (n K L i : ℕ) (k : i < n) where
  pub left_over : has (others n K L) i ≡ (not (has K i) && not (has L i))
  left_over = let a = has_others n K L i in let t = lt-ltb i n k in cc

  each_somewhere : (has K i || (has L i || has (others n K L) i)) ≡ true
  each_somewhere = let a = left_over in cases (has K i) (λ x. cc) (λ x. cases (has L i) (λ y. cc) (λ y. cc))

  others_not_k : has (others n K L) i ≡ true → has K i ≡ false
  others_not_k e = let a = left_over in cases (has K i) (λ x. cc) (λ x. x)

  others_not_l : has (others n K L) i ≡ true → has L i ≡ false
  others_not_l e = let a = left_over in cases (has K i) (λ x. cc) (λ x. cases (has L i) (λ y. cc) (λ y. y))

-- links between sets

no_link : (n : ℕ) (links : Links) (a b : ℕ) → link_to n links a b ≡ false
    → (u v : ℕ) → u < n → v < n → has a u ≡ true → has b v ≡ true → linked_in links u v ≡ false
unfolding link_to
no_link n links a b e u v h k p q =
    let x = none_at n (λ (u : ℕ). has a u && some_below n (λ (v : ℕ). has b v && linked_in links u v)) e u h in
    let y : some_below n (λ (v : ℕ). has b v && linked_in links u v) ≡ false = cc in
    let z = none_at n (λ (v : ℕ). has b v && linked_in links u v) y v k in
    cc

pub unlinked : (n : ℕ) (links : Links) (a b : ℕ)
    → ((u v : ℕ) → u < n → v < n → has a u ≡ true → has b v ≡ true → linked_in links u v ≡ false) → link_to n links a b ≡ false
unfolding link_to
unlinked n links a b h =
    none_of n (λ (u : ℕ). has a u && some_below n (λ (v : ℕ). has b v && linked_in links u v))
    (λ u k. cases (has a u) (λ x. let y = from u k x in cc) (λ x. cc))
  where
    from : (u : ℕ) → u < n → has a u ≡ true → some_below n (λ (v : ℕ). has b v && linked_in links u v) ≡ false
    from u k x =
        none_of n (λ (v : ℕ). has b v && linked_in links u v) (λ v l. cases (has b v) (λ y. let z = h u v k l x y in cc) (λ y. cc))

-- from numbers to sets

pub parts_separate : (n : ℕ) (links : Links) (K L : ℕ) → n ≤ 8 → L < 2 ^ n → parts n links K L ≡ true
    → Separates n (linked_in links) (has K) (has L) (has (others n K L))
unfolding parts
parts_separate n links K L few small e =
    let R = others n K L in
    let kl : eqb (meet K L) 0 ≡ true = search bools in
    let l : eqb L 0 ≡ false = search bools in
    let r : eqb R 0 ≡ false = search bools in
    let none : (link_to n links L R || link_to n links R L) ≡ false = search bools in
    record {
      whole = each_somewhere n K L;
      KL = empty_apart n K L kl;
      KR = λ i k x y. clash (has K i) x (others_not_k n K L i k y);
      LR = λ i k x y. clash (has L i) x (others_not_l n K L i k y);
      left = member_of n L few small l;
      right = member_of n R few (others_small n K L) r;
      no_link_lr = no_link n links L R (or_false_left (link_to n links L R) (link_to n links R L) none);
      no_link_rl = no_link n links R L (or_false_right (link_to n links L R) (link_to n links R L) none);
    }

-- from sets to numbers

third : (k l r : Bool) → (k || (l || r)) ≡ true → (k ≡ true → r ≡ true → ⊥) → (l ≡ true → r ≡ true → ⊥) → (not k && not l) ≡ r
third k l true w p q = let x = is_false k (λ e. p e refl) in let y = is_false l (λ e. q e refl) in cc
third true l false w p q = refl
third false true false w p q = refl
third false false false w p q = cc

module _ (n : ℕ) (links : Links) (k l : ℕ) (K L R : Set) (ak : Agree n k K) (al : Agree n l L) (w : Separates n (linked_in links) K L R) where
  agree_others : Agree n (others n k l) R
  agree_others i h =
      let a = ak i h in
      let b = al i h in
      let c = left_over n k l i h in
      let d = third (K i) (L i) (R i) (w.whole i h) (w.KR i h) (w.LR i h) in
      cc

  pub separate_parts : k < 2 ^ n → l < 2 ^ n → parts n links k l ≡ true
  unfolding parts
  separate_parts hk hl =
      let a = apart_empty n k l K L hk hl ak al w.KL in
      let b = of_member n l L al w.left in
      let c = of_member n (others n k l) R agree_others w.right in
      let d = unlinked n links l (others n k l) (λ u v h g x y. w.no_link_lr u v h g (sym (al u h) ∙ x) (sym (agree_others v g) ∙ y)) in
      let e = unlinked n links (others n k l) l (λ u v h g x y. w.no_link_rl u v h g (sym (agree_others u h) ∙ x) (sym (al v g) ∙ y)) in
      cc

-- the least number

pub parts_separable : (n : ℕ) (links : Links) (K L : ℕ) → K < 2 ^ n → L < 2 ^ n → parts n links K L ≡ true → separable n links (size K) ≡ true
unfolding separable separates
parts_separable n links K L hk hl e =
    let a = some_of (2 ^ n) (parts n links K) L hl e in
    let b = eq-eqb (size K) (size K) refl in
    some_of (2 ^ n) (λ (X : ℕ). eqb (size X) (size K) && some_below (2 ^ n) (parts n links X)) K hk (cc)

-- the numbers of some k servers that separate, and of a part that is left
pub record Found (n : ℕ) (links : Links) (k : ℕ) : Type 0 where
  pub away : ℕ
  pub part : ℕ
  pub away_small : away < 2 ^ n
  pub part_small : part < 2 ^ n
  pub sized : size away ≡ k
  pub here : parts n links away part ≡ true

pub separable_found : (n : ℕ) (links : Links) (k : ℕ) → separable n links k ≡ true → Found n links k
unfolding separable separates
separable_found n links k e =
    let a = some_at (2 ^ n) (λ (K : ℕ). eqb (size K) k && some_below (2 ^ n) (parts n links K)) e in
    let s = and_left (eqb (size a.0) k) (some_below (2 ^ n) (parts n links a.0)) a.2 in
    let b = some_at (2 ^ n) (parts n links a.0) (and_right (eqb (size a.0) k) (some_below (2 ^ n) (parts n links a.0)) a.2) in
    record { away = a.0; part = b.0; away_small = a.1; part_small = b.1; sized = eqb-true (size a.0) k s; here = b.2 }

pub few_separate : (n : ℕ) (links : Links) (K L R : Set) → Separates n (linked_in links) K L R → count n K + 2 ≤ n
few_separate n links K L R w =
    let a = count_apart n L R w.LR in
    let b = count_apart n K (λ (i : ℕ). L i || R i) (λ i k x y. cases (L i) (w.KL i k x) (λ z. w.KR i k x (let t = z in cc))) in
    let c = count_all n (λ (i : ℕ). K i || (L i || R i)) w.whole in
    let l = w.left in
    let r = w.right in
    let d = count_some n L l.0 l.1 l.2 in
    let e = count_some n R r.0 r.1 r.2 in
    omega arith

-- the number that is searched for: enough, and nothing less is
pub connectivity_is : (n : ℕ) (links : Links) (k : ℕ) → k ≤ n - 1 → (k ≡ n - 1) ⊎ (separable n links k ≡ true) → ((j : ℕ) → separable n links j ≡ true → k ≤ j) → k ≡ connectivity n links
unfolding connectivity
connectivity_is n links k most met least =
    let a = first_in_most (n - 1) 0 (separable n links) in
    let c : connectivity n links ≤ k = ⊎_elim (λ h. omega arith) (λ h. ⊎_elim (λ g. g) (λ g. omega arith) (first_in_least (n - 1) 0 (separable n links) k (omega arith) h)) met in
    let b : k ≤ connectivity n links = ⊎_elim (λ h. omega arith) (λ h. least (connectivity n links) h) (first_in_found (n - 1) 0 (separable n links)) in
    omega arith

module _ (n : ℕ) (links : Links) (few : n ≤ 8) where
  separates_separable : (K L R : Set) → Separates n (linked_in links) K L R → separable n links (count n K) ≡ true
  separates_separable K L R w =
      let hk = encode_small n K in
      let hl = encode_small n L in
      let e = separate_parts n links (encode n K) (encode n L) K L R (encode_has n K) (encode_has n L) w hk hl in
      let s : size (encode n K) ≡ count n K = size_count n (encode n K) few hk ∙ count_same n (has (encode n K)) K (encode_has n K) in
      ap (separable n links) (sym s) ∙ parts_separable n links (encode n K) (encode n L) hk hl e

  separable_separates : (k : ℕ) → separable n links k ≡ true → Separable n (linked_in links) k
  separable_separates k e =
      let w = separable_found n links k e in (
        has w.away,
        has w.part,
        has (others n w.away w.part),
        parts_separate n links w.away w.part few w.part_small w.here,
        sym (size_count n w.away few w.away_small) ∙ w.sized,
      )

  least_fewest : (K L R : Set) → Separates n (linked_in links) K L R → connectivity n links ≤ count n K
  unfolding connectivity
  least_fewest K L R w =
      let m = first_in_most (n - 1) 0 (separable n links) in
      ⊎_elim (λ h. h) (λ h. omega arith) (first_in_least (n - 1) 0 (separable n links) (count n K) (omega arith) (separates_separable K L R w))

  found : (connectivity n links ≡ n - 1) ⊎ (separable n links (connectivity n links) ≡ true)
  unfolding connectivity
  found = ⊎_elim (λ h. inl (let e : 0 + (n - 1) ≡ n - 1 = omega arith in h ∙ e)) inr (first_in_found (n - 1) 0 (separable n links))

  none_apart : connectivity n links ≡ n - 1 → (K L R : Set) → Separates n (linked_in links) K L R → ⊥
  none_apart h K L R w = let a = least_fewest K L R w in let b = few_separate n links K L R w in omega arith

  pub least_away : LeastAway n (linked_in links) (connectivity n links)
  least_away =
      record {
        fewest = least_fewest;
        reached = ⊎_elim (λ h. inr (none_apart h, h)) (λ h. inl (separable_separates (connectivity n links) h)) found;
      }
