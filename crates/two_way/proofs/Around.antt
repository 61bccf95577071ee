-- Why one scan over the parts is enough: the neighbours of a part are the fewest servers that cut it off, and of two parts one does not have
-- the last server.
--     around_parts     the neighbours of a part cut it off, if they leave others
--     cut_no_more      whatever separates it from another part has no fewer servers
--     low_part         whatever separates leaves a part without the last server, and no fewer servers than cut that one off
--     cut_is           what the rows of sources give; cut_none, cut_some as the code computes it
-- Assumes nothing.
use mathlib.Core.Path.{◌≡◌, refl, sym, ap, ◌∙◌}
use mathlib.Core.Logic.{⊎_elim}
use mathlib.Core.Bool.{true, false, not, ◌&&◌, ◌||◌}
use Prim.Native.Nat.{ℕ, suc, ◌*◌, ◌^◌, ◌≤◌, ◌<◌}
use native.Mathlib.Omega.{arith}
use mathlib.Core.List.{List}
use lib.Dec.{eqb, ltb}
use lib.ListN.{get_or}
use borrow.Author.Tests.{eq-eqb, eqb-false, ne_eqb, ltb-true, ltb-false}
use Rattle.facts.proofs.Bools.{cases, clash, is_false, and_left, and_right, not_true, or_cases}
use Rattle.sets.specs.Sets.{Set, In, has, meet, minus, full, size, TableOf}
use Rattle.sets.proofs.Members.{has_minus, has_beyond, pow_double, same_all, top_clear, apart_meet, encode_has, encode_small}
use Rattle.sets.proofs.Counts.{count_mono, size_count}
use Rattle.network.specs.Links.{Links, linked_in}
use Rattle.split.specs.Split.{some_below, incoming}
use Rattle.split.specs.Sources.{Sources, into_rows}
use Rattle.split.proofs.Neighbours.{none_at, none_of}
use Rattle.split.proofs.SourceRows.{rows_give}
use Rattle.condition.proofs.Partitions.{of_member}
use Rattle.two_way.specs.Separation.{others, parts}
use Rattle.two_way.specs.Scan.{neighbours, cut_off, cut_rows}
use Rattle.two_way.specs.Least.{Separates}
use Rattle.two_way.proofs.Parts.{left_over, others_small, unlinked, parts_separate, Found}

module _ (n : ℕ) (links : Links) where
  pub around_small : (L : ℕ) → neighbours n links L < 2 ^ n
  unfolding neighbours
  around_small L = encode_small n (incoming n links L)

  pub around_has : (L i : ℕ) → i < n → has (neighbours n links L) i ≡ incoming n links L i
  unfolding neighbours
  around_has L i k = encode_has n (incoming n links L) i k

  around_not_part : (L i : ℕ) → i < n → (has (neighbours n links L) i && has L i) ≡ false
  unfolding incoming
  around_not_part L i k = let a = around_has L i k in cases (has L i) (λ x. cc) (λ x. cases (has (neighbours n links L) i) (λ y. cc) (λ y. cc))

  -- one of the others has no link into the part
  others_apart : (L u v : ℕ) → u < n → v < n → has (others n (neighbours n links L) L) u ≡ true → has L v ≡ true → linked_in links u v ≡ false
  unfolding incoming
  others_apart L u v h k x y =
      let a = left_over n (neighbours n links L) L u h in
      let b = around_has L u h in
      let c : some_below n (λ (w : ℕ). has L w && linked_in links u w) ≡ false =
      cases (has L u) (λ p. cases (has (neighbours n links L) u) (λ q. cc) (λ q. cc)) (λ p. cases (has (neighbours n links L) u) (λ q. cc) (λ q. cc)) in
      let d = none_at n (λ (w : ℕ). has L w && linked_in links u w) c v k in
      cc

  pub around_parts : ((u v : ℕ) → linked_in links u v ≡ linked_in links v u) → (L : ℕ) → 0 < L → eqb (others n (neighbours n links L) L) 0 ≡ false
      → parts n links (neighbours n links L) L ≡ true
  unfolding parts
  around_parts back L some r =
      let a = eq-eqb (meet (neighbours n links L) L) 0 (apart_meet n (neighbours n links L) L (around_small L) (around_not_part L)) in
      let b = ne_eqb L 0 (λ (q : L ≡ 0). absurd (omega arith)) in
      let c = unlinked n links (others n (neighbours n links L) L) L (others_apart L) in
      let d = unlinked n links L (others n (neighbours n links L) L) (λ u v h k x y. back u v ∙ others_apart L v u k h y x) in
      cc

  -- what separates X from Y holds all neighbours of X
  module _ (few : n ≤ 8) (K X : ℕ) (Y : Set) (small : K < 2 ^ n) (w : Separates n (linked_in links) (has K) (has X) Y) where
    around_within : (i : ℕ) → i < n → has (neighbours n links X) i ≡ true → has K i ≡ true
    unfolding incoming
    around_within i k e =
        let a : (not (has X i) && some_below n (λ (v : ℕ). has X v && linked_in links i v)) ≡ true = sym (around_has X i k) ∙ e in
        let b = not_true (has X i) (and_left (not (has X i)) (some_below n (λ (v : ℕ). has X v && linked_in links i v)) a) in
        let c = and_right (not (has X i)) (some_below n (λ (v : ℕ). has X v && linked_in links i v)) a in
        ⊎_elim (λ h. h)
        (λ h. ⊎_elim (λ x. clash (has X i) x b) (λ y. clash (some_below n (λ (v : ℕ). has X v && linked_in links i v)) c (unheard i k y)) (or_cases (has X i) (Y i) h))
        (or_cases (has K i) (has X i || Y i) (w.whole i k))
      where
        unheard : (i : ℕ) → i < n → In Y i → some_below n (λ (v : ℕ). has X v && linked_in links i v) ≡ false
        unheard i k y = none_of n (λ (v : ℕ). has X v && linked_in links i v) (λ v l. cases (has X v) (λ x. let z = w.no_link_rl i v k l y x in cc) (λ x. cc))

    others_left : eqb (others n (neighbours n links X) X) 0 ≡ false
    others_left =
        let y = w.right in
        of_member n (others n (neighbours n links X) X) (has (others n (neighbours n links X) X)) (λ i k. refl)
        (y.0, y.1, other y.0 y.1 y.2)
      where
        other : (i : ℕ) → i < n → In Y i → has (others n (neighbours n links X) X) i ≡ true
        other i k y =
            let a = is_false (has (neighbours n links X) i) (λ e. w.KR i k (around_within i k e) y) in
            let b = is_false (has X i) (λ e. w.LR i k e y) in
            let c = left_over n (neighbours n links X) X i k in
            cc

    pub cut_no_more : (most : ℕ) → cut_off n links most X ≤ size K
    unfolding cut_off
    cut_no_more most =
        let a = size_count n (neighbours n links X) few (around_small X) in
        let b = size_count n K few small in
        let c = count_mono n (has (neighbours n links X)) (has K) around_within in
        rw others_left (omega arith)

separates_flip : (n : ℕ) (links : Links) (K L R : Set) → Separates n (linked_in links) K L R → Separates n (linked_in links) K R L
separates_flip n links K L R w =
    record {
      whole = λ i k. let a = w.whole i k in cases (K i) (λ x. cc) λ x. cases (R i) (λ y. cc) (λ y. cases (L i) (λ z. cc) (λ z. cc));
      KL = w.KR;
      KR = w.KL;
      LR = λ i k x y. w.LR i k y x;
      left = w.right;
      right = w.left;
      no_link_lr = w.no_link_rl;
      no_link_rl = w.no_link_lr;
    }

-- a part without the last server that is cut off by no more than k servers
pub record Low (n : ℕ) (links : Links) (most k : ℕ) : Type 0 where
  pub part : ℕ
  pub some : 0 < part
  pub low : 2 * part < 2 ^ n
  pub few : cut_off n links most part ≤ k

module _ (m : ℕ) (links : Links) (fits : suc m ≤ 8) (k most : ℕ) (found : Found (suc m) links k) where
  -- either part, if it does not have the last server
  low_side : (X : ℕ) (Y : Set) → X < 2 ^ suc m → has X m ≡ false → Separates (suc m) (linked_in links) (has found.away) (has X) Y → Low (suc m) links most k
  low_side X Y small clear w =
      let a = top_clear m X small clear in
      let p = pow_double m in
      let c = cut_no_more (suc m) links fits found.away X Y found.away_small w most in
      let s = found.sized in
      let z = eqb-false X 0 (of_member (suc m) X (has X) (λ i k. refl) w.left) in
      record { part = X; some = omega arith; low = omega arith; few = omega arith }

  pub low_part : Low (suc m) links most k
  low_part =
      let K = found.away in
      let L = found.part in
      let R = others (suc m) K L in
      let w = parts_separate (suc m) links K L fits found.part_small found.here in
      cases (has L m)
      (λ e.
      let clear : has R m ≡ false = let a = left_over (suc m) K L m (omega arith) in cases (has K m) (λ x. cc) (λ x. cc) in
      low_side R (has L) (others_small (suc m) K L) clear (separates_flip (suc m) links (has K) (has L) (has R) w))
      (λ e. low_side L (has R) found.part_small e w)

-- what the code computes

has_around : (n : ℕ) (links : Links) (L u : ℕ) → has (neighbours n links L) u ≡ (ltb u n && incoming n links L u)
has_around n links L u =
    cases (ltb u n)
    (λ x. around_has n links L u (ltb-true u n x) ∙ (let y = x in cc))
    (λ x. has_beyond n (neighbours n links L) u (around_small n links L) (ltb-false u n x) ∙ (let y = x in cc))

module _ (n : ℕ) (links : Links) (few : n ≤ 8) (rows : List ℕ) (so : Sources n links rows) (L : ℕ) (small : L < 2 ^ n) where
  near_has : (u : ℕ) → has (minus (into_rows rows L) L) u ≡ (ltb u n && incoming n links L u)
  unfolding incoming
  near_has u =
      let a = has_minus (into_rows rows L) L u in
      let b = rows_give n links rows few so L small u in
      cases (ltb u n) (λ x. cases (has L u) (λ y. cases (has (into_rows rows L) u) (λ z. cc) (λ z. cc)) (λ y. cases (has (into_rows rows L) u) (λ z. cc) (λ z. cc))) (λ x. cc)

  around_is : minus (into_rows rows L) L ≡ neighbours n links L
  around_is = same_all (minus (into_rows rows L) L) (neighbours n links L) (λ u. near_has u ∙ sym (has_around n links L u))

  pub cut_is : (servers most : ℕ) → servers ≡ full n → cut_rows rows servers most L ≡ cut_off n links most L
  unfolding cut_rows cut_off others
  cut_is servers most all = rw (all, around_is) refl

-- what the code computes
module _ (rows : List ℕ) (servers most L into near without rest : ℕ) (a : into ≡ into_rows rows L) (b : near ≡ minus into L) (w : without ≡ minus servers near) (o : rest ≡ minus without L) where
  near_is : near ≡ minus (into_rows rows L) L
  near_is = b ∙ ap (λ (x : ℕ). minus x L) a

  rest_is : rest ≡ minus (minus servers (minus (into_rows rows L) L)) L
  rest_is = o ∙ ap (λ (x : ℕ). minus x L) (w ∙ ap (minus servers) near_is)

  pub cut_none : rest ≡ 0 → most ≡ cut_rows rows servers most L
  unfolding cut_rows
  cut_none z = let e = eq-eqb (minus (minus servers (minus (into_rows rows L) L)) L) 0 (sym rest_is ∙ z) in rw e refl

  pub cut_some : (rest ≡ 0 → ⊥) → (k : ℕ) → k ≡ size near → k ≡ cut_rows rows servers most L
  unfolding cut_rows
  cut_some z k s = let e = ne_eqb (minus (minus servers (minus (into_rows rows L) L)) L) 0 (λ q. z (rest_is ∙ q)) in rw e (s ∙ ap size near_is)
