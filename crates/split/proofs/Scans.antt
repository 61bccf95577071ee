-- The three nested scans of the split test. At each level what is left to scan from here gives the answer of the whole:
--     Left lim i p later whole   what p gives from i on, or else what is left outside, is the whole answer
--     left_turn, left_jump, left_done   one number more of the scan, several, and its end: the same laws serve all three levels
--     Scan, Sides, Splits        the invariants of the scans over F, L and R; Going where a scan leads
-- Assumes nothing.
use mathlib.Core.Path.{◌≡◌, refl, sym, ap, ◌∙◌}
use mathlib.Core.Bool.{Bool, true, false}
use mathlib.Core.List.{List}
use Prim.Native.Nat.{ℕ, zero, suc, ◌+◌, ◌-◌, ◌^◌, ◌≤◌, ◌<◌, min}
use native.Mathlib.Numerals.{add-one}
use native.Mathlib.Omega.{arith}
use lib.Dec.{leb}
use lib.ListN.{get_or}
use lib.Pow.{pow_pos, pow_mono}
use borrow.Author.Tests.{le-leb, lt-leb, eq-eqb}
use Rattle.sets.specs.Sets.{meet, size, union, minus, full, next}
use Rattle.sets.proofs.Members.{meet_comm, meet_nothing, apart_left, apart_right, union_small}
use Rattle.sets.proofs.NextSet.{next_apart, next_after, next_least, next_small}
use Rattle.network.specs.Links.{Links}
use Rattle.split.specs.Split.{Split, good, bad, unread, or_else, rest, bad_at, first_from, bad_with_sides, bad_with_faults, first_bad}
use Rattle.split.specs.Weak.{outside, weak}
use Rattle.split.specs.Sources.{Sources, outside_rows}
use Rattle.split.proofs.Weakness.{outside_is, weak_empty, weak_meets, weak_is, no_faults, no_sides, none_empty, none_busy, none_right, bad_here}

abbrev pub Left : ℕ → ℕ → (ℕ → Split) → Split → Split → Type 0
Left lim i p later whole = or_else (first_from (lim - i) i p) later ≡ whole

or_else_assoc : (a b c : Split) → or_else (or_else a b) c ≡ or_else a (or_else b c)
or_else_assoc good b c = refl
or_else_assoc (bad f l x r) b c = refl
or_else_assoc (unread r) b c = refl

or_else_good : (a : Split) → or_else a good ≡ a
or_else_good good = refl
or_else_good (bad f l x r) = refl
or_else_good (unread r) = refl

first_from_turn : (lim i : ℕ) (p : ℕ → Split) → i < lim → first_from (lim - i) i p ≡ or_else (p i) (first_from (lim - (i + 1)) (i + 1) p)
unfolding first_from
first_from_turn lim i p h =
    let e : lim - i ≡ suc (lim - (i + 1)) = omega arith in
    rw e (ap (λ (m : ℕ). or_else (p i) (first_from (lim - (i + 1)) m p)) (sym (add-one i)))

first_from_done : (lim i : ℕ) (p : ℕ → Split) → lim ≤ i → first_from (lim - i) i p ≡ good
unfolding first_from
first_from_done lim i p h = let e : lim - i ≡ 0 = omega arith in rw e refl

-- what is left beyond i
abbrev pub beyond : ℕ → ℕ → (ℕ → Split) → Split → Split
beyond lim i p later = or_else (first_from (lim - (i + 1)) (i + 1) p) later

first_from_skip : (k lim i : ℕ) (p : ℕ → Split) → i + k ≤ lim → ((x : ℕ) → i ≤ x → x < i + k → p x ≡ good) → first_from (lim - i) i p ≡ first_from (lim - (i + k)) (i + k) p
first_from_skip zero lim i p h g = let e : i + 0 ≡ i = omega arith in rw e refl
first_from_skip (suc k) lim i p h g =
    let e : i + 1 + k ≡ i + suc k = omega arith in
    first_from_turn lim i p (omega arith)
    ∙ ap (λ (x : Split). or_else x (first_from (lim - (i + 1)) (i + 1) p)) (g i (omega arith) (omega arith))
    ∙ first_from_skip k lim (i + 1) p (omega arith) (λ x a b. g x (omega arith) (omega arith))
    ∙ ap (λ (m : ℕ). first_from (lim - m) m p) e

module _ (lim i : ℕ) (p : ℕ → Split) (later whole : Split) (so : Left lim i p later whole) where
  pub left_turn : i < lim → or_else (p i) (beyond lim i p later) ≡ whole
  left_turn h =
      sym (or_else_assoc (p i) (first_from (lim - (i + 1)) (i + 1) p) later) ∙ ap (λ (x : Split). or_else x later) (sym (first_from_turn lim i p h)) ∙ so

  pub left_past : i < lim → p i ≡ good → Left lim (i + 1) p later whole
  left_past h e = ap (λ (x : Split). or_else x (beyond lim i p later)) (sym e) ∙ left_turn h

  pub left_done : lim ≤ i → later ≡ whole
  left_done h = ap (λ (x : Split). or_else x later) (sym (first_from_done lim i p h)) ∙ so

  -- p i is itself a scan from 0 on
  pub left_into : i < lim → (q : ℕ → Split) → p i ≡ first_from lim 0 q → Left lim 0 q (beyond lim i p later) whole
  left_into h q e =
      let z : lim - 0 ≡ lim = omega arith in
      ap (λ (m : ℕ). or_else (first_from m 0 q) (beyond lim i p later)) z ∙ ap (λ (x : Split). or_else x (beyond lim i p later)) (sym e) ∙ left_turn h

-- from i on to j, where nothing between is found
pub left_jump : (lim i j : ℕ) (p : ℕ → Split) (later whole : Split) → Left lim i p later whole → i ≤ j → j ≤ lim → ((x : ℕ) → i ≤ x → x < j → p x ≡ good) → Left lim j p later whole
left_jump lim i j p later whole so a b g =
    let e : i + (j - i) ≡ j = omega arith in
    ap (λ (m : ℕ). or_else (first_from (lim - m) m p) later) (sym e)
    ∙ ap (λ (x : Split). or_else x later) (sym (first_from_skip (j - i) lim i p (omega arith) (λ x c d. g x c (omega arith))))
    ∙ so

-- there are 2^n sets of n servers
pub limit_of : (n servers : ℕ) → n ≤ 8 → servers ≡ full (min n 8) → servers + 1 ≡ 2 ^ n
unfolding full
limit_of n servers h e = let w : min n 8 ≡ n = omega arith in let v = rw w at e in let p = pow_pos n in omega arith

-- the sets that next leaves out of a scan for the sets apart from b
skipped : (b s x : ℕ) → meet s b ≡ 0 → s < x → x < next s b → meet x b ≡ 0 → ⊥
skipped b s x a h k e = let l = next_least s b x a e h in omega arith

module _ (n f limit : ℕ) (rows : List ℕ) where
  abbrev pub Given : Links → Type 0
  Given links = Sources n links rows

  -- before F = i
  pub record Scan (i : ℕ) : Type 0 where
    pub few : n ≤ 8
    pub limit_is : limit ≡ 2 ^ n
    pub inside : i ≤ limit
    pub left : (links : Links) → Given links → Left limit i (bad_with_faults n f links) good (first_bad n f links)

  -- before L = j, F being i
  pub record Sides (i j : ℕ) : Type 0 where
    pub few : n ≤ 8
    pub limit_is : limit ≡ 2 ^ n
    pub i_inside : i < limit
    pub inside : j ≤ limit
    pub some : 0 < j
    pub clear : meet j i ≡ 0
    pub small : size i ≤ f
    pub left : (links : Links) → Given links → Left limit j (bad_with_sides n f links i) (beyond limit i (bad_with_faults n f links) good) (first_bad n f links)

  -- before R = k, F being i, L being j, and both together busy
  pub record Splits (i j busy k : ℕ) : Type 0 where
    pub sides : Sides i j
    pub j_inside : j < limit
    pub busy_is : busy ≡ union i j
    pub inside : k ≤ limit
    pub some : 0 < k
    pub clear : meet k (union i j) ≡ 0
    pub weak_l : (links : Links) → Given links → weak n f links i j ≡ true
    pub left : (links : Links) → Given links
        → Left limit k (bad_at n f links i j) (beyond limit j (bad_with_sides n f links i) (beyond limit i (bad_with_faults n f links) good)) (first_bad n f links)

  -- whether a set has few neighbours outside F, by the rows
  abbrev pub Tells : Bool → ℕ → ℕ → Type 0
  Tells b F s = b ≡ leb (outside_rows rows F s) f

  told : (b : Bool) (F s : ℕ) → Tells b F s → n ≤ 8 → s < 2 ^ n → (links : Links) → Given links → leb (outside n links F s) f ≡ b
  told b F s t few small links so = sym (t ∙ ap (λ (x : ℕ). leb x f) (outside_is n links rows few so F s small))

  pub scan_starts : n ≤ 8 → limit ≡ 2 ^ n → Scan 0
  unfolding first_bad
  scan_starts h e =
      record {
        few = h;
        limit_is = e;
        inside = omega arith;
        left = λ links so.
            or_else_good (first_from (limit - 0) 0 (bad_with_faults n f links)) ∙ (let z : limit - 0 ≡ 2 ^ n = omega arith in ap (λ (m : ℕ). first_from m 0 (bad_with_faults n f links)) z);
      }

  pub scan_ends : (i : ℕ) → Scan i → limit ≤ i → (links : Links) → Given links → good ≡ first_bad n f links
  scan_ends i s h links so = left_done limit i (bad_with_faults n f links) good (first_bad n f links) (s.left links so) h

  module _ (i : ℕ) (s : Scan i) (h : i < limit) where
    pub scan_past : f < size i → Scan (i + 1)
    scan_past q =
        record {
          few = s.few;
          limit_is = s.limit_is;
          inside = omega arith;
          left = λ links so.
              left_past limit i (bad_with_faults n f links) good (first_bad n f links) (s.left links so) h (no_faults n f links i (lt-leb (size i) f q));
        }

    -- no L before the first set apart from F
    too_low : (links : Links) (x : ℕ) → x < next 0 i → weak n f links i x ≡ false
    too_low links zero q = weak_empty n f links i
    too_low links (suc x) q = weak_meets n f links i (suc x) (λ a. skipped i 0 (suc x) (meet_nothing i) (omega arith) q (meet_comm (suc x) i ∙ a))

    pub sides_start : size i ≤ f → (j : ℕ) → j ≡ next 0 i → Sides i j
    unfolding bad_with_faults
    sides_start q j w =
        let l = s.limit_is in
        let t = next_small n 0 i (pow_pos n) (omega arith) in
        let a = next_after 0 i (meet_nothing i) in
        record {
          few = s.few;
          limit_is = s.limit_is;
          i_inside = h;
          inside = omega arith;
          some = omega arith;
          clear = ap (λ (x : ℕ). meet x i) w ∙ next_apart 0 i;
          small = q;
          left = λ links so.
              left_jump limit 0 j (bad_with_sides n f links i) (beyond limit i (bad_with_faults n f links) good) (first_bad n f links)
              (left_into limit i (bad_with_faults n f links) good (first_bad n f links) (s.left links so) h (bad_with_sides n f links i) (ap (λ (m : ℕ). first_from m 0 (bad_with_sides n f links i)) (sym s.limit_is)))
              (omega arith) (omega arith) (λ x b c. no_sides n f links i x (too_low links x (omega arith)));
        }

  pub sides_end : (i j : ℕ) → Sides i j → limit ≤ j → Scan (i + 1)
  sides_end i j s h =
      let a = s.i_inside in
      record {
        few = s.few;
        limit_is = s.limit_is;
        inside = omega arith;
        left = λ links so.
            left_done limit j (bad_with_sides n f links i) (beyond limit i (bad_with_faults n f links) good) (first_bad n f links) (s.left links so) h;
      }

  -- on from L = j, which is passed, to the next set apart from F
  module _ (i j j' : ℕ) (s : Sides i j) (h : j < limit) (w : j' ≡ next j i) where
    jumped : (links : Links) (x : ℕ) → j < x → x < next j i → weak n f links i x ≡ false
    jumped links x a b = weak_meets n f links i x (λ e. skipped i j x s.clear a b (meet_comm x i ∙ e))

    sides_next : ((links : Links) → Given links → Left limit (j + 1) (bad_with_sides n f links i) (beyond limit i (bad_with_faults n f links) good) (first_bad n f links)) → Sides i j'
    sides_next p =
        let l = s.limit_is in
        let q = s.i_inside in
        let t = next_small n j i (omega arith) (omega arith) in
        let a = next_after j i s.clear in
        record {
          few = s.few;
          limit_is = s.limit_is;
          i_inside = s.i_inside;
          inside = omega arith;
          some = omega arith;
          clear = ap (λ (x : ℕ). meet x i) w ∙ next_apart j i;
          small = s.small;
          left = λ links so.
              left_jump limit (j + 1) j' (bad_with_sides n f links i) (beyond limit i (bad_with_faults n f links) good) (first_bad n f links) (p links so) (omega arith) (omega arith)
              (λ x b c. no_sides n f links i x (jumped links x (omega arith) (omega arith)));
        }

  pub sides_fall : (i j j' : ℕ) → Sides i j → j < limit → j' ≡ next j i → limit - j' < limit - j
  sides_fall i j j' s h w = let a = next_after j i s.clear in omega arith

  module _ (i j : ℕ) (s : Sides i j) (h : j < limit) (b : Bool) (t : Tells b i j) where
    side_weak : (links : Links) → Given links → weak n f links i j ≡ b
    side_weak links so =
        weak_is n f links i j s.some (meet_comm i j ∙ s.clear) ∙ told b i j t s.few (let l = s.limit_is in omega arith) links so

    pub sides_past : b ≡ false → (j' : ℕ) → j' ≡ next j i → Sides i j'
    sides_past q j' w =
        sides_next i j j' s h w λ links so.
        left_past limit j (bad_with_sides n f links i) (beyond limit i (bad_with_faults n f links) good) (first_bad n f links) (s.left links so) h (no_sides n f links i j (side_weak links so ∙ q))

    -- no R before the first set apart from F and L
    too_low_right : (links : Links) (x : ℕ) → x < 2 ^ n → x < next 0 (union i j) → bad_at n f links i j x ≡ good
    too_low_right links zero k q = none_empty n f links i j 0 refl
    too_low_right links (suc x) k q = none_busy n f links i j (suc x) k (skipped (union i j) 0 (suc x) (meet_nothing (union i j)) (omega arith) q)

    pub splits_start : b ≡ true → (busy k : ℕ) → busy ≡ union i j → k ≡ next 0 busy → Splits i j busy k
    unfolding bad_with_sides
    splits_start q busy k v w =
        let l = s.limit_is in
        let p = s.i_inside in
        let k-is : k ≡ next 0 (union i j) = w ∙ ap (next 0) v in
        let a = next_after 0 (union i j) (meet_nothing (union i j)) in
        let m = next_small n 0 (union i j) (pow_pos n) (union_small n i j (omega arith) (omega arith)) in
        record {
          sides = s;
          j_inside = h;
          busy_is = v;
          inside = omega arith;
          some = omega arith;
          clear = ap (λ (x : ℕ). meet x (union i j)) k-is ∙ next_apart 0 (union i j);
          weak_l = λ links so. side_weak links so ∙ q;
          left = λ links so.
              left_jump limit 0 k (bad_at n f links i j) (beyond limit j (bad_with_sides n f links i) (beyond limit i (bad_with_faults n f links) good)) (first_bad n f links)
              (left_into limit j (bad_with_sides n f links i) (beyond limit i (bad_with_faults n f links) good) (first_bad n f links) (s.left links so) h (bad_at n f links i j) (ap (λ (m : ℕ). first_from m 0 (bad_at n f links i j)) (sym s.limit_is)))
              (omega arith) (omega arith) (λ x b c. too_low_right links x (omega arith) (omega arith));
        }

  pub splits_end : (i j busy k : ℕ) → Splits i j busy k → limit ≤ k → (j' : ℕ) → j' ≡ next j i → Sides i j'
  splits_end i j busy k s h j' w =
      sides_next i j j' s.sides s.j_inside w λ links so.
      left_done limit k (bad_at n f links i j) (beyond limit j (bad_with_sides n f links i) (beyond limit i (bad_with_faults n f links) good)) (first_bad n f links) (s.left links so) h

  pub splits_fall : (i j busy k k' : ℕ) → Splits i j busy k → k < limit → k' ≡ next k busy → limit - k' < limit - k
  splits_fall i j busy k k' s h w = let a = next_after k (union i j) s.clear in let e : k' ≡ next k (union i j) = w ∙ ap (next k) s.busy_is in omega arith

  module _ {i j busy k : ℕ} (s : Splits i j busy k) (h : k < limit) {b : Bool} (t : Tells b i k) where
    k_small : k < 2 ^ n
    k_small = let l = s.sides.limit_is in omega arith

    right_weak : (links : Links) → Given links → weak n f links i k ≡ b
    right_weak links so =
        weak_is n f links i k s.some (meet_comm i k ∙ apart_left n k i j k_small s.clear) ∙ told b i k t s.sides.few k_small links so

    pub splits_past : b ≡ false → (k' : ℕ) → k' ≡ next k busy → Splits i j busy k'
    splits_past q k' w =
        let l = s.sides.limit_is in
        let p = s.sides.i_inside in
        let g = s.j_inside in
        let k-is : k' ≡ next k (union i j) = w ∙ ap (next k) s.busy_is in
        let a = next_after k (union i j) s.clear in
        let m = next_small n k (union i j) k_small (union_small n i j (omega arith) (omega arith)) in
        record {
          sides = s.sides;
          j_inside = s.j_inside;
          busy_is = s.busy_is;
          inside = omega arith;
          some = omega arith;
          clear = ap (λ (x : ℕ). meet x (union i j)) k-is ∙ next_apart k (union i j);
          weak_l = s.weak_l;
          left = λ links so.
              left_jump limit (k + 1) k' (bad_at n f links i j) (beyond limit j (bad_with_sides n f links i) (beyond limit i (bad_with_faults n f links) good)) (first_bad n f links)
              (left_past limit k (bad_at n f links i j) (beyond limit j (bad_with_sides n f links i) (beyond limit i (bad_with_faults n f links) good)) (first_bad n f links) (s.left links so) h
              (none_right n f links i j k (right_weak links so ∙ q)))
              (omega arith) (omega arith)
              (λ x c d. none_busy n f links i j x (omega arith) (skipped (union i j) k x s.clear (omega arith) (omega arith)));
        }

    -- the first bad split
    pub splits_hit : b ≡ true → (servers : ℕ) → servers + 1 ≡ limit → {sound sides c : ℕ} → sound ≡ minus servers i → sides ≡ union j k → c ≡ minus sound sides
        → (links : Links) → Given links → bad i j c k ≡ first_bad n f links
    unfolding rest full
    splits_hit q servers p1 {sound} {sides} {c} p2 p3 p4 links so =
        let all : servers ≡ full n = let l = s.sides.limit_is in omega arith in
        let v : rest n i j k ≡ c = cc in
        let few = le-leb (size i) f s.sides.small in
        let lr : meet j k ≡ 0 = meet_comm j k ∙ apart_right n k i j k_small s.clear in
        let here : bad_at n f links i j k ≡ bad i j (rest n i j k) k =
        bad_here n f links i j k few (s.weak_l links so) (right_weak links so ∙ q) (eq-eqb (meet j k) 0 lr) in
        let all = left_turn limit k (bad_at n f links i j) (beyond limit j (bad_with_sides n f links i) (beyond limit i (bad_with_faults n f links) good)) (first_bad n f links) (s.left links so) h in
        ap (λ (x : ℕ). bad i j x k) (sym v)
        ∙ ap (λ (x : Split). or_else x (beyond limit k (bad_at n f links i j) (beyond limit j (bad_with_sides n f links i) (beyond limit i (bad_with_faults n f links) good)))) (sym here)
        ∙ all

-- a scan over the sets of these servers that keep clear of b
pub record Going (servers b last busy : ℕ) : Type 0 where
  pub to : last ≡ servers
  pub clear : busy ≡ b
