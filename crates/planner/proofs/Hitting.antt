-- Sets that meet every weak set, and what is left of one when the servers that are not needed are taken out.
--     meets_at, meets_of, meets_not    what the test says, by members
--     side_meets                       the side that is chosen meets every weak set
--     thinned-..                       what is left lies within, still meets every weak set, and needs each of its servers
--     needed-weak                      for each of these there is a weak set with no other server of the quorum
-- Assumes nothing.
use mathlib.Core.Path.{◌≡◌, sym, ap, ◌∙◌}
use mathlib.Core.Bool.{true, false, ◌&&◌, ◌||◌}
use Prim.Native.Nat.{ℕ, zero, suc, ◌+◌, ◌^◌, ◌≤◌, ◌<◌}
use native.Mathlib.Omega.{arith}
use lib.Dec.{eqb, ltb}
use borrow.Author.Tests.{eqb-true, eqb-false, lt-ltb, ltb-true, not-false, not-true}
use Rattle.facts.proofs.Bools.{cases, clash, both, is_false, and_left, and_right}
use Rattle.sets.specs.Sets.{In, Out, has, single, meet, minus, within, full, count, size}
use Rattle.sets.proofs.Members.{has_meet, has_full, has_empty, minus_small, full_small, within_in, in_within}
use Rattle.sets.proofs.Counts.{count_apart, count_all}
use Rattle.network.specs.Links.{Links}
use Rattle.split.specs.Split.{good, first_bad, some_below}
use Rattle.split.specs.Weak.{weak}
use Rattle.split.proofs.Neighbours.{some_at, none_at}
use Rattle.condition.proofs.Partitions.{member_of}
use Rattle.flow.proofs.Membership.{has_both, has_left, left_has, shared_small, only_has}
use Rattle.planner.specs.Choice.{holds_weak, meets_all, without, thinned, quorum_of, side_of}
use Rattle.planner.proofs.WeakSets.{weak_apart, weak_meets_weak}

-- a server of V that is in both
abbrev pub Shared : (n a b : ℕ) → Type 0
Shared n a b = (x : ℕ) × (x < n) × In (has a) x × In (has b) x

-- V−F, by members
pub sound_has : (n F x : ℕ) → x < n → Out (has F) x → In (has (minus (full n) F)) x
sound_has n F x k o = left_has (full n) F x (has_full n x ∙ lt-ltb x n k) o

pub has_sound : (n F x : ℕ) → In (has (minus (full n) F)) x → (x < n) × Out (has F) x
has_sound n F x e = let (p, q) = has_left (full n) F x e in (ltb-true x n (sym (has_full n x) ∙ p), q)

pub sound_small : (n F : ℕ) → minus (full n) F < 2 ^ n
sound_small n F = minus_small n (full n) F (full_small n)

-- V−F has n servers less those of F
pub sound_count : (n F : ℕ) → count n (has (minus (full n) F)) + count n (has F) ≡ n
sound_count n F =
    sym (count_apart n (has (minus (full n) F)) (has F) (λ i k a b. clash (has F i) b (has_sound n F i a).1))
    ∙ count_all n (λ (i : ℕ). has (minus (full n) F) i || has F i) (λ i k. cases (has F i) (λ e. cases (has (minus (full n) F) i) (λ z. cc) (λ z. cc)) (λ e. let z = sound_has n F i k e in cc))

module _ (n f : ℕ) (links : Links) (few : n ≤ 8) (F : ℕ) (small : F < 2 ^ n) where
  abbrev W : ℕ
  W = minus (full n) F

  -- R lies within what S leaves of V−F, if it shares nothing with S
  weak_within : (S R : ℕ) → R < 2 ^ n → weak n f links F R ≡ true → meet R S ≡ 0 → within R (minus W S) ≡ true
  weak_within S R k w z =
      in_within n R (minus W S) k (minus_small n W S (sound_small n F))
      (λ x j h. left_has W S x (sound_has n F x j (weak_apart n f links F R w x h)) (is_false (has S x) λ q. clash (has (meet R S) x) (has_meet R S x ∙ both (has R x) (has S x) h q) (ap (λ (s : ℕ). has s x) z ∙ has_empty x)))

  pub meets_at : (S : ℕ) → meets_all n f links F S ≡ true → (R : ℕ) → R < 2 ^ n → weak n f links F R ≡ true → Shared n R S
  unfolding meets_all holds_weak
  meets_at S e R k w =
      let o = none_at (2 ^ n) (λ (R : ℕ). within R (minus W S) && weak n f links F R) (not-true (some_below (2 ^ n) (λ (R : ℕ). within R (minus W S) && weak n f links F R)) e) R k in
      cases (eqb (meet R S) 0)
      (λ z. let i = weak_within S R k w (eqb-true (meet R S) 0 z) in clash (within R (minus W S) && weak n f links F R) (both (within R (minus W S)) (weak n f links F R) i w) o)
      (λ z. let (x, j, h) = member_of n (meet R S) few (shared_small n R S k) z in let (a, b) = has_both R S x h in (x, j, a, b))

  -- a weak set that S misses
  pub record Missed (S : ℕ) : Type 0 where
    pub set : ℕ
    pub inside : set < 2 ^ n
    pub frail : weak n f links F set ≡ true
    pub apart : (x : ℕ) → In (has set) x → Out (has S) x

  pub meets_not : (S : ℕ) → meets_all n f links F S ≡ false → Missed S
  unfolding meets_all holds_weak
  meets_not S e =
      let t = not-false (some_below (2 ^ n) (λ (R : ℕ). within R (minus W S) && weak n f links F R)) e in
      let (R, k, h) = some_at (2 ^ n) (λ (R : ℕ). within R (minus W S) && weak n f links F R) t in
      record {
        set = R;
        inside = k;
        frail = and_right (within R (minus W S)) (weak n f links F R) h;
        apart = λ x i. (has_left W S x (within_in R (minus W S) (and_left (within R (minus W S)) (weak n f links F R) h) x i)).1;
      }

  pub meets_of : (S : ℕ) → ((R : ℕ) → R < 2 ^ n → weak n f links F R ≡ true → Shared n R S) → meets_all n f links F S ≡ true
  meets_of S h =
      cases (meets_all n f links F S) (λ e. e)
      (λ e. let m = meets_not S e in let (x, k, a, b) = h m.set m.inside m.frail in clash (has S x) b (m.apart x a))

  pub meets_more : (S S' : ℕ) → ((x : ℕ) → In (has S) x → In (has S') x) → meets_all n f links F S ≡ true → meets_all n f links F S' ≡ true
  meets_more S S' h e = meets_of S' (λ R k w. let (x, j, a, b) = meets_at S e R k w in (x, j, a, h x b))

  pub side_meets : first_bad n f links ≡ good → size F ≤ f → (P : ℕ) → meets_all n f links F (side_of n f links F P) ≡ true
  unfolding side_of
  side_meets g bound P =
      cases (meets_all n f links F P)
      (λ e. cases (meets_all n f links F (minus W P))
      (λ q. cases (ltb (quorum_of n f links F P) (quorum_of n f links F (minus W P))) (λ l. rw (e, q, l) e) (λ l. rw (e, q, l) q))
      (λ q. rw (e, q) e))
      (λ e. rw e (meets_of (minus W P) (other (meets_not P e))))
    where
      -- a weak set meets the one that P misses, and outside P
      other : Missed P → (R : ℕ) → R < 2 ^ n → weak n f links F R ≡ true → Shared n R (minus W P)
      other m R k w =
          let (x, j, a, b) = weak_meets_weak n f links few g F small bound R m.set k m.inside w m.frail in
          (x, j, a, left_has W P x (sound_has n F x j (weak_apart n f links F R w x a)) (m.apart x b))

  -- taking servers out

  without_inside : (S y x : ℕ) → In (has (without n f links F S y)) x → In (has S) x
  unfolding without
  without_inside S y x e =
      cases (has S y && meets_all n f links F (minus S (single y)))
      (λ q. let z : has (minus S (single y)) x ≡ true = cc in (has_left S (single y) x z).0)
      (λ q. cc)

  without_meets : (S y : ℕ) → meets_all n f links F S ≡ true → meets_all n f links F (without n f links F S y) ≡ true
  unfolding without
  without_meets S y e =
      cases (has S y && meets_all n f links F (minus S (single y)))
      (λ q. rw q (and_right (has S y) (meets_all n f links F (minus S (single y))) q))
      (λ q. rw q e)

  -- if y is still there, it is needed
  without_needs : (S y : ℕ) → y < 8 → In (has (without n f links F S y)) y → meets_all n f links F (minus S (single y)) ≡ false
  unfolding without
  without_needs S y k e =
      cases (has S y && meets_all n f links F (minus S (single y)))
      (λ q. let z : has (minus S (single y)) y ≡ true = cc in clash (has (single y) y) (only_has y k) (has_left S (single y) y z).1)
      (λ q. let z : has S y ≡ true = cc in cases (meets_all n f links F (minus S (single y))) (λ t. cc) (λ t. t))

  pub thinned_inside : (k S x : ℕ) → In (has (thinned n f links F k S)) x → In (has S) x
  unfolding thinned
  thinned_inside zero S x e = e
  thinned_inside (suc k) S x e = without_inside S k x (thinned_inside k (without n f links F S k) x e)

  pub thinned_meets : (k S : ℕ) → meets_all n f links F S ≡ true → meets_all n f links F (thinned n f links F k S) ≡ true
  unfolding thinned
  thinned_meets zero S e = e
  thinned_meets (suc k) S e = thinned_meets k (without n f links F S k) (without_meets S k e)

  fewer : (S S' x : ℕ) → ((i : ℕ) → In (has S') i → In (has S) i) → meets_all n f links F (minus S (single x)) ≡ false → meets_all n f links F (minus S' (single x)) ≡ false
  fewer S S' x h e =
      is_false (meets_all n f links F (minus S' (single x))) λ t.
      clash (meets_all n f links F (minus S (single x)))
      (meets_more (minus S' (single x)) (minus S (single x)) (λ i q. let (a, b) = has_left S' (single x) i q in left_has S (single x) i (h i a) b) t) e

  pub thinned_needs : (k S x : ℕ) → x < k → k ≤ 8 → In (has (thinned n f links F k S)) x
      → meets_all n f links F (minus (thinned n f links F k S) (single x)) ≡ false
  unfolding thinned
  thinned_needs zero S x a b e = absurd (omega arith)
  thinned_needs (suc k) S x a b e =
      cases (eqb k x)
      (λ q. let z = eqb-true k x q in
      let s = thinned_inside k (without n f links F S k) in
      let i = s x e in
      let w = without_needs S k (omega arith) (rw (← z) at i) in
      fewer S (thinned n f links F k (without n f links F S k)) x (λ j t. without_inside S k j (s j t)) (rw z at w))
      (λ q. let z = eqb-false k x q in thinned_needs k (without n f links F S k) x (omega arith) (omega arith) e)
