-- How the incoming neighbours of two sets compare with those of their union and of what they share: their number is submodular.
--     count_four         two counts against two others, server by server
--     outside_sub        outside F, the incoming neighbours of a∩b and of a∪b are together no more than those of a and of b
-- Assumes nothing.
use mathlib.Core.Path.{◌≡◌, sym, ◌∙◌}
use mathlib.Core.Logic.{◌⊎◌, inl, inr, ⊎_elim}
use mathlib.Core.Bool.{true, not, ◌&&◌, ◌||◌}
use Prim.Native.Nat.{ℕ, ◌+◌, ◌≤◌, ◌<◌}
use native.Mathlib.Omega.{arith}
use Rattle.facts.proofs.Bools.{cases, clash, both, or_cases, and_left, and_right, is_false}
use Rattle.sets.specs.Sets.{Set, has, union, meet, count}
use Rattle.sets.proofs.Members.{has_union, has_meet}
use Rattle.sets.proofs.Counts.{count_or, count_mono}
use Rattle.network.specs.Links.{Links, linked_in}
use Rattle.split.specs.Split.{some_below, incoming}
use Rattle.split.specs.Weak.{outside}
use Rattle.split.proofs.Neighbours.{some_at, some_of}

pub count_four : (n : ℕ) (p q r s : Set)
    → ((i : ℕ) → i < n → (p i || q i) ≡ true → (r i || s i) ≡ true)
    → ((i : ℕ) → i < n → (p i && q i) ≡ true → (r i && s i) ≡ true)
    → count n p + count n q ≤ count n r + count n s
count_four n p q r s a b =
    let c = count_or n p q in
    let d = count_or n r s in
    let e = count_mono n (λ (i : ℕ). p i || q i) (λ (i : ℕ). r i || s i) a in
    let g = count_mono n (λ (i : ℕ). p i && q i) (λ (i : ℕ). r i && s i) b in
    omega arith

module _ (n : ℕ) (links : Links) where
  -- u has a link into s
  abbrev into : ℕ → Set
  into s u = some_below n (λ (v : ℕ). has s v && linked_in links u v)

  into_more : (a b u : ℕ) → ((i : ℕ) → has a i ≡ true → has b i ≡ true) → into a u ≡ true → into b u ≡ true
  into_more a b u h e =
      let (v, k, w) = some_at n (λ (v : ℕ). has a v && linked_in links u v) e in
      some_of n (λ (v : ℕ). has b v && linked_in links u v) v k (both (has b v) (linked_in links u v) (h v (and_left (has a v) (linked_in links u v) w)) (and_right (has a v) (linked_in links u v) w))

  into_shared_left : (a b u : ℕ) → into (meet a b) u ≡ true → into a u ≡ true
  into_shared_left a b u = into_more (meet a b) a u (λ i e. and_left (has a i) (has b i) (sym (has_meet a b i) ∙ e))

  into_shared_right : (a b u : ℕ) → into (meet a b) u ≡ true → into b u ≡ true
  into_shared_right a b u = into_more (meet a b) b u (λ i e. and_right (has a i) (has b i) (sym (has_meet a b i) ∙ e))

  into_union : (a b u : ℕ) → into (union a b) u ≡ true → (into a u ≡ true) ⊎ (into b u ≡ true)
  into_union a b u e =
      let (v, k, w) = some_at n (λ (v : ℕ). has (union a b) v && linked_in links u v) e in
      let l = and_right (has (union a b) v) (linked_in links u v) w in
      let m = sym (has_union a b v) ∙ and_left (has (union a b) v) (linked_in links u v) w in
      ⊎_elim (λ x. inl (some_of n (λ (v : ℕ). has a v && linked_in links u v) v k (both (has a v) (linked_in links u v) x l)))
      (λ x. inr (some_of n (λ (v : ℕ). has b v && linked_in links u v) v k (both (has b v) (linked_in links u v) x l))) (or_cases (has a v) (has b v) m)

  module _ (F a b : ℕ) where
    abbrev near : ℕ → Set
    near s u = not (has F u) && incoming n links s u

    near_or : (u : ℕ) → (near (meet a b) u || near (union a b) u) ≡ true → (near a u || near b u) ≡ true
    unfolding incoming
    near_or u e =
        let p = has_meet a b u in
        let q = has_union a b u in
        cases (into a u)
        (λ x. cases (into b u)
        (λ y. cases (has F u) (λ z. cc) (λ z. cases (has a u) (λ i. cases (has b u) (λ j. cc) (λ j. cc)) (λ i. cc)))
        (λ y. let k = is_false (into (meet a b) u) (λ t. clash (into b u) (into_shared_right a b u t) y) in
        cases (has F u) (λ z. cc) (λ z. cases (has a u) (λ i. cases (has b u) (λ j. cc) (λ j. cc)) (λ i. cc))))
        (λ x. let k = is_false (into (meet a b) u) (λ t. clash (into a u) (into_shared_left a b u t) x) in
        cases (into b u)
        (λ y. cases (has F u) (λ z. cc) (λ z. cases (has a u) (λ i. cases (has b u) (λ j. cc) (λ j. cc)) (λ i. cases (has b u) (λ j. cc) (λ j. cc))))
        (λ y. let m = is_false (into (union a b) u) (λ t. ⊎_elim (λ s. clash (into a u) s x) (λ s. clash (into b u) s y) (into_union a b u t)) in
        cases (has F u) (λ z. cc) (λ z. cases (has a u) (λ i. cases (has b u) (λ j. cc) (λ j. cc)) (λ i. cases (has b u) (λ j. cc) (λ j. cc)))))

    near_and : (u : ℕ) → (near (meet a b) u && near (union a b) u) ≡ true → (near a u && near b u) ≡ true
    unfolding incoming
    near_and u e =
        let p = has_union a b u in
        cases (has F u) (λ z. cc)
        (λ z. cases (into (meet a b) u)
        (λ x. let s = into_shared_left a b u x in
        let t = into_shared_right a b u x in
        cases (has a u) (λ i. cases (has (meet a b) u) (λ j. cc) (λ j. cc)) (λ i. cases (has b u) (λ j. cases (has (meet a b) u) (λ k. cc) (λ k. cc)) (λ j. cc)))
        (λ x. cases (has (meet a b) u) (λ j. cc) (λ j. cc)))

    pub outside_sub : outside n links F (meet a b) + outside n links F (union a b) ≤ outside n links F a + outside n links F b
    unfolding outside
    outside_sub = count_four n (near (meet a b)) (near (union a b)) (near a) (near b) (λ i k. near_or i) (λ i k. near_and i)
