-- The links of a network in ascending order.
--     pairs_all, pairs_only   they are the links, all of them and no other
--     pairs_ascend            each comes before all later ones
--     pairs_few               at most 56: from none of the eight servers to itself
--     order_one               two ascending lists of the same links are one
-- Assumes nothing.
use mathlib.Core.Path.{◌≡◌, refl, sym, ap, ap₂, ◌∙◌}
use mathlib.Core.Logic.{inl, inr, ⊎_elim}
use mathlib.Core.Bool.{cond, true}
use mathlib.Core.List.Memᴰ
use mathlib.Core.List.{List, [], ◌∷◌, Memᴰ}
use Prim.Native.Nat.{ℕ, zero, suc, ◌+◌, ◌*◌, ◌/◌, ◌%◌, ◌≤◌, ◌<◌}
use native.Mathlib.Omega.{arith}
use lib.ListN.{length}
use lib.Dec.{eqb, ltb}
use borrow.Author.Tests.{eqb-true, eqb-false, ltb-true, ltb-false}
use Rattle.facts.specs.Lists.{Each}
use Rattle.facts.proofs.Bools.{cases}
use Rattle.network.specs.Links.{Links, linked_in}
use Rattle.printer.specs.Print.{Link, links_among, ascending}
use Rattle.cards.specs.Twins.{SameLinks}
use Rattle.cards.specs.Clean.{Before, Ascending}

-- pairs that ascend by u, then by v
pair_before : (i j : ℕ) → i < j → Before (i / 8, i % 8) (j / 8, j % 8)
pair_before i j h =
    cases (ltb (i / 8) (j / 8))
    (λ e. inl (ltb-true (i / 8) (j / 8) e))
    (λ e. let k = ltb-false (i / 8) (j / 8) e in inr (omega arith, omega arith))

-- how many of the k pairs from i on are of two servers
others : ℕ → ℕ → ℕ
others zero i = 0
others (suc k) i = let later = others k (suc i) in cond (eqb (i / 8) (i % 8)) later (suc later)

module _ (links : Links) where
  -- a link from pair i on, with its pair
  record Paired (i : ℕ) (x : Link) : Type 0 where
    pair : ℕ
    from : i ≤ pair
    is : x ≡ (pair / 8, pair % 8)
    linked : linked_in links (pair / 8) (pair % 8) ≡ true

  paired_on : (i : ℕ) (x : Link) → Paired (suc i) x → Paired i x
  paired_on i x p = let h = p.from in record { pair = p.pair; from = omega arith; is = p.is; linked = p.linked }

  paired : (k i : ℕ) (x : Link) → Memᴰ x (links_among k i links) → Paired i x
  unfolding links_among
  paired zero i x m = elim m [ ]
  paired (suc k) i x m =
      cases (linked_in links (i / 8) (i % 8))
      (λ q. ⊎_elim
      (λ (e : x ≡ (i / 8, i % 8)). record { pair = i; from = omega arith; is = e; linked = q })
      (λ w. paired_on i x (paired k (suc i) x w))
      (Memᴰ.cases_cons (rw q at m)))
      (λ q. paired_on i x (paired k (suc i) x (rw q at m)))

  pair_in : (k i j : ℕ) → i ≤ j → j < i + k → linked_in links (j / 8) (j % 8) ≡ true → Memᴰ (j / 8, j % 8) (links_among k i links)
  unfolding links_among
  pair_in zero i j h l e = absurd (omega arith)
  pair_in (suc k) i j h l e =
      cases (eqb i j)
      (λ q. let z = eqb-true i j q in rw (z, e) (Memᴰ.head refl))
      (λ q. let z = eqb-false i j q in let later = pair_in k (suc i) j (omega arith) (omega arith) e in
      cases (linked_in links (i / 8) (i % 8)) (λ w. rw w (Memᴰ.tail later)) (λ w. rw w later))

  ascend_from : (k i : ℕ) → Ascending (links_among k i links)
  unfolding links_among
  ascend_from zero i = tt
  ascend_from (suc k) i =
      let later = ascend_from k (suc i) in
      let before : Each (Before (i / 8, i % 8)) (links_among k (suc i) links) = λ y m. let p = paired k (suc i) y m in let h = p.from in rw p.is (pair_before i p.pair (omega arith)) in
      cases (linked_in links (i / 8) (i % 8)) (λ q. rw q (before, later)) (λ q. rw q later)

  pub pairs_ascend : Ascending (ascending links)
  unfolding ascending
  pairs_ascend = ascend_from 64 0

  pub pairs_only : (u v : ℕ) → Memᴰ (u, v) (ascending links) → linked_in links u v ≡ true
  unfolding ascending
  pairs_only u v m =
      let p = paired 64 0 (u, v) m in
      ap₂ (linked_in links) (ap (λ (x : Link). x.0) p.is) (ap (λ (x : Link). x.1) p.is) ∙ p.linked

  pub pairs_all : (u v : ℕ) → u < 8 → v < 8 → linked_in links u v ≡ true → Memᴰ (u, v) (ascending links)
  unfolding ascending
  pairs_all u v hu hv e =
      let a : (8 * u + v) / 8 ≡ u = omega arith in
      let b : (8 * u + v) % 8 ≡ v = omega arith in
      rw (a, b) at (pair_in 64 0 (8 * u + v) (omega arith) (omega arith) (rw (a, b) e))

  module _ (apart : (u v : ℕ) → linked_in links u v ≡ true → u ≡ v → ⊥) where
    few_from : (k i : ℕ) → length (links_among k i links) ≤ others k i
    unfolding links_among others
    few_from zero i = omega arith
    few_from (suc k) i =
        let later = few_from k (suc i) in
        cases (eqb (i / 8) (i % 8))
        (λ q. cases (linked_in links (i / 8) (i % 8)) (λ w. absurd (apart (i / 8) (i % 8) w (eqb-true (i / 8) (i % 8) q))) (λ w. rw (q, w) later))
        (λ q. cases (linked_in links (i / 8) (i % 8)) (λ w. rw (q, w) (omega arith)) (λ w. rw (q, w) (omega arith)))

    pub pairs_few : length (ascending links) ≤ 56
    unfolding ascending others
    pairs_few = few_from 64 0

-- of two links not each comes before the other
not_both : {C : Type 0} (x y : Link) → Before x y → Before y x → C
not_both x y (inl a) (inl b) = absurd (omega arith)
not_both x y (inl a) (inr b) = absurd (omega arith)
not_both x y (inr a) (inl b) = absurd (omega arith)
not_both x y (inr a) (inr b) = absurd (omega arith)

-- the first of an ascending list is the one before all others
first_one : (x y : Link) (xs ys : List Link) → Each (Before x) xs → Each (Before y) ys → Memᴰ x (y ∷ ys) → Memᴰ y (x ∷ xs) → x ≡ y
first_one x y xs ys a b m w =
    ⊎_elim
    (λ (e : x ≡ y). e)
    (λ k. ⊎_elim (λ (e : y ≡ x). sym e) (λ l. not_both x y (a y l) (b x k)) (Memᴰ.cases_cons w))
    (Memᴰ.cases_cons m)

-- without the first of both, the others of one are still in the other
tail_in : (x y : Link) (xs ys : List Link) → x ≡ y → Each (Before x) xs → ((z : Link) → Memᴰ z (x ∷ xs) → Memᴰ z (y ∷ ys)) → (z : Link) → Memᴰ z xs → Memᴰ z ys
tail_in x y xs ys e a h z m =
    ⊎_elim
    (λ (q : z ≡ y). let b = a z m in let c = rw (q ∙ sym e) at b in not_both x x c c)
    (λ k. k)
    (Memᴰ.cases_cons (h z (Memᴰ.tail m)))

pub order_one : (xs ys : List Link) → Ascending xs → Ascending ys → SameLinks xs ys → xs ≡ ys
order_one [] [] a b s = refl
order_one [] (y ∷ ys) a b s = elim ((s y).1 (Memᴰ.head refl)) [ ]
order_one (x ∷ xs) [] a b s = elim ((s x).0 (Memᴰ.head refl)) [ ]
order_one (x ∷ xs) (y ∷ ys) a b s =
    let e = first_one x y xs ys a.0 b.0 ((s x).0 (Memᴰ.head refl)) ((s y).1 (Memᴰ.head refl)) in
    let tails = order_one xs ys a.1 b.1 (λ z. (tail_in x y xs ys e a.0 (λ w. (s w).0) z, tail_in y x ys xs (sym e) b.0 (λ w. (s w).1) z)) in
    ap₂ (λ (z : Link) (l : List Link). z ∷ l) e tails
