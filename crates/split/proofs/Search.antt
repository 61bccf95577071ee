-- The search over one range for the first place that is not good.
--     first_from_good   a good answer: all of the range is good; first_from_all the other way
--     first_from_bad    a bad answer: it is the answer at some place, and all before it is good
--     breaks           the test of one split
-- A range is taken apart from its front.
-- Assumes nothing.
use mathlib.Core.Path.{◌≡◌, refl}
use mathlib.Core.Logic.{◌⊎◌, inl, inr, ⊎_elim}
use mathlib.Core.Bool.{Bool, ◌&&◌}
use Prim.Native.Nat.{ℕ, zero, suc, ◌+◌, ◌≤◌, ◌<◌}
use native.Mathlib.Omega.{arith}
use lib.Dec.{eqb}
use borrow.Author.Tests.{eqb-true, eqb-false}
use Rattle.facts.proofs.Bools.{cases}
use Rattle.network.specs.Links.{Links}
use Rattle.split.specs.Split.{Split, good, bad, unread, or_else, first_from, rest, is_split, is_bad}

-- one range

or_else_first : (a b : Split) → or_else a b ≡ good → a ≡ good
or_else_first good b e = refl
or_else_first (bad f l c r) b e = e
or_else_first (unread r) b e = e

or_else_second : (a b : Split) → or_else a b ≡ good → b ≡ good
or_else_second good b e = e
or_else_second (bad f l c r) b e = cc
or_else_second (unread r) b e = cc

or_else_bad : (a b : Split) (F L C R : ℕ) → or_else a b ≡ bad F L C R → (a ≡ bad F L C R) ⊎ ((a ≡ good) × (b ≡ bad F L C R))
or_else_bad good b F L C R e = inr (refl, e)
or_else_bad (bad f l c r) b F L C R e = inl e
or_else_bad (unread r) b F L C R e = inl e

pub first_from_good : (k lo : ℕ) (p : ℕ → Split) → first_from k lo p ≡ good → (i : ℕ) → lo ≤ i → i < lo + k → p i ≡ good
unfolding first_from
first_from_good zero lo p e i a b = absurd (omega arith)
first_from_good (suc k) lo p e i a b =
    let now = or_else_first (p lo) (first_from k (suc lo) p) e in
    let later = or_else_second (p lo) (first_from k (suc lo) p) e in
    cases (eqb lo i)
    (λ q. let z = eqb-true lo i q in cc)
    (λ q. let z = eqb-false lo i q in first_from_good k (suc lo) p later i (omega arith) (omega arith))

pub first_from_all : (k lo : ℕ) (p : ℕ → Split) → ((i : ℕ) → lo ≤ i → i < lo + k → p i ≡ good) → first_from k lo p ≡ good
unfolding first_from
first_from_all zero lo p h = refl
first_from_all (suc k) lo p h =
    let now = h lo (omega arith) (omega arith) in
    let later = first_from_all k (suc lo) p (λ i a b. h i (omega arith) (omega arith)) in
    rw now later

-- the place of a bad answer: nothing before it is bad
pub record Place (k lo : ℕ) (p : ℕ → Split) (F L C R : ℕ) : Type 0 where
  pub place : ℕ
  pub from : lo ≤ place
  pub upto : place < lo + k
  pub here : p place ≡ bad F L C R
  pub before : (i : ℕ) → lo ≤ i → i < place → p i ≡ good

pub good_clash {ℓ} : {D : Type ℓ} (a : Split) (F L C R : ℕ) → a ≡ good → a ≡ bad F L C R → D
good_clash a F L C R p q = absurd (let z : ◌≡◌ {A = ℕ} 0 1 = cc in omega arith)

pub first_from_bad : (k lo : ℕ) (p : ℕ → Split) (F L C R : ℕ) → first_from k lo p ≡ bad F L C R → Place k lo p F L C R
unfolding first_from
first_from_bad zero lo p F L C R e = good_clash good F L C R refl e
first_from_bad (suc k) lo p F L C R e =
    ⊎_elim
    (λ now. record { place = lo; from = omega arith; upto = omega arith; here = now; before = λ i a b. absurd (omega arith) })
    (λ later. step k lo p F L C R later.0 (first_from_bad k (suc lo) p F L C R later.1))
    (or_else_bad (p lo) (first_from k (suc lo) p) F L C R e)
  where
    step : (k lo : ℕ) (p : ℕ → Split) (F L C R : ℕ) → p lo ≡ good → Place k (suc lo) p F L C R → Place (suc k) lo p F L C R
    step k lo p F L C R now l =
        let a = l.from in
        let b = l.upto in
        record {
          place = l.place;
          from = omega arith;
          upto = omega arith;
          here = l.here;
          before = λ i c d.
              cases (eqb lo i) (λ q. let z = eqb-true lo i q in cc) (λ q. let z = eqb-false lo i q in l.before i (omega arith) d);
        }

-- the test of bad_at: F, L and R make a split, and it is bad
abbrev pub breaks : ℕ → ℕ → Links → ℕ → ℕ → ℕ → Bool
breaks n f links F L R = is_split f F L R && is_bad n f links L (rest n F L R) R
