-- The search for the first bad split: what its answer says of each split.
--     first_bad_good    a good answer: no split breaks; first_bad_all the other way
--     first_bad_bad     a bad answer: the split that it names breaks, and none before it does
-- The three ranges, of F, L and R, are nested: an answer in one is an answer of the range within it.
-- Assumes nothing.
use mathlib.Core.Path.{◌≡◌, refl}
use mathlib.Core.Logic.{inl, inr}
use mathlib.Core.Bool.{true, false}
use Prim.Native.Nat.{ℕ, ◌^◌, ◌≤◌, ◌<◌}
use native.Mathlib.Omega.{arith}
use Rattle.facts.proofs.Bools.{cases}
use Rattle.network.specs.Links.{Links}
use Rattle.split.specs.Split.{good, bad, rest, bad_at, bad_with_sides, bad_with_faults, first_bad}
use Rattle.split.proofs.Search.{good_clash, first_from_good, first_from_all, first_from_bad, breaks}
use Rattle.condition.specs.Condition.{Earlier}

-- one split

bad_at_good : (n f : ℕ) (links : Links) (F L R : ℕ) → bad_at n f links F L R ≡ good → breaks n f links F L R ≡ false
unfolding bad_at
bad_at_good n f links F L R e = cases (breaks n f links F L R) (λ q. cc) (λ q. q)

bad_at_passed : (n f : ℕ) (links : Links) (F L R : ℕ) → breaks n f links F L R ≡ false → bad_at n f links F L R ≡ good
unfolding bad_at
bad_at_passed n f links F L R e = cc

bad_at_bad : (n f : ℕ) (links : Links) (i j k F L C R : ℕ) → bad_at n f links i j k ≡ bad F L C R
    → (i ≡ F) × (j ≡ L) × (k ≡ R) × (rest n i j k ≡ C) × (breaks n f links i j k ≡ true)
unfolding bad_at
bad_at_bad n f links i j k F L C R e =
    cases (breaks n f links i j k)
    (λ q. let z : bad i j (rest n i j k) k ≡ bad F L C R = cc in (cc, cc, cc, cc, q))
    (λ q. let z : good ≡ bad F L C R = cc in good_clash good F L C R refl z)

-- the three ranges

bad_with_sides_good : (n f : ℕ) (links : Links) (F L : ℕ) → bad_with_sides n f links F L ≡ good
    → (R : ℕ) → R < 2 ^ n → breaks n f links F L R ≡ false
unfolding bad_with_sides
bad_with_sides_good n f links F L e R c =
    bad_at_good n f links F L R (first_from_good (2 ^ n) 0 (bad_at n f links F L) e R (omega arith) (omega arith))

bad_with_faults_good : (n f : ℕ) (links : Links) (F : ℕ) → bad_with_faults n f links F ≡ good
    → (L R : ℕ) → L < 2 ^ n → R < 2 ^ n → breaks n f links F L R ≡ false
unfolding bad_with_faults
bad_with_faults_good n f links F e L R b c =
    bad_with_sides_good n f links F L (first_from_good (2 ^ n) 0 (bad_with_sides n f links F) e L (omega arith) (omega arith)) R c

pub first_bad_good : (n f : ℕ) (links : Links) → first_bad n f links ≡ good
    → (F L R : ℕ) → F < 2 ^ n → L < 2 ^ n → R < 2 ^ n → breaks n f links F L R ≡ false
unfolding first_bad
first_bad_good n f links e F L R a b c =
    bad_with_faults_good n f links F (first_from_good (2 ^ n) 0 (bad_with_faults n f links) e F (omega arith) (omega arith)) L R b c

pub first_bad_all : (n f : ℕ) (links : Links)
    → ((F L R : ℕ) → F < 2 ^ n → L < 2 ^ n → R < 2 ^ n → breaks n f links F L R ≡ false) → first_bad n f links ≡ good
unfolding first_bad bad_with_faults bad_with_sides
first_bad_all n f links h =
    first_from_all (2 ^ n) 0 (bad_with_faults n f links) λ F _ a.
    first_from_all (2 ^ n) 0 (bad_with_sides n f links F) λ L _ b.
    first_from_all (2 ^ n) 0 (bad_at n f links F L) λ R _ c.
    bad_at_passed n f links F L R (h F L R (omega arith) (omega arith) (omega arith))

-- the split that the search reports: it breaks, and none before it does
pub record Found (n f : ℕ) (links : Links) (F L C R : ℕ) : Type 0 where
  pub F-small : F < 2 ^ n
  pub L-small : L < 2 ^ n
  pub R-small : R < 2 ^ n
  pub others : rest n F L R ≡ C
  pub here : breaks n f links F L R ≡ true
  pub before : (F' L' R' : ℕ) → F' < 2 ^ n → L' < 2 ^ n → R' < 2 ^ n → Earlier F' L' R' F L R → breaks n f links F' L' R' ≡ false

-- from the three places to the splits before them
before_places : (n f : ℕ) (links : Links) (i j k : ℕ)
    → ((F : ℕ) → 0 ≤ F → F < i → bad_with_faults n f links F ≡ good)
    → ((L : ℕ) → 0 ≤ L → L < j → bad_with_sides n f links i L ≡ good)
    → ((R : ℕ) → 0 ≤ R → R < k → bad_at n f links i j R ≡ good)
    → (F L R : ℕ) → F < 2 ^ n → L < 2 ^ n → R < 2 ^ n → Earlier F L R i j k → breaks n f links F L R ≡ false
before_places n f links i j k hF hL hR F L R a b c (inl p) = bad_with_faults_good n f links F (hF F (omega arith) p) L R b c
before_places n f links i j k hF hL hR F L R a b c (inr (inl (p, q))) =
    rw p (bad_with_sides_good n f links i L (hL L (omega arith) q) R c)
before_places n f links i j k hF hL hR F L R a b c (inr (inr (p, q, r))) =
    rw (p, q) (bad_at_good n f links i j R (hR R (omega arith) r))

same_found : (n f : ℕ) (links : Links) (i j k F L C R : ℕ) → i ≡ F → j ≡ L → k ≡ R → Found n f links i j C k → Found n f links F L C R
same_found n f links i j k F L C R p q r h = rw (p, q, r) at h

pub first_bad_bad : (n f : ℕ) (links : Links) (F L C R : ℕ) → first_bad n f links ≡ bad F L C R → Found n f links F L C R
unfolding first_bad bad_with_faults bad_with_sides
first_bad_bad n f links F L C R e =
    let i = first_from_bad (2 ^ n) 0 (bad_with_faults n f links) F L C R e in
    let j = first_from_bad (2 ^ n) 0 (bad_with_sides n f links i.place) F L C R i.here in
    let k = first_from_bad (2 ^ n) 0 (bad_at n f links i.place j.place) F L C R j.here in
    let is = bad_at_bad n f links i.place j.place k.place F L C R k.here in
    let a = i.upto in
    let b = j.upto in
    let c = k.upto in
    let before = before_places n f links i.place j.place k.place i.before j.before k.before in
    same_found n f links i.place j.place k.place F L C R is.0 is.1 is.2
    record { F-small = omega arith; L-small = omega arith; R-small = omega arith; others = is.3; here = is.4; before = before }
