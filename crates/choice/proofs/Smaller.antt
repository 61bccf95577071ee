-- Why the table can be filled in the order of the numbers: a weak set within X is X itself or misses some server of X, and X without a server is a
-- smaller number.
--     less_number     X without one of its servers is a smaller number; less_apart it is apart from what X is apart from
--     holds_empty     the empty set holds no weak set
--     holds_less      X holds a weak set exactly if it is weak, or holds one without some server of it
-- Assumes nothing.
use mathlib.Core.Path.{◌≡◌, ap, ◌∙◌}
use mathlib.Core.Logic.{⊎_elim}
use mathlib.Core.Bool.{true, false, ◌&&◌, ◌||◌}
use Prim.Native.Nat.{ℕ, ◌+◌, ◌^◌, ◌≤◌, ◌<◌}
use native.Mathlib.Omega.{arith}
use lib.Bits.{xor_add_and}
use lib.Dec.{eqb}
use borrow.Author.Tests.{eqb-true}
use Rattle.facts.proofs.Bools.{cases, clash, is_false, and_left, and_right, both, or_cases, same}
use Rattle.sets.specs.Sets.{Set, In, Out, has, single, meet, minus, within}
use Rattle.sets.proofs.Members.{has_meet, has_minus, has_empty, minus_small, within_in, meet_apart, apart_meet, same_all}
use Rattle.network.specs.Links.{Links}
use Rattle.split.specs.Split.{some_below}
use Rattle.split.specs.Weak.{weak}
use Rattle.split.proofs.Neighbours.{some_at, some_of}
use Rattle.condition.proofs.Partitions.{member_of}
use Rattle.flow.proofs.Membership.{has_left, left_has, within_of, only_out, only_has}
use Rattle.planner.specs.Choice.{holds_weak}
use Rattle.planner.proofs.WeakSets.{weak_some}

-- what is taken out of a set and what is left are the whole
minus_meet : (a b : ℕ) → minus a b + meet a b ≡ a
unfolding minus meet
minus_meet a b = let e = xor_add_and a (meet a b) in let m = again in omega arith
  where
    again : meet a (meet a b) ≡ meet a b
    again =
        same_all (meet a (meet a b)) (meet a b)
        (λ i. let p = has_meet a (meet a b) i in let q = has_meet a b i in cases (has a i) (λ x. cc) (λ x. cc))

pub less_number : (X x : ℕ) → x < 8 → In (has X) x → minus X (single x) < X
less_number X x k h =
    let e = minus_meet X (single x) in
    let some : meet X (single x) ≡ 0 → ⊥ = λ z.
    clash (has (meet X (single x)) x) (has_meet X (single x) x ∙ both (has X x) (has (single x) x) h (only_has x k)) (ap (λ (s : ℕ). has s x) z ∙ has_empty x) in
    omega arith

pub less_apart : (n X s F : ℕ) → X < 2 ^ n → meet X F ≡ 0 → meet (minus X s) F ≡ 0
less_apart n X s F small e =
    apart_meet n (minus X s) F (minus_small n X s small)
    (λ i k. let a = meet_apart X F e i in let m = has_minus X s i in cases (has X i) (λ p. cases (has F i) (λ q. cc) (λ q. cases (has (minus X s) i) (λ r. cc) (λ r. cc))) (λ p. cc))

module _ (n f : ℕ) (links : Links) (F : ℕ) where
  -- some weak set lies within X
  abbrev Holds : ℕ → Type 0
  Holds X = (R : ℕ) × (R < 2 ^ n) × ((x : ℕ) → In (has R) x → In (has X) x) × (weak n f links F R ≡ true)

  held : (X : ℕ) → holds_weak n f links F X ≡ true → Holds X
  unfolding holds_weak
  held X e =
      let (R, k, h) = some_at (2 ^ n) (λ (R : ℕ). within R X && weak n f links F R) e in
      (R, k, within_in R X (and_left (within R X) (weak n f links F R) h), and_right (within R X) (weak n f links F R) h)

  holds : (X : ℕ) → Holds X → holds_weak n f links F X ≡ true
  unfolding holds_weak
  holds X (R, k, i, w) = some_of (2 ^ n) (λ (R : ℕ). within R X && weak n f links F R) R k (both (within R X) (weak n f links F R) (within_of R X i) w)

  pub holds_empty : n ≤ 8 → holds_weak n f links F 0 ≡ false
  holds_empty few =
      is_false (holds_weak n f links F 0)
      (λ e. let (R, k, i, w) = held 0 e in let (x, j, h) = weak_some n f links F R few k w in clash (has 0 x) (i x h) (has_empty x))

  -- x is in X, which holds a weak set without x
  abbrev pub holdsWithout : ℕ → Set
  holdsWithout X x = has X x && holds_weak n f links F (minus X (single x))

  module _ (few : n ≤ 8) (X : ℕ) (small : X < 2 ^ n) where
    -- a set within X that lacks no server of it is X
    whole : (R : ℕ) → ((x : ℕ) → In (has R) x → In (has X) x) → minus X R ≡ 0 → R ≡ X
    whole R i z =
        same_all R X λ x. same (has R x) (has X x) (i x) λ h.
        cases (has R x) (λ q. q) (λ q. clash (has (minus X R) x) (left_has X R x h q) (ap (λ (s : ℕ). has s x) z ∙ has_empty x))

    -- one that lacks x lies within X without x
    lacks : (R x : ℕ) → ((y : ℕ) → In (has R) y → In (has X) y) → Out (has R) x → (y : ℕ) → In (has R) y → In (has (minus X (single x))) y
    lacks R x i o y h = left_has X (single x) y (i y h) (only_out x y (λ q. clash (has R x) (rw q at h) o))

    holds_here : weak n f links F X ≡ true → holds_weak n f links F X ≡ true
    holds_here w = holds X (X, small, (λ x h. h), w)

    holds_more : some_below 8 (holdsWithout X) ≡ true → holds_weak n f links F X ≡ true
    holds_more e =
        let (x, k, h) = some_at 8 (holdsWithout X) e in
        let (R, j, i, w) = held (minus X (single x)) (and_right (has X x) (holds_weak n f links F (minus X (single x))) h) in
        holds X (R, j, (λ y p. (has_left X (single x) y (i y p)).0), w)

    holds_fewer : holds_weak n f links F X ≡ true → (weak n f links F X || some_below 8 (holdsWithout X)) ≡ true
    holds_fewer e =
        let (R, k, i, w) = held X e in
        cases (eqb (minus X R) 0)
        (λ z. let q = whole R i (eqb-true (minus X R) 0 z) in let a = rw q at w in cc)
        (λ z. let (x, j, h) = member_of n (minus X R) few (minus_small n X R small) z in
        let (a, o) = has_left X R x h in
        let l = holds (minus X (single x)) (R, k, lacks R x i o, w) in
        let s = some_of 8 (holdsWithout X) x (omega arith) (both (has X x) (holds_weak n f links F (minus X (single x))) a l) in
        cases (weak n f links F X) (λ q. cc) (λ q. cc))

    pub holds_less : holds_weak n f links F X ≡ (weak n f links F X || some_below 8 (holdsWithout X))
    holds_less =
        same (holds_weak n f links F X) (weak n f links F X || some_below 8 (holdsWithout X)) holds_fewer
        (λ e. ⊎_elim holds_here holds_more (or_cases (weak n f links F X) (some_below 8 (holdsWithout X)) e))
