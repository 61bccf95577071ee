-- The split test and Theorem 1: the search finds no bad split exactly if the condition holds, and reports the first partition that breaks it.
--     arrow_cases                      an arrow, or the lack of one
--     good_condition, condition_good   the answer is good exactly if the condition holds
--     bad_broken                       the reported split breaks the condition
--     bad_inside                       it is one of four sets of V
--     bad_first                        no split before it does
-- A partition that breaks the condition is found at the numbers of its sets, and what passes the test at some numbers is such a partition.
-- Assumes nothing.
use mathlib.Core.Path.{◌≡◌, refl}
use mathlib.Core.Logic.{inl, inr, ⊎_elim}
use mathlib.Core.Bool.{◌&&◌}
use Prim.Native.Nat.{ℕ, ◌^◌, ◌≤◌, ◌<◌}
use native.Mathlib.Omega.{arith}
use lib.Dec.{ltb}
use borrow.Author.Tests.{ltb-true, ltb-false}
use Rattle.facts.proofs.Bools.{cases, clash, is_false}
use Rattle.sets.specs.Sets.{Set, Edges, has, union, minus, full, count, encode}
use Rattle.sets.proofs.Members.{minus_small, full_small, encode_has, encode_small}
use Rattle.network.specs.Links.{Links, linked_in}
use Rattle.split.specs.Split.{good, bad, rest, first_bad}
use Rattle.condition.specs.Condition.{neighbour, Arrow, joined, Broken, Condition, Earlier}
use Rattle.split.proofs.Search.{breaks}
use Rattle.condition.proofs.Search.{first_bad_good, first_bad_all, first_bad_bad}
use Rattle.condition.proofs.Partitions.{breaks_broken, broken_breaks}

-- an arrow, or the lack of one
pub arrow_cases {ℓ} : {D : Type ℓ} (n f : ℕ) (E : Edges) (A B : Set) → (Arrow n f E A B → D) → ((Arrow n f E A B → ⊥) → D) → D
arrow_cases n f E A B g h =
    let c = count n (λ (i : ℕ). A i && neighbour n E B i) in
    cases (ltb f c) (λ e. g (ltb-true f c e)) (λ e. let m = ltb-false f c e in h (λ w. omega arith))

none_broken : (n f : ℕ) (links : Links) → n ≤ 8 → first_bad n f links ≡ good → (F L C R : Set) → Broken n f (linked_in links) F L C R → ⊥
none_broken n f links h e F L C R w =
    let a = encode_small n F in
    let b = encode_small n L in
    let c = encode_small n R in
    clash (breaks n f links (encode n F) (encode n L) (encode n R))
    (broken_breaks n f links (encode n F) (encode n L) (encode n R) F L C R h a b c (encode_has n F) (encode_has n L) (encode_has n R) w)
    (first_bad_good n f links e (encode n F) (encode n L) (encode n R) a b c)

pub good_condition : (n f : ℕ) (links : Links) → n ≤ 8 → first_bad n f links ≡ good → Condition n f (linked_in links)
good_condition n f links h e F L C R p l r s =
    arrow_cases n f (linked_in links) (joined L C) R inl λ noR.
    arrow_cases n f (linked_in links) (joined R C) L inr λ noL.
    absurd (none_broken n f links h e F L C R record { partition = p; left = l; right = r; few = s; no_arrow_r = noR; no_arrow_l = noL })

condition_unbroken : (n f : ℕ) (E : Edges) → Condition n f E → (F L C R : Set) → Broken n f E F L C R → ⊥
condition_unbroken n f E c F L C R w = ⊎_elim w.no_arrow_r w.no_arrow_l (c F L C R w.partition w.left w.right w.few)

pub condition_good : (n f : ℕ) (links : Links) → n ≤ 8 → Condition n f (linked_in links) → first_bad n f links ≡ good
condition_good n f links h c =
    first_bad_all n f links λ F L R x y z.
    is_false (breaks n f links F L R) λ e.
    condition_unbroken n f (linked_in links) c (has F) (has L) (has (rest n F L R)) (has R) (breaks_broken n f links F L R h x y z e)

pub bad_broken : (n f : ℕ) (links : Links) → n ≤ 8 → (F L C R : ℕ) → first_bad n f links ≡ bad F L C R
    → Broken n f (linked_in links) (has F) (has L) (has C) (has R)
bad_broken n f links h F L C R e =
    let w = first_bad_bad n f links F L C R e in
    rw w.others at (breaks_broken n f links F L R h w.F-small w.L-small w.R-small w.here)

pub bad_inside : (n f : ℕ) (links : Links) (F L C R : ℕ) → first_bad n f links ≡ bad F L C R → (F < 2 ^ n) × (L < 2 ^ n) × (C < 2 ^ n) × (R < 2 ^ n)
unfolding rest
bad_inside n f links F L C R e =
    let w = first_bad_bad n f links F L C R e in
    let c : rest n F L R < 2 ^ n = minus_small n (minus (full n) F) (union L R) (minus_small n (full n) F (full_small n)) in
    (w.F-small, w.L-small, rw w.others at c, w.R-small)

pub bad_first : (n f : ℕ) (links : Links) → n ≤ 8 → (F L C R : ℕ) → first_bad n f links ≡ bad F L C R
    → (F' L' C' R' : ℕ) → F' < 2 ^ n → L' < 2 ^ n → R' < 2 ^ n → Earlier F' L' R' F L R
    → Broken n f (linked_in links) (has F') (has L') (has C') (has R') → ⊥
bad_first n f links h F L C R e F' L' C' R' x y z q w =
    clash (breaks n f links F' L' R')
    (broken_breaks n f links F' L' R' (has F') (has L') (has C') (has R') h x y z (λ i k. refl) (λ i k. refl) (λ i k. refl) w)
    ((first_bad_bad n f links F L C R e).before F' L' R' x y z q)
