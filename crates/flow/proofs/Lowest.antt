-- The k lowest members of a set.
--     lowest_of_inside   they are members of it
--     lowest_of_few      they are at most k
--     lowest_of_size     they are k, if the set has so many
-- Assumes nothing.
use mathlib.Core.Path.{◌≡◌, sym, ap, ◌∙◌}
use mathlib.Core.Logic.{⊎_elim}
use mathlib.Core.Bool.{Bool, false, ◌&&◌, ◌||◌}
use Prim.Native.Nat.{ℕ, zero, suc, ◌+◌, ◌≤◌, ◌<◌}
use native.Mathlib.Omega.{arith}
use lib.Dec.{eqb, ltb}
use borrow.Author.Tests.{eqb-true, eqb-false, eq-eqb, ne_eqb, lt-ltb, ltb-true}
use Rattle.facts.proofs.Bools.{cases, clash, or_cases}
use Rattle.sets.specs.Sets.{In, has, single, union, minus, size, lowest}
use Rattle.sets.proofs.Members.{has_union, has_minus, has_single, has_empty, has_below, minus_small, same_all}
use Rattle.sets.proofs.Counts.{count_same, count_none, count_or, count_without, without, size_union, size_empty}
use Rattle.sets.proofs.LowestMember.{lowest_in, lowest_empty}
use Rattle.flow.specs.Search.{lowest_of}
use Rattle.flow.proofs.Membership.{has_left, has_only, only_out, only_has, nothing_shared}

pub size_single : (x : ℕ) → x < 8 → size (single x) ≡ 1
unfolding size
size_single x k =
    count_without 8 x (has (single x)) k (only_has x k)
    ∙ ap suc (count_none 8 (without x (has (single x))) (λ i j. cases (eqb i x) (λ e. cc) (λ e. let z = only_out x i (eqb-false i x e) in cc)))

pub size_less : (s x : ℕ) → x < 8 → In (has s) x → size s ≡ suc (size (minus s (single x)))
unfolding size
size_less s x k h =
    count_without 8 x (has s) k h
    ∙ ap suc (count_same 8 (without x (has s)) (has (minus s (single x))) (λ i j. let m = has_minus s (single x) i in let t = has_single x i in let l = lt-ltb x 8 k in
    cases (eqb i x)
    (λ e. let z = eqb-true i x e in let y = eq-eqb x i (sym z) in cases (has s i) (λ a. cc) (λ a. cc))
    (λ e. let y = ne_eqb x i (λ z. eqb-false i x e (sym z)) in cases (has s i) (λ a. cc) (λ a. cc))))

size_single_most : (x : ℕ) → size (single x) ≤ 1
size_single_most x =
    cases (ltb x 8)
    (λ e. let z = size_single x (ltb-true x 8 e) in omega arith)
    (λ e. let z = single_none x e in let y = ap size z ∙ size_empty in omega arith)
  where
    single_none : (x : ℕ) → ltb x 8 ≡ false → single x ≡ 0
    single_none x e = same_all (single x) 0 (λ i. has_single x i ∙ ap (λ (b : Bool). b && eqb x i) e ∙ sym (has_empty i))

size_union_most : (a b : ℕ) → size (union a b) ≤ size a + size b
unfolding size
size_union_most a b =
    let c = count_or 8 (has a) (has b) in
    let d = count_same 8 (has (union a b)) (λ (i : ℕ). has a i || has b i) (λ i k. has_union a b i) in
    omega arith

-- a set that is not empty has its lowest member, and it is one of the eight
lowest_there : (s : ℕ) → s < 256 → (s ≡ 0 → ⊥) → In (has s) (lowest s) × (lowest s < 8)
lowest_there s b o = let h = lowest_in s b o in (h, has_below 8 s (lowest s) b h)

pub lowest_of_inside : (k s x : ℕ) → s < 256 → In (has (lowest_of k s)) x → In (has s) x
unfolding lowest_of
lowest_of_inside zero s x b e = clash (has 0 x) e (has_empty x)
lowest_of_inside (suc k) s x b e =
    ⊎_elim (first x)
    (λ t. (has_left s (single (lowest s)) x (lowest_of_inside k (minus s (single (lowest s))) x (minus_small 8 s (single (lowest s)) b) t)).0)
    (or_cases (has (single (lowest s)) x) (has (lowest_of k (minus s (single (lowest s)))) x) (sym (has_union (single (lowest s)) (lowest_of k (minus s (single (lowest s)))) x) ∙ e))
  where
    -- the lowest member of an empty set is none of the eight
    first : (x : ℕ) → In (has (single (lowest s))) x → In (has s) x
    first x t =
        cases (eqb s 0)
        (λ z. let y = ap lowest (eqb-true s 0 z) ∙ lowest_empty in clash (has (single (lowest s)) x) t (has_single (lowest s) x ∙ ap (λ (i : ℕ). ltb i 8 && eqb i x) y))
        (λ z. let (h, j) = lowest_there s b (eqb-false s 0 z) in let q = has_only (lowest s) x t in rw (← q) at h)

pub lowest_of_few : (k s : ℕ) → size (lowest_of k s) ≤ k
unfolding lowest_of
lowest_of_few zero s = let z = size_empty in omega arith
lowest_of_few (suc k) s =
    let a = size_union_most (single (lowest s)) (lowest_of k (minus s (single (lowest s)))) in
    let b = size_single_most (lowest s) in
    let c = lowest_of_few k (minus s (single (lowest s))) in
    omega arith

pub lowest_of_size : (k s : ℕ) → s < 256 → k ≤ size s → size (lowest_of k s) ≡ k
unfolding lowest_of
lowest_of_size zero s b l = size_empty
lowest_of_size (suc k) s b l =
    let (h, j) = lowest_there s b (λ e. let z = ap size e ∙ size_empty in absurd (omega arith)) in
    let z = size_less s (lowest s) j h in
    let c = minus_small 8 s (single (lowest s)) b in
    let i = lowest_of_size k (minus s (single (lowest s))) c (omega arith) in
    let m = nothing_shared (single (lowest s)) (lowest_of k (minus s (single (lowest s)))) (λ y a d.
    clash (has (single (lowest s)) y) a (has_left s (single (lowest s)) y (lowest_of_inside k (minus s (single (lowest s))) y c d)).1) in
    let u = size_union (single (lowest s)) (lowest_of k (minus s (single (lowest s)))) m in
    let o = size_single (lowest s) j in
    omega arith
