-- Counts of the servers below n in a test, and sizes of sets.
--     count_same    tests that agree below n have one count
--     count_mono    a subset has no larger count
--     before_last   a member below n + 1 is below n, where n is none
--     count_none    a count of nothing; count_zero the other way; count_some for a member
--     count_beyond  servers from n on that are not in the test do not count
--     count_or      the count of a union and a meet; count_apart of a union of sets that are apart; count_all of all servers
--     count_without taking a member below n out of a set lowers the count by one; count_past, taking out another leaves it
--     count_different   members that are told apart are no more than the count
--     size_count    the size of a set below 2^n is the count of its members below n
--     size_union, size_within, size_empty, size_none   the laws of sizes
-- Assumes nothing.
use mathlib.Core.Path.{◌≡◌, refl, sym, ap, ◌∙◌}
use mathlib.Core.Bool.{true, false, not, ◌&&◌, ◌||◌}
use Prim.Native.Nat.{ℕ, zero, suc, ◌+◌, ◌-◌, ◌^◌, ◌≤◌, ◌<◌}
use native.Mathlib.Omega.{arith}
use lib.Dec.{eqb}
use borrow.Author.Tests.{ne_eqb, eqb-true, eqb-false}
use Rattle.facts.proofs.Bools.{cases, clash, is_false}
use Rattle.sets.specs.Sets.{Set, In, Out, has, union, meet, within, count, size}
use Rattle.sets.proofs.Members.{has_union, has_meet, has_empty, has_beyond, within_in, no_member}

pub count_same : (n : ℕ) (p q : Set) → ((i : ℕ) → i < n → p i ≡ q i) → count n p ≡ count n q
unfolding count
count_same zero p q h = refl
count_same (suc n) p q h =
    let ih = count_same n p q (λ i k. h i (omega arith)) in
    let e = h n (omega arith) in
    cases (q n) (λ x. cc) (λ x. cc)

pub count_mono : (n : ℕ) (p q : Set) → ((i : ℕ) → i < n → In p i → In q i) → count n p ≤ count n q
unfolding count
count_mono zero p q h = omega arith
count_mono (suc n) p q h =
    let ih = count_mono n p q (λ i k e. h i (omega arith) e) in
    cases (p n)
    (λ x. let y = h n (omega arith) x in rw (x, y) (omega arith))
    (λ x. cases (q n) (λ y. rw (x, y) (omega arith)) (λ y. rw (x, y) (omega arith)))

pub count_le : (n : ℕ) (p : Set) → count n p ≤ n
unfolding count
count_le zero p = omega arith
count_le (suc n) p = let ih = count_le n p in cases (p n) (λ x. rw x (omega arith)) (λ x. rw x (omega arith))

pub count_none : (n : ℕ) (p : Set) → ((i : ℕ) → i < n → Out p i) → count n p ≡ 0
unfolding count
count_none zero p h = refl
count_none (suc n) p h =
    let ih = count_none n p (λ i k. h i (omega arith)) in
    let e = h n (omega arith) in
    cc

-- a member below n + 1 is below n, where n is none
pub before_last : (n : ℕ) (p : Set) (i : ℕ) → i < suc n → In p i → p n ≡ false → i < n
before_last n p i k e x = let other : i ≡ n → ⊥ = λ q. clash (p n) (rw q at e) x in omega arith

pub count_some : (n : ℕ) (p : Set) (i : ℕ) → i < n → In p i → 0 < count n p
unfolding count
count_some zero p i k e = absurd (omega arith)
count_some (suc n) p i k e =
    cases (p n)
    (λ x. rw x (omega arith))
    (λ x. rw x (count_some n p i (before_last n p i k e x) e))

pub count_zero : (n : ℕ) (p : Set) → count n p ≡ 0 → (i : ℕ) → i < n → Out p i
count_zero n p z i k = is_false (p i) (λ e. let s = count_some n p i k e in omega arith)

pub count_beyond : (n k : ℕ) (p : Set) → ((i : ℕ) → n ≤ i → Out p i) → count (k + n) p ≡ count n p
unfolding count
count_beyond n zero p h = let e : 0 + n ≡ n = omega arith in rw e refl
count_beyond n (suc k) p h =
    let ih = count_beyond n k p h in
    let e = h (k + n) (omega arith) in
    let s : suc k + n ≡ suc (k + n) = omega arith in
    rw s (rw e ih)

pub count_or : (n : ℕ) (p q : Set) → count n (λ (i : ℕ). p i || q i) + count n (λ (i : ℕ). p i && q i) ≡ count n p + count n q
unfolding count
count_or zero p q = refl
count_or (suc n) p q =
    let ih = count_or n p q in
    cases (p n)
    (λ x. cases (q n) (λ y. rw (x, y) (omega arith)) (λ y. rw (x, y) (omega arith)))
    (λ x. cases (q n) (λ y. rw (x, y) (omega arith)) (λ y. rw (x, y) (omega arith)))

-- the count of a union of sets that share no server below n
pub count_apart : (n : ℕ) (p q : Set) → ((i : ℕ) → i < n → In p i → In q i → ⊥) → count n (λ (i : ℕ). p i || q i) ≡ count n p + count n q
count_apart n p q h =
    let e = count_or n p q in
    let z = count_none n (λ (i : ℕ). p i && q i) (λ i k. cases (p i) (λ x. let y = is_false (q i) (h i k x) in cc) (λ x. cc)) in
    omega arith

pub count_all : (n : ℕ) (p : Set) → ((i : ℕ) → i < n → In p i) → count n p ≡ n
unfolding count
count_all zero p h = refl
count_all (suc n) p h = let ih = count_all n p (λ i k. h i (omega arith)) in let e = h n (omega arith) in cc

-- X less server s
abbrev pub without : ℕ → Set → Set
without s X i = not (eqb i s) && X i

pub count_past : (n s : ℕ) (X : Set) → n ≤ s → count n (without s X) ≡ count n X
unfolding count
count_past zero s X h = refl
count_past (suc n) s X h =
    let ih = count_past n s X (omega arith) in
    let e = ne_eqb n s (omega arith) in
    cases (X n) (λ q. cc) (λ q. cc)

pub count_without : (n s : ℕ) (X : Set) → s < n → In X s → count n X ≡ suc (count n (without s X))
unfolding count
count_without zero s X h q = absurd (omega arith)
count_without (suc n) s X h q =
    cases (eqb n s)
    (λ e. let z = eqb-true n s e in let past = count_past n s X (omega arith) in let i : X n ≡ true = rw z q in cc)
    (λ e. let z = eqb-false n s e in let ih = count_without n s X (omega arith) q in cases (X n) (λ a. cc) (λ a. cc))

-- m different members below n are no more than there are; Q j x says that the j-th of them may be x
pub count_different : (n m : ℕ) (p : Set) (Q : ℕ → ℕ → Type 0) → ((j : ℕ) → j < m → (x : ℕ) × (x < n) × In p x × Q j x)
    → ((j k x : ℕ) → j < m → k < m → Q j x → Q k x → j ≡ k) → m ≤ count n p
count_different n zero p Q h d = omega arith
count_different n (suc m) p Q h d =
    let (x, k, e, q) = h m (omega arith) in
    let c = count_without n x p k e in
    let ih = count_different n m (without x p) Q (λ j l. still x q j l (h j (omega arith))) (λ j k y a b. d j k y (omega arith) (omega arith)) in
    omega arith
  where
    still : (x : ℕ) → Q m x → (j : ℕ) → j < m → (y : ℕ) × (y < n) × In p y × Q j y → (y : ℕ) × (y < n) × In (without x p) y × Q j y
    still x q j l (y, k, e, r) =
        let o = ne_eqb y x (λ z. let w = d j m y (omega arith) (omega arith) r (rw z q) in omega arith) in
        (y, k, cc, r)

pub size_count : (n s : ℕ) → n ≤ 8 → s < 2 ^ n → size s ≡ count n (has s)
unfolding size
size_count n s h k =
    let e : 8 - n + n ≡ 8 = omega arith in
    ap (λ (m : ℕ). count m (has s)) (sym e) ∙ count_beyond n (8 - n) (has s) (λ i q. has_beyond n s i k q)

pub size_le : (s : ℕ) → size s ≤ 8
unfolding size
size_le s = count_le 8 (has s)

pub size_empty : size 0 ≡ 0
unfolding size
size_empty = count_none 8 (has 0) (λ i k. has_empty i)

pub size_none : (s : ℕ) → s < 256 → size s ≡ 0 → s ≡ 0
unfolding size
size_none s h z = no_member 8 s h (count_zero 8 (has s) z)

pub size_union : (a b : ℕ) → meet a b ≡ 0 → size (union a b) ≡ size a + size b
unfolding size
size_union a b e =
    let both = count_or 8 (has a) (has b) in
    let joined = count_same 8 (has (union a b)) (λ (i : ℕ). has a i || has b i) (λ i k. has_union a b i) in
    let apart = count_none 8 (λ (i : ℕ). has a i && has b i) (λ i k. sym (has_meet a b i) ∙ ap (λ (s : ℕ). has s i) e ∙ has_empty i) in
    omega arith

pub size_within : (a b : ℕ) → within a b ≡ true → size a ≤ size b
unfolding size
size_within a b w = count_mono 8 (has a) (has b) (λ i k. within_in a b w i)
