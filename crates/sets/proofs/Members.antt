-- Membership, for every server and every number of servers at once.
--     has_suc       digit i + 1 of s is digit i of s / 2
--     has_mod       the digits below k; has_div those from k on
--     has_union     membership in a union; has_meet, has_minus likewise
--     has_beyond    a set below 2^n has no member from n on
--     has_full      the full set of n servers has the servers below n
--     same_members  two sets below 2^n with the same members below n are equal; same_all for any two sets
--     top_clear     a set without its last server is a set of the others
--     encode_has    the number of a test has the test's members; encode_small bounds it
--     has_single    server i alone has just i
--     meet_apart    sets with an empty meet share no member; apart_meet the other way; apart_union and its halves
--     within_in     a subset's members are members; in_within the other way
-- Assumes nothing.
use mathlib.Core.Path.{◌≡◌, refl, sym, ap, ◌∙◌}
use mathlib.Core.Bool.{true, false, cond, not, ◌&&◌, ◌||◌}
use Prim.Native.Nat.{ℕ, zero, suc, ◌+◌, ◌-◌, ◌*◌, ◌/◌, ◌%◌, ◌^◌, ◌≤◌, ◌<◌, min, max}
use native.Mathlib.Nat.{pow-suc, one-mul}
use native.Mathlib.Numerals.{add-one}
use native.Mathlib.Omega.{arith}
use lib.Bits.{bit_and, bit_or, bit_xor, and_step, or_step, xor_step, and_shr, or_shr, xor_shr, differ, or_lt, xor_lt, and_lt, and_le_l, and_comm, and_zero_l}
use lib.Pow.{shr-shr, shl_exact, pow_pos, mod-mod-pow, field}
use lib.Dec.{eqb, ltb, lit<, eqb-zero-suc, eqb-suc-zero, eqb-suc-suc}
use borrow.Author.Tests.{lt-ltb, le-ltb, eq-eqb, eqb-true, eqb-false, ltb-true, ltb-false}
use Rattle.facts.proofs.Bools.{cases, clash, same, and_left, and_right, both}
use Rattle.sets.specs.Sets.{Set, has, single, union, meet, minus, within, full, encode}

-- `meet` is what the code computes
meet_is : (a b : ℕ) → meet a b ≡ bit_and a b
unfolding meet
meet_is a b = refl

pub pow_double : (n : ℕ) → 2 ^ suc n ≡ 2 * 2 ^ n
pow_double n = let e = pow-suc 2 n in omega arith

pub has_zero : (s : ℕ) → has s 0 ≡ eqb (s % 2) 1
unfolding has
has_zero s = let e : s / 2 ^ 0 ≡ s = omega arith in rw e refl

pub has_suc : (s i : ℕ) → has s (suc i) ≡ has (s / 2) i
unfolding has
has_suc s i = let e : 1 + i ≡ suc i = omega arith in rw (← e, ← shr-shr s 1 i) refl

-- the digits below k, and those from k on

pub has_mod : (k s i : ℕ) → i < k → has (s % 2 ^ k) i ≡ has s i
has_mod zero s i h = absurd (omega arith)
has_mod (suc k) s zero h =
    let e : s % 2 ^ suc k % 2 ≡ s % 2 = rw (← add-one k) (mod-mod-pow s k 1) in
    has_zero (s % 2 ^ suc k) ∙ ap (λ (d : ℕ). eqb d 1) e ∙ sym (has_zero s)
has_mod (suc k) s (suc i) h =
    let e : s % 2 ^ suc k / 2 ≡ s / 2 % 2 ^ k = rw (← add-one k) (field s k 1) in
    has_suc (s % 2 ^ suc k) i ∙ ap (λ (x : ℕ). has x i) e ∙ has_mod k (s / 2) i (omega arith) ∙ sym (has_suc s i)

pub has_div : (k s i : ℕ) → has (s / 2 ^ k) i ≡ has s (k + i)
unfolding has
has_div k s i = rw (shr-shr s k i) refl

-- on digits the least, the greatest and the difference are "and", "or" and "not the same"
digits_and : (a b : ℕ) → a < 2 → b < 2 → eqb (min a b) 1 ≡ (eqb a 1 && eqb b 1)
digits_and zero zero p q = refl
digits_and zero (suc zero) p q = refl
digits_and (suc zero) zero p q = refl
digits_and (suc zero) (suc zero) p q = refl
digits_and zero (suc (suc b)) p q = absurd (omega arith)
digits_and (suc zero) (suc (suc b)) p q = absurd (omega arith)
digits_and (suc (suc a)) b p q = absurd (omega arith)

digits_or : (a b : ℕ) → a < 2 → b < 2 → eqb (max a b) 1 ≡ (eqb a 1 || eqb b 1)
digits_or zero zero p q = refl
digits_or zero (suc zero) p q = refl
digits_or (suc zero) zero p q = refl
digits_or (suc zero) (suc zero) p q = refl
digits_or zero (suc (suc b)) p q = absurd (omega arith)
digits_or (suc zero) (suc (suc b)) p q = absurd (omega arith)
digits_or (suc (suc a)) b p q = absurd (omega arith)

digits_minus : (a b : ℕ) → a < 2 → b < 2 → eqb (differ a (min a b)) 1 ≡ (eqb a 1 && not (eqb b 1))
digits_minus zero zero p q = refl
digits_minus zero (suc zero) p q = refl
digits_minus (suc zero) zero p q = refl
digits_minus (suc zero) (suc zero) p q = refl
digits_minus zero (suc (suc b)) p q = absurd (omega arith)
digits_minus (suc zero) (suc (suc b)) p q = absurd (omega arith)
digits_minus (suc (suc a)) b p q = absurd (omega arith)

pub digit_small : (x : ℕ) → x % 2 < 2
digit_small x = omega arith

and_lowest : (x y : ℕ) → bit_and x y % 2 ≡ min (x % 2) (y % 2)
and_lowest x y = omega (arith, and_step x y)

or_lowest : (x y : ℕ) → bit_or x y % 2 ≡ max (x % 2) (y % 2)
or_lowest x y = omega (arith, or_step x y)

differ_small : (a b : ℕ) → a < 2 → b < 2 → differ a b < 2
differ_small zero zero p q = lit< tt
differ_small zero (suc zero) p q = lit< tt
differ_small (suc zero) zero p q = lit< tt
differ_small (suc zero) (suc zero) p q = lit< tt
differ_small zero (suc (suc b)) p q = absurd (omega arith)
differ_small (suc zero) (suc (suc b)) p q = absurd (omega arith)
differ_small (suc (suc a)) b p q = absurd (omega arith)

xor_lowest : (x y : ℕ) → bit_xor x y % 2 ≡ differ (x % 2) (y % 2)
xor_lowest x y = omega (arith, xor_step x y, differ_small (x % 2) (y % 2) (digit_small x) (digit_small y))

pub has_meet : (a b i : ℕ) → has (meet a b) i ≡ (has a i && has b i)
unfolding has meet
has_meet a b i =
    rw (and_shr a b i, and_lowest (a / 2 ^ i) (b / 2 ^ i))
    (digits_and (a / 2 ^ i % 2) (b / 2 ^ i % 2) (digit_small (a / 2 ^ i)) (digit_small (b / 2 ^ i)))

pub has_union : (a b i : ℕ) → has (union a b) i ≡ (has a i || has b i)
unfolding has union
has_union a b i =
    rw (or_shr a b i, or_lowest (a / 2 ^ i) (b / 2 ^ i))
    (digits_or (a / 2 ^ i % 2) (b / 2 ^ i % 2) (digit_small (a / 2 ^ i)) (digit_small (b / 2 ^ i)))

pub has_minus : (a b i : ℕ) → has (minus a b) i ≡ (has a i && not (has b i))
unfolding has minus
has_minus a b i =
    rw (xor_shr a (bit_and a b) i, and_shr a b i, xor_lowest (a / 2 ^ i) (bit_and (a / 2 ^ i) (b / 2 ^ i)), and_lowest (a / 2 ^ i) (b / 2 ^ i))
    (digits_minus (a / 2 ^ i % 2) (b / 2 ^ i % 2) (digit_small (a / 2 ^ i)) (digit_small (b / 2 ^ i)))

pub has_empty : (i : ℕ) → has 0 i ≡ false
has_empty zero = has_zero 0
has_empty (suc i) = has_suc 0 i ∙ has_empty i

has_power : (i j : ℕ) → has (2 ^ i) j ≡ eqb i j
has_power zero zero = has_zero 1
has_power zero (suc j) = has_suc 1 j ∙ has_empty j ∙ sym (eqb-zero-suc j)
has_power (suc i) zero =
    let e = pow_double i in
    let even : 2 ^ suc i % 2 ≡ 0 = omega arith in
    has_zero (2 ^ suc i) ∙ ap (λ (d : ℕ). eqb d 1) even ∙ sym (eqb-suc-zero i)
has_power (suc i) (suc j) =
    let e = pow_double i in
    let half : 2 ^ suc i / 2 ≡ 2 ^ i = omega arith in
    has_suc (2 ^ suc i) j ∙ ap (λ (s : ℕ). has s j) half ∙ has_power i j ∙ sym (eqb-suc-suc i j)

pub has_single : (i j : ℕ) → has (single i) j ≡ (ltb i 8 && eqb i j)
unfolding single
has_single i j = cases (ltb i 8) (λ e. rw e (has_power i j)) (λ e. rw e (has_empty j))

-- a one that is shifted within a byte
pub one_shifted : (i : ℕ) → i < 8 → 1 * 2 ^ i % 2 ^ 8 ≡ 2 ^ i
one_shifted i h = shl_exact {a = 1} 1 i 8 (lit< tt) (omega arith) ∙ one-mul (2 ^ i)

pub single_is : (i : ℕ) → i < 8 → 1 * 2 ^ i % 2 ^ 8 ≡ single i
unfolding single
single_is i h = rw (lt-ltb i 8 h) (one_shifted i h)

pub single_past : (i : ℕ) → 8 ≤ i → 0 ≡ single i
unfolding single
single_past i h = rw (le-ltb i 8 h) refl

pub full_is : (n : ℕ) → n < 8 → 1 * 2 ^ n % 2 ^ 8 - 1 ≡ full (min n 8)
unfolding full
full_is n h = let e = one_shifted n h in let m : min n 8 ≡ n = omega arith in rw m (omega arith)

pub full_past : (n : ℕ) → 8 ≤ n → 255 ≡ full (min n 8)
unfolding full
full_past n h = let m : min n 8 ≡ 8 = omega arith in rw m refl

-- bounds of the operations

pub union_small : (n a b : ℕ) → a < 2 ^ n → b < 2 ^ n → union a b < 2 ^ n
unfolding union
union_small n a b p q = or_lt n a b p q

pub meet_small : (n a b : ℕ) → a < 2 ^ n → b < 2 ^ n → meet a b < 2 ^ n
unfolding meet
meet_small n a b p q = and_lt n a b p q

pub minus_small : (n a b : ℕ) → a < 2 ^ n → minus a b < 2 ^ n
unfolding minus
minus_small n a b p = let q = and_le_l a b in xor_lt n a (bit_and a b) p (omega arith)

half_small : (n s : ℕ) → s < 2 ^ suc n → s / 2 < 2 ^ n
half_small n s h = let e = pow_double n in omega arith

pub has_beyond : (n s i : ℕ) → s < 2 ^ n → n ≤ i → has s i ≡ false
has_beyond zero s i h k = let e : s ≡ 0 = omega arith in rw e (has_empty i)
has_beyond (suc n) s zero h k = absurd (omega arith)
has_beyond (suc n) s (suc i) h k = has_suc s i ∙ has_beyond n (s / 2) i (half_small n s h) (omega arith)

pub has_below : (n s i : ℕ) → s < 2 ^ n → has s i ≡ true → i < n
has_below n s i h e =
    cases (ltb i n) (λ q. ltb-true i n q) (λ q. clash (has s i) e (has_beyond n s i h (ltb-false i n q)))

pub has_full : (n i : ℕ) → has (full n) i ≡ ltb i n
unfolding full
has_full zero i = has_empty i ∙ sym (le-ltb i 0 (omega arith))
has_full (suc n) zero =
    let e = pow_double n in
    let p = pow_pos n in
    let odd : (2 ^ suc n - 1) % 2 ≡ 1 = omega arith in
    has_zero (2 ^ suc n - 1) ∙ eq-eqb ((2 ^ suc n - 1) % 2) 1 odd ∙ sym (lt-ltb 0 (suc n) (omega arith))
has_full (suc n) (suc i) =
    let e = pow_double n in
    let p = pow_pos n in
    let half : (2 ^ suc n - 1) / 2 ≡ 2 ^ n - 1 = omega arith in
    has_suc (2 ^ suc n - 1) i ∙ ap (λ (s : ℕ). has s i) half ∙ has_full n i
    ∙ same (ltb i n) (ltb (suc i) (suc n)) (λ q. lt-ltb (suc i) (suc n) (omega (arith, ltb-true))) (λ q. lt-ltb i n (omega (arith, ltb-true)))

pub full_small : (n : ℕ) → full n < 2 ^ n
unfolding full
full_small n = let p = pow_pos n in omega arith

-- equality by membership

digit_same : (a b : ℕ) → has a 0 ≡ has b 0 → a % 2 ≡ b % 2
digit_same a b e =
    let f : eqb (a % 2) 1 ≡ eqb (b % 2) 1 = sym (has_zero a) ∙ e ∙ has_zero b in
    cases (eqb (b % 2) 1)
    (λ q. eqb-true (a % 2) 1 (f ∙ q) ∙ sym (eqb-true (b % 2) 1 q))
    (λ q. let x = eqb-false (a % 2) 1 (f ∙ q) in let y = eqb-false (b % 2) 1 q in omega arith)

pub same_members : (n a b : ℕ) → a < 2 ^ n → b < 2 ^ n → ((i : ℕ) → i < n → has a i ≡ has b i) → a ≡ b
same_members zero a b p q h = omega arith
same_members (suc n) a b p q h =
    let tails = same_members n (a / 2) (b / 2) (half_small n a p) (half_small n b q) (λ i k. sym (has_suc a i) ∙ h (suc i) (omega arith) ∙ has_suc b i) in
    let heads = digit_same a b (h 0 (omega arith)) in
    omega arith

pub below_power : (n : ℕ) → n < 2 ^ n
below_power zero = lit< tt
below_power (suc n) = let ih = below_power n in let e = pow_double n in omega arith

-- two sets with the same members, however large, are equal
pub same_all : (a b : ℕ) → ((i : ℕ) → has a i ≡ has b i) → a ≡ b
same_all a b h = let p = below_power (a + b) in same_members (a + b) a b (omega arith) (omega arith) (λ i k. h i)

-- a set with no member is empty
pub no_member : (n s : ℕ) → s < 2 ^ n → ((i : ℕ) → i < n → has s i ≡ false) → s ≡ 0
no_member n s p h = same_members n s 0 p (pow_pos n) (λ i k. h i k ∙ sym (has_empty i))

pub encode_small : (n : ℕ) (p : Set) → encode n p < 2 ^ n
unfolding encode
encode_small zero p = lit< tt
encode_small (suc n) p =
    let ih = encode_small n (λ (i : ℕ). p (suc i)) in
    let e = pow_double n in
    cases (p 0) (λ q. rw q (omega arith)) (λ q. rw q (omega arith))

-- a set without its last server is a set of the others
pub top_clear : (m s : ℕ) → s < 2 ^ suc m → has s m ≡ false → s < 2 ^ m
top_clear zero s h e = let a = eqb-false (s % 2) 1 (sym (has_zero s) ∙ e) in omega arith
top_clear (suc m) s h e =
    let p = pow_double (suc m) in
    let q = pow_double m in
    let ih = top_clear m (s / 2) (omega arith) (sym (has_suc s m) ∙ e) in
    omega arith

pub encode_has : (n : ℕ) (p : Set) (i : ℕ) → i < n → has (encode n p) i ≡ p i
unfolding encode
encode_has zero p i k = absurd (omega arith)
encode_has (suc n) p zero k =
    cases (p 0)
    (λ q. rw q (let e : (1 + 2 * encode n (λ (i : ℕ). p (suc i))) % 2 ≡ 1 = omega arith in has_zero (1 + 2 * encode n (λ (i : ℕ). p (suc i))) ∙ eq-eqb ((1 + 2 * encode n (λ (i : ℕ). p (suc i))) % 2) 1 e))
    (λ q. rw q (let e : (0 + 2 * encode n (λ (i : ℕ). p (suc i))) % 2 ≡ 0 = omega arith in has_zero (0 + 2 * encode n (λ (i : ℕ). p (suc i))) ∙ ap (λ (d : ℕ). eqb d 1) e))
encode_has (suc n) p (suc i) k =
    let half : (cond (p 0) 1 0 + 2 * encode n (λ (i : ℕ). p (suc i))) / 2 ≡ encode n (λ (i : ℕ). p (suc i)) = cases (p 0) (λ q. rw q (omega arith)) (λ q. rw q (omega arith)) in
    has_suc (cond (p 0) 1 0 + 2 * encode n (λ (i : ℕ). p (suc i))) i ∙ ap (λ (s : ℕ). has s i) half ∙ encode_has n (λ (j : ℕ). p (suc j)) i (omega arith)

-- inclusion

pub within_in : (a b : ℕ) → within a b ≡ true → (i : ℕ) → has a i ≡ true → has b i ≡ true
unfolding within
within_in a b w i e =
    let m : meet a b ≡ a = meet_of a b w in
    and_right (has a i) (has b i) (sym (has_meet a b i) ∙ ap (λ (s : ℕ). has s i) m ∙ e)
  where
    meet_of : (a b : ℕ) → eqb (bit_and a b) a ≡ true → meet a b ≡ a
    meet_of a b w = meet_is a b ∙ eqb-true (bit_and a b) a w

pub in_within : (n a b : ℕ) → a < 2 ^ n → b < 2 ^ n → ((i : ℕ) → i < n → has a i ≡ true → has b i ≡ true) → within a b ≡ true
unfolding within
in_within n a b p q h =
    eq-eqb (bit_and a b) a (sym (meet_is a b) ∙ same_members n (meet a b) a (meet_small n a b p q) p (λ i k. has_meet a b i ∙ same (has a i && has b i) (has a i) (and_left (has a i) (has b i)) (λ e. both (has a i) (has b i) e (h i k e))))

-- sets that are apart

pub meet_comm : (a b : ℕ) → meet a b ≡ meet b a
unfolding meet
meet_comm a b = and_comm a b

pub meet_nothing : (b : ℕ) → meet 0 b ≡ 0
unfolding meet
meet_nothing b = and_zero_l b

pub meet_apart : (a b : ℕ) → meet a b ≡ 0 → (i : ℕ) → (has a i && has b i) ≡ false
meet_apart a b e i = sym (has_meet a b i) ∙ ap (λ (s : ℕ). has s i) e ∙ has_empty i

meet_under : (n a b : ℕ) → a < 2 ^ n → meet a b < 2 ^ n
unfolding meet
meet_under n a b h = let l = and_le_l a b in omega arith

pub apart_meet : (n a b : ℕ) → a < 2 ^ n → ((i : ℕ) → i < n → (has a i && has b i) ≡ false) → meet a b ≡ 0
apart_meet n a b h p = no_member n (meet a b) (meet_under n a b h) (λ i k. has_meet a b i ∙ p i k)

-- a set is apart from a union exactly if it is apart from both
module _ (n x a b : ℕ) (h : x < 2 ^ n) where
  pub apart_union : meet x a ≡ 0 → meet x b ≡ 0 → meet x (union a b) ≡ 0
  apart_union p q =
      apart_meet n x (union a b) h
      (λ i k. let u = has_union a b i in let v = meet_apart x a p i in let w = meet_apart x b q i in cases (has x i) (λ y. cases (has a i) (λ z. cc) (λ z. cc)) (λ y. cc))

  pub apart_left : meet x (union a b) ≡ 0 → meet x a ≡ 0
  apart_left p =
      apart_meet n x a h
      (λ i k. let u = has_union a b i in let v = meet_apart x (union a b) p i in cases (has x i) (λ y. cases (has a i) (λ z. cc) (λ z. cc)) (λ y. cc))

  pub apart_right : meet x (union a b) ≡ 0 → meet x b ≡ 0
  apart_right p =
      apart_meet n x b h
      (λ i k. let u = has_union a b i in let v = meet_apart x (union a b) p i in cases (has x i) (λ y. cases (has b i) (λ z. cases (has a i) (λ t. cc) (λ t. cc)) (λ z. cc)) (λ y. cc))
