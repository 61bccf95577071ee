-- The sets that have no server of b, in order: from each the next one is one addition and one difference away.
-- Adding 1 to s and b together carries over the servers of b. That nothing is passed over is by halving (`carried`):
-- where the lowest digit of s or b is set the sum carries into the halves, and where neither is the next set is s + 1.
--     next_apart   the next set has no server of b
--     next_after   it comes after s
--     next_least   no set apart from b lies between
--     next_small   among the sets of n servers it is at most 2^n
-- Assumes nothing.
use mathlib.Core.Path.{◌≡◌, refl, ap, ◌∙◌}
use mathlib.Core.Bool.{Bool, true, false, not, ◌&&◌}
use Prim.Native.Nat.{ℕ, ◌+◌, ◌*◌, ◌/◌, ◌%◌, ◌^◌, ◌≤◌, ◌<◌, min}
use native.Mathlib.Omega.{arith}
use lib.Arith.{bin_ind}
use lib.Bits.{bit_and, and_step, and_le_r, and_zero_r, or_disjoint, xor_add_and}
use lib.Dec.{eqb}
use borrow.Author.Tests.{eqb-true, eqb-false}
use Rattle.facts.proofs.Bools.{cases}
use Rattle.sets.specs.Sets.{has, union, meet, minus, next}
use Rattle.sets.proofs.Members.{below_power, has_meet, has_minus, no_member, union_small}

meet_le : (a b : ℕ) → meet a b ≤ b
unfolding meet
meet_le a b = and_le_r a b

never : (x y : Bool) → ((x && not y) && y) ≡ false
never true true = refl
never true false = refl
never false y = refl

minus_apart : (a b : ℕ) → meet (minus a b) b ≡ 0
minus_apart a b =
    let small = meet_le (minus a b) b in
    let power = below_power b in
    no_member b (meet (minus a b) b) (omega arith) (λ i k. has_meet (minus a b) b i ∙ ap (λ (x : Bool). x && has b i) (has_minus a b i) ∙ never (has a i) (has b i))

-- a meet holds no more when it is met again
meet_again : (a b : ℕ) → bit_and a (bit_and a b) ≡ bit_and a b
meet_again a = bin_ind (λ (n : ℕ). (b : ℕ) → bit_and n (bit_and n b) ≡ bit_and n b) (λ b. refl) step a
  where
    step : (n : ℕ) → ((b : ℕ) → bit_and (n / 2) (bit_and (n / 2) b) ≡ bit_and (n / 2) b) → (b : ℕ) → bit_and n (bit_and n b) ≡ bit_and n b
    step n ih b =
        let e = and_step n b in
        let half : bit_and n b / 2 ≡ bit_and (n / 2) (b / 2) = omega arith in
        let low : bit_and n b % 2 ≡ min (n % 2) (b % 2) = omega arith in
        let f : bit_and n (bit_and n b) ≡ bit_and (n / 2) (bit_and (n / 2) (b / 2)) * 2 + min (n % 2) (min (n % 2) (b % 2)) = and_step n (bit_and n b) ∙ rw (half, low) refl in
        let g = ih (b / 2) in
        omega arith

-- a difference and a meet are the whole
minus_meet : (a b : ℕ) → minus a b + bit_and a b ≡ a
unfolding minus
minus_meet a b = let e = xor_add_and a (bit_and a b) in let m = meet_again a b in omega arith

-- a sum of apart numbers holds each
meet_sum : (b s : ℕ) → bit_and s b ≡ 0 → bit_and (s + b) b ≡ b
meet_sum b = bin_ind (λ (m : ℕ). (s : ℕ) → bit_and s m ≡ 0 → bit_and (s + m) m ≡ m) (λ s e. and_zero_r (s + 0)) step b
  where
    step : (m : ℕ) → ((s : ℕ) → bit_and s (m / 2) ≡ 0 → bit_and (s + m / 2) (m / 2) ≡ m / 2) → (s : ℕ) → bit_and s m ≡ 0 → bit_and (s + m) m ≡ m
    step m ih s e =
        let digits = and_step s m in
        let half : (s + m) / 2 ≡ s / 2 + m / 2 = omega arith in
        let sum = and_step (s + m) m in
        let held = ih (s / 2) (omega arith) in
        let sum-held : bit_and ((s + m) / 2) (m / 2) ≡ m / 2 = rw half held in
        omega arith

-- neither lowest digit is set: the sum and one more holds b
meet_even : (s b : ℕ) → bit_and s b ≡ 0 → s % 2 + b % 2 ≡ 0 → bit_and (s + b + 1) b ≡ b
meet_even s b e low =
    let digits = and_step s b in
    let held = meet_sum (b / 2) (s / 2) (omega arith) in
    let half : (s + b + 1) / 2 ≡ s / 2 + b / 2 = omega arith in
    let same : bit_and ((s + b + 1) / 2) (b / 2) ≡ b / 2 = rw half held in
    even b (bit_and ((s + b + 1) / 2) (b / 2)) ((s + b + 1) % 2) (and_step (s + b + 1) b) same (omega arith)
  where
    even : (b m d : ℕ) {x : ℕ} → x ≡ m * 2 + min d (b % 2) → m ≡ b / 2 → b % 2 ≡ 0 → x ≡ b
    even b m d e f g = omega arith

-- one of them is: the sum and one more carries into the halves
meet_odd : (s b : ℕ) → s % 2 + b % 2 ≡ 1 → bit_and (s + b + 1) b ≡ 2 * bit_and (s / 2 + b / 2 + 1) (b / 2)
meet_odd s b low =
    let half : (s + b + 1) / 2 ≡ s / 2 + b / 2 + 1 = omega arith in
    let sum = and_step (s + b + 1) b in
    let same : bit_and ((s + b + 1) / 2) (b / 2) ≡ bit_and (s / 2 + b / 2 + 1) (b / 2) = rw half refl in
    omega arith

-- with r apart from b and above s, the sum and one more is at most r and what of b the sum holds
carried : (r s b : ℕ) → bit_and s b ≡ 0 → bit_and r b ≡ 0 → s < r → s + b + 1 ≤ r + bit_and (s + b + 1) b
carried r =
    bin_ind (λ (m : ℕ). (s b : ℕ) → bit_and s b ≡ 0 → bit_and m b ≡ 0 → s < m → s + b + 1 ≤ m + bit_and (s + b + 1) b)
    (λ s b e f h. absurd (omega arith)) step r
  where
    step : (m : ℕ) → ((s b : ℕ) → bit_and s b ≡ 0 → bit_and (m / 2) b ≡ 0 → s < m / 2 → s + b + 1 ≤ m / 2 + bit_and (s + b + 1) b)
        → (s b : ℕ) → bit_and s b ≡ 0 → bit_and m b ≡ 0 → s < m → s + b + 1 ≤ m + bit_and (s + b + 1) b
    step m ih s b e f h =
        let digits = and_step s b in
        let others = and_step m b in
        cases (eqb (s % 2 + b % 2) 0)
        (λ q. let low = eqb-true (s % 2 + b % 2) 0 q in let held = meet_even s b e low in omega arith)
        λ q.
        let low = eqb-false (s % 2 + b % 2) 0 q in
        let held = meet_odd s b (omega arith) in
        let halves = ih (s / 2) (b / 2) (omega arith) (omega arith) (omega arith) in
        omega arith

-- for apart s and b the next set is the sum and one more, less what of b it holds
next_is : (s b : ℕ) → bit_and s b ≡ 0 → next s b + bit_and (s + b + 1) b ≡ s + b + 1
unfolding next union
next_is s b e = rw (or_disjoint s b e) (minus_meet (s + b + 1) b)

pub next_apart : (s b : ℕ) → meet (next s b) b ≡ 0
unfolding next
next_apart s b = minus_apart (union s b + 1) b

pub next_after : (s b : ℕ) → meet s b ≡ 0 → s < next s b
unfolding meet
next_after s b e = let whole = next_is s b e in let held = and_le_r (s + b + 1) b in omega arith

pub next_least : (s b r : ℕ) → meet s b ≡ 0 → meet r b ≡ 0 → s < r → next s b ≤ r
unfolding meet
next_least s b r e f h = let whole = next_is s b e in let held = carried r s b e f h in omega arith

pub next_small : (n s b : ℕ) → s < 2 ^ n → b < 2 ^ n → next s b ≤ 2 ^ n
unfolding next
next_small n s b p q = let small = union_small n s b p q in let whole = minus_meet (union s b + 1) b in omega arith
