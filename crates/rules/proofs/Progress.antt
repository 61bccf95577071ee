-- Taking apart what a check reached.
--     stopped_reached  a check that stopped reached nothing
--     turned_totals    a refusal gives no totals
--     reached_same     the place and the carriages that are reached are the only ones
--     cond_true        a test that must hold for a place to be reached; cond_false one that must fail
--     due_forward      the command that is due is there, whole, and what follows is reached; due_backward the other way
--     then_forward     the first of two checks reached a place, and the second goes on from there
--     onward_forward   a block that reached a place, seen from the plan's start
--     cut_backward     a command whose bytes are all there is not cut off
-- Assumes nothing.
use mathlib.Core.Path.{◌≡◌, refl, sym, ap}
use mathlib.Core.Bool.{Bool, true, false, cond}
use mathlib.Core.List.{List}
use Prim.Native.Nat.{ℕ, ◌+◌, ◌-◌, ◌≤◌, ◌<◌}
use native.Mathlib.Omega.{arith}
use lib.Dec.{eqb}
use lib.ListN.{length, get_or}
use borrow.Author.Tests.{lt-ltb, le-ltb, eq-eqb, ne_eqb, eqb-true}
use Rattle.refusal.specs.Refused.{Refused}
use Rattle.route.specs.Commands.{width, is_cut}
use Rattle.plan.specs.Check.{Progress, reached, stopped, is_due, and_then, onward, Totals, totals, turned}

-- 0 for totals, 1 for a refusal
abbrev outcome : Totals → ℕ
outcome (totals blocks carriages) = 0
outcome (turned r) = 1

pub turned_totals {ℓ} : {C : Type ℓ} (r : Refused) (blocks carriages : ℕ) → turned r ≡ totals blocks carriages → C
turned_totals r blocks carriages e = absurd (let z : ◌≡◌ {A = ℕ} 1 0 = ap outcome e in omega arith)

-- 0 for a place, 1 for a refusal
abbrev kind : Progress → ℕ
kind (reached at carriages) = 0
kind (stopped number place) = 1

abbrev place_of : Progress → ℕ
place_of (reached at carriages) = at
place_of (stopped number place) = place

abbrev carriages_in : Progress → ℕ
carriages_in (reached at carriages) = carriages
carriages_in (stopped number place) = number

pub stopped_reached {ℓ} : {C : Type ℓ} (number place at carriages : ℕ) → stopped number place ≡ reached at carriages → C
stopped_reached number place at carriages e = absurd (let z : ◌≡◌ {A = ℕ} 1 0 = ap kind e in omega arith)

pub reached_same : (a c a' c' : ℕ) → reached a c ≡ reached a' c' → (a ≡ a') × (c ≡ c')
reached_same a c a' c' e = (ap place_of e, ap carriages_in e)

-- a test that must hold for a place to be reached
pub cond_true : (b : Bool) (next : Progress) (number place a c : ℕ) → cond b next (stopped number place) ≡ reached a c → (b ≡ true) × (next ≡ reached a c)
cond_true true next number place a c e = (refl, e)
cond_true false next number place a c e = stopped_reached number place a c e

-- a test that must fail
pub cond_false : (b : Bool) (next : Progress) (number place a c : ℕ) → cond b (stopped number place) next ≡ reached a c → (b ≡ false) × (next ≡ reached a c)
cond_false true next number place a c e = stopped_reached number place a c e
cond_false false next number place a c e = (refl, e)

pub due_forward : (s : List ℕ) (at command : ℕ) (next : Progress) (a c : ℕ) → is_due s at command next ≡ reached a c
    → (is_cut s at ≡ false) × (get_or s at 0 ≡ command) × (next ≡ reached a c)
unfolding is_due
due_forward s at command next a c e =
    let (p, q) = cond_false (is_cut s at) _ 2 at a c e in
    let (x, y) = cond_true (eqb (get_or s at 0) command) next 7 at a c q in
    (p, eqb-true (get_or s at 0) command x, y)

pub due_backward : (s : List ℕ) (at command : ℕ) (next : Progress) → is_cut s at ≡ false → get_or s at 0 ≡ command → is_due s at command next ≡ next
unfolding is_due
due_backward s at command next p q = let x = eq-eqb (get_or s at 0) command q in rw p (rw x refl)

pub then_forward : (p : Progress) (next : ℕ → ℕ → Progress) (a c : ℕ) → and_then p next ≡ reached a c
    → (a' c' : ℕ) × (p ≡ reached a' c') × (next a' c' ≡ reached a c)
then_forward (reached at carriages) next a c e = (at, carriages, refl, e)
then_forward (stopped number place) next a c e = stopped_reached number place a c e

-- a block that reached a place, seen from the plan's start
pub onward_forward : (at c : ℕ) (p : Progress) (a c' : ℕ) → onward at c p ≡ reached a c'
    → (a₀ c₀ : ℕ) × (p ≡ reached a₀ c₀) × (a ≡ at + a₀) × (c' ≡ c + c₀)
onward_forward at c (reached a₀ c₀) a c' e = (a₀, c₀, refl, sym (ap place_of e), sym (ap carriages_in e))
onward_forward at c (stopped number place) a c' e = stopped_reached number (at + place) a c' e

-- a command whose bytes are all there is not cut off
pub cut_backward : (s : List ℕ) (at w : ℕ) → width (get_or s at 0) ≡ w → 0 < w → at + w ≤ length s → is_cut s at ≡ false
unfolding is_cut
cut_backward s at w e some long =
    let a = lt-ltb at (length s) (omega arith) in
    let b = ne_eqb w 0 (λ z. omega arith) in
    let c = le-ltb (length s - at) w (omega arith) in
    rw e (rw (a, b, c) refl)
