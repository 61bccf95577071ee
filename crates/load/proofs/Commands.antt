-- The operands in a plan's bytes, one command after the other.
--     route_wide       a command with a route takes nine bytes
--     whole_wide       a whole command takes a byte at least, and lies within the bytes
--     operands_next    the first command is whole: its operand, if it has a route, and those after it
--     operands_route   the same at a place of the bytes, for a command with a route; operands_other for another
--     operands_over    no whole command is at the place
-- Assumes nothing.
use mathlib.Core.Path.{◌≡◌, refl, sym, ap, ◌∙◌}
use mathlib.Core.Bool.{true, false, cond, not}
use mathlib.Core.List.{List, [], ◌∷◌}
use Prim.Native.Nat.{ℕ, zero, suc, ◌+◌, ◌-◌, ◌≤◌, ◌<◌}
use native.Mathlib.Nat.{add-zero}
use native.Mathlib.Omega.{arith}
use lib.ListN.{length, get_or, take, drop, length-drop}
use lib.Seq.{get_or-drop, drop-drop}
use lib.Dec.{eqb, ltb}
use borrow.Author.Tests.{lt-ltb, le-ltb, ltb-true, ltb-false, eqb-true, eqb-false}
use Rattle.facts.proofs.Bools.{cases, or_false_left, or_false_right}
use Rattle.route.specs.Commands.{width, is_cut}
use Rattle.plan.proofs.Groups.{whole_command}
use Rattle.load.specs.Places.{has_route, operands_from, operands_in}

pub route_wide : (c : ℕ) → has_route c ≡ true → width c ≡ 9
unfolding has_route width
route_wide c e = cases (eqb c 0x11) (λ p. rw (eqb-true c 0x11 p) refl) λ p.
    cases (eqb c 0x12) (λ q. rw (eqb-true c 0x12 q) refl) λ q.
    cases (eqb c 0x13) (λ r. rw (eqb-true c 0x13 r) refl) (λ r. let z : false ≡ true = sym (simp (p, q, r)) ∙ e in cc)

cut_short : (s : List ℕ) → length s ≤ 0 → is_cut s 0 ≡ true
unfolding is_cut
cut_short s h = simp (le-ltb 0 (length s) h)

pub whole_wide : (s : List ℕ) (at : ℕ) → is_cut s at ≡ false → (at < length s) × (0 < width (get_or s at 0)) × (at + width (get_or s at 0) ≤ length s)
unfolding is_cut
whole_wide s at e =
    let w = width (get_or s at 0) in
    let o = or_false_right (not (ltb at (length s))) _ e in
    let z = eqb-false w 0 (or_false_left (eqb w 0) _ o) in
    let h = whole_command s at w e refl in
    (h.0, omega (arith, z), omega arith)

-- how many commands may be taken does not matter, where there are as many as bytes
enough : (j k : ℕ) (s : List ℕ) → length s ≤ j → length s ≤ k → operands_from j s ≡ operands_from k s
unfolding operands_from
enough zero zero s a b = refl
enough zero (suc k) s a b = let e = cut_short s a in sym (simp e)
enough (suc j) zero s a b = let e = cut_short s b in simp e
enough (suc j) (suc k) s a b =
    let w = width (get_or s 0 0) in
    cases (is_cut s 0) (λ e. rw e refl) λ e.
    let h = whole_wide s 0 e in
    let l = length-drop w s in
    let ih = enough j k (drop w s) (omega arith) (omega arith) in
    rw (e, ih) refl

-- no whole command is first
operands_none : (s : List ℕ) → is_cut s 0 ≡ true → operands_in s ≡ []
unfolding operands_in operands_from
operands_none s e = none (length s)
  where
    none : (k : ℕ) → operands_from k s ≡ []
    none zero = refl
    none (suc k) = rw e refl

pub operands_next : (s : List ℕ) → is_cut s 0 ≡ false
    → operands_in s ≡ cond (has_route (get_or s 0 0)) (take 8 (drop 1 s) ∷ operands_in (drop (width (get_or s 0 0)) s)) (operands_in (drop (width (get_or s 0 0)) s))
unfolding operands_in operands_from
operands_next s e =
    let h = whole_wide s 0 e in
    let w = width (get_or s 0 0) in
    let z : length s ≡ suc (length s - 1) = omega arith in
    let l = length-drop w s in
    let on = enough (length s - 1) (length (drop w s)) (drop w s) (omega arith) (omega arith) in
    ap (λ (k : ℕ). operands_from k s) z ∙ rw (e, on) refl

-- the same at a place of the bytes

cut_at : (s : List ℕ) (at : ℕ) → is_cut (drop at s) 0 ≡ is_cut s at
unfolding is_cut
cut_at s at =
    let l = length-drop at s in
    let z : length s - at - 0 ≡ length s - at = omega arith in
    let g = get_or-drop at s 0 0 in
    let t : ltb 0 (length s - at) ≡ ltb at (length s) = cases (ltb at (length s))
    (λ e. let h = ltb-true at (length s) e in lt-ltb 0 (length s - at) (omega arith) ∙ sym e)
    (λ e. let h = ltb-false at (length s) e in le-ltb 0 (length s - at) (omega arith) ∙ sym e) in
    rw (l, g, add-zero, z, t) refl

module _ (s : List ℕ) (at : ℕ) (whole : is_cut s at ≡ false) where
  here : operands_in (drop at s)
      ≡ cond (has_route (get_or s at 0)) (take 8 (drop (at + 1) s) ∷ operands_in (drop (at + width (get_or s at 0)) s)) (operands_in (drop (at + width (get_or s at 0)) s))
  here =
      let g = get_or-drop at s 0 0 in
      let n = operands_next (drop at s) (cut_at s at ∙ whole) in
      n ∙ rw (g, add-zero, drop-drop 1 at s, drop-drop (width (get_or s at 0)) at s) refl

  pub operands_route : has_route (get_or s at 0) ≡ true → operands_in (drop at s) ≡ take 8 (drop (at + 1) s) ∷ operands_in (drop (at + width (get_or s at 0)) s)
  operands_route r = here ∙ simp r

  pub operands_other : has_route (get_or s at 0) ≡ false → operands_in (drop at s) ≡ operands_in (drop (at + width (get_or s at 0)) s)
  operands_other r = here ∙ simp r

-- no whole command is at the place
pub operands_over : (s : List ℕ) (at : ℕ) → is_cut s at ≡ true → operands_in (drop at s) ≡ []
operands_over s at e = operands_none (drop at s) (cut_at s at ∙ e)
