-- Spans of a byte and of parts in a row.
--     span_cons   a byte before a span
--     span_head   the first byte of a span, and the rest
--     span_empty  no byte
--     span_out    a span at the start of what is left is one from there on; span_in the other way
--     span_four   four parts in a row are one span; four_spans the other way
-- Assumes nothing.
use mathlib.Core.Path.{◌≡◌, refl, sym, ap, ◌∙◌}
use mathlib.Core.List.{List, [], ◌∷◌, ◌++◌}
use Prim.Native.Nat.{ℕ, suc, ◌+◌, ◌<◌}
use native.Mathlib.Omega.{arith}
use lib.ListN.{length, get_or, drop, length-drop, length-append}
use lib.Seq.{drop-cons, drop-drop, get_or-drop}
use Rattle.rules.proofs.Spans.{Span, span_append, span_left, span_right}

pub span_empty : (s : List ℕ) (at : ℕ) → Span s at []
span_empty s at = let z : at + 0 ≡ at = omega arith in rw z refl

pub span_cons : (s : List ℕ) (at x : ℕ) (xs : List ℕ) → at < length s → get_or s at 0 ≡ x → Span s (at + 1) xs → Span s at (x ∷ xs)
span_cons s at x xs h e p =
    let y : at + 1 ≡ suc at = omega arith in
    let z : suc at + length xs ≡ at + suc (length xs) = omega arith in
    let q : drop (suc at) s ≡ xs ++ drop (suc at + length xs) s = rw y at p in
    let r : drop (suc at) s ≡ xs ++ drop (at + suc (length xs)) s = rw z at q in
    drop-cons s at 0 h ∙ (λ i. e i ∷ r i)

-- what starts with a byte does not end at once
cons_long : (s : List ℕ) (at x : ℕ) (xs : List ℕ) → drop at s ≡ x ∷ xs → at < length s
cons_long s at x xs e = let a = ap length e in let b = length-drop at s in omega arith

pub span_head : (s : List ℕ) (at x : ℕ) (xs : List ℕ) → Span s at (x ∷ xs) → (at < length s) × (get_or s at 0 ≡ x) × Span s (at + 1) xs
span_head s at x xs p =
    let z : at + 0 ≡ at = omega arith in
    let y : at + suc (length xs) ≡ at + 1 + length xs = omega arith in
    let g : get_or (drop at s) 0 0 ≡ get_or s at 0 = rw z at (get_or-drop at s 0 0) in
    (cons_long s at x _ p, sym g ∙ ap (λ (l : List ℕ). get_or l 0 0) p, sym (drop-drop 1 at s) ∙ rw y at (ap (λ (l : List ℕ). drop 1 l) p))

-- a span at the start of what is left from a place on
pub span_out : (s : List ℕ) (at : ℕ) (bytes : List ℕ) → Span (drop at s) 0 bytes → Span s at bytes
span_out s at bytes p =
    let z : 0 + length bytes ≡ length bytes = omega arith in
    p ∙ ap (λ (k : ℕ). bytes ++ drop k (drop at s)) z ∙ ap (λ (r : List ℕ). bytes ++ r) (drop-drop (length bytes) at s)

pub span_in : (s : List ℕ) (at : ℕ) (bytes : List ℕ) → Span s at bytes → Span (drop at s) 0 bytes
span_in s at bytes p =
    let z : length bytes ≡ 0 + length bytes = omega arith in
    p ∙ ap (λ (r : List ℕ). bytes ++ r) (sym (drop-drop (length bytes) at s)) ∙ ap (λ (k : ℕ). bytes ++ drop k (drop at s)) z

-- four parts of known lengths, one after the other
module _ (s : List ℕ) (at : ℕ) (i m o r : List ℕ) (x y z : ℕ) (a : length i ≡ x) (b : length m ≡ y) (c : length o ≡ z) where
  second : at + x ≡ at + length i
  second = omega arith

  third : at + x + y ≡ at + length (i ++ m)
  third = let l = length-append i m in omega arith

  fourth : at + x + y + z ≡ at + length (i ++ m ++ o)
  fourth = let l = length-append i m in let k = length-append (i ++ m) o in omega arith

  pub span_four : Span s at i → Span s (at + x) m → Span s (at + x + y) o → Span s (at + x + y + z) r → Span s at (i ++ m ++ o ++ r)
  span_four p1 p2 p3 p4 =
      let two = span_append s at i m p1 (rw second at p2) in
      let three = span_append s at (i ++ m) o two (rw third at p3) in
      span_append s at (i ++ m ++ o) r three (rw fourth at p4)

  pub four_spans : Span s at (i ++ m ++ o ++ r) → Span s at i × Span s (at + x) m × Span s (at + x + y) o × Span s (at + x + y + z) r
  four_spans p =
      let three = span_left s at (i ++ m ++ o) r p in
      let two = span_left s at (i ++ m) o three in (
        span_left s at i m two,
        rw second (span_right s at i m two),
        rw third (span_right s at (i ++ m) o three),
        rw fourth (span_right s at (i ++ m ++ o) r p),
      )
