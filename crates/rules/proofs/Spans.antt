-- Bytes from a place on, joined and cut.
--     span_append   bytes and then those that follow them
--     span_left     the first ones of bytes that are there; span_right the others
-- Assumes nothing.
use mathlib.Core.Path.{◌≡◌, sym, ap, ◌∙◌}
use mathlib.Core.List.{List, ◌++◌, append_assoc}
use Prim.Native.Nat.{ℕ, ◌+◌}
use native.Mathlib.Omega.{arith}
use lib.ListN.{length, drop, length-append}
use lib.Seq.{drop-drop, drop-append_seam}

-- s has these bytes from a place on
abbrev pub Span : List ℕ → ℕ → List ℕ → Type 0
Span s at bytes = drop at s ≡ bytes ++ drop (at + length bytes) s

-- the place behind two parts
behind : (s : List ℕ) (at : ℕ) (xs ys : List ℕ) → drop (at + length (xs ++ ys)) s ≡ drop (at + length xs + length ys) s
behind s at xs ys =
    let e : at + length (xs ++ ys) ≡ at + length xs + length ys = omega (arith, length-append xs ys) in
    ap (λ (k : ℕ). drop k s) e

pub span_append : (s : List ℕ) (at : ℕ) (xs ys : List ℕ) → Span s at xs → Span s (at + length xs) ys → Span s at (xs ++ ys)
span_append s at xs ys p q =
    p ∙ ap (λ (t : List ℕ). xs ++ t) (q ∙ ap (λ (t : List ℕ). ys ++ t) (sym (behind s at xs ys)))
    ∙ sym (append_assoc xs ys (drop (at + length (xs ++ ys)) s))

pub span_right : (s : List ℕ) (at : ℕ) (xs ys : List ℕ) → Span s at (xs ++ ys) → Span s (at + length xs) ys
span_right s at xs ys h =
    sym (drop-drop (length xs) at s)
    ∙ ap (drop (length xs)) (h ∙ append_assoc xs ys (drop (at + length (xs ++ ys)) s))
    ∙ drop-append_seam xs (ys ++ drop (at + length (xs ++ ys)) s)
    ∙ ap (λ (t : List ℕ). ys ++ t) (behind s at xs ys)

pub span_left : (s : List ℕ) (at : ℕ) (xs ys : List ℕ) → Span s at (xs ++ ys) → Span s at xs
span_left s at xs ys h =
    h ∙ append_assoc xs ys (drop (at + length (xs ++ ys)) s)
    ∙ ap (λ (t : List ℕ). xs ++ t) (sym (span_right s at xs ys h ∙ ap (λ (t : List ℕ). ys ++ t) (sym (behind s at xs ys))))
