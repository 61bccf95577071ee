-- Bytes that are laid over a buffer where earlier ones stand already.
--     laid_front       a byte before the place is as it was; laid_kept so many of them
--     laid_held        what is laid stands there; part_laid the same through a part that was lent on
--     piece_laid       so many bytes stored at once
--     Copying          bytes of a place before laid again; copying-.. the loop
-- Assumes nothing.
use mathlib.Core.Path.{◌≡◌, refl, sym, ap, ◌∙◌}
use mathlib.Core.List.{List, [], ◌∷◌, ◌++◌, append-nil}
use Prim.Native.Nat.{ℕ, suc, ◌+◌, ◌-◌, ◌≤◌, ◌<◌}
use native.Mathlib.Omega.{arith}
use native.Mathlib.Nat.{add-suc}
use native.Mathlib.Numerals.{add-one}
use lib.ListN.{length, get_or, set, take, drop, length-set, length-drop, take-append-drop, drop_of_length-le}
use lib.Seq.{take-suc, length-take-le, get_or-drop, get_or-set_other, take-append_seam, drop-set-add, take-set-le, take_all}
use Rattle.facts.specs.Laid.{laid}
use Rattle.facts.proofs.Stores.{laid_append, laid_mid, laid_whole}

pub laid_front : (at : ℕ) (text l : List ℕ) (q : ℕ) → q < at → get_or (laid at text l) q 0 ≡ get_or l q 0
unfolding laid
laid_front at [] l q h = refl
laid_front at (b ∷ bs) l q h = laid_front (suc at) bs (set l at b) q (omega arith) ∙ get_or-set_other l at q b 0 (λ e. absurd (omega arith))

pub laid_kept : (at : ℕ) (text l : List ℕ) (q k : ℕ) → q + k ≤ at → take k (drop q (laid at text l)) ≡ take k (drop q l)
unfolding laid
laid_kept at [] l q k h = refl
laid_kept at (b ∷ bs) l q k h =
    let e : q + (at - q) ≡ at = omega arith in
    laid_kept (suc at) bs (set l at b) q k (omega arith)
    ∙ ap (λ (j : ℕ). take k (drop q (set l j b))) (sym e)
    ∙ ap (take k) (drop-set-add q l (at - q) b)
    ∙ take-set-le k (drop q l) (at - q) b (omega arith)

-- from a place on
drop_laid : (at j : ℕ) (text l : List ℕ) → drop at (laid (at + j) text l) ≡ laid j text (drop at l)
unfolding laid
drop_laid at j [] l = refl
drop_laid at j (b ∷ bs) l =
    ap (λ (i : ℕ). drop at (laid i bs (set l (at + j) b))) (sym (add-suc at j))
    ∙ drop_laid at (suc j) bs (set l (at + j) b)
    ∙ ap (laid (suc j) bs) (drop-set-add at l j b)

-- what is laid stands there
pub laid_held : (at : ℕ) (text l : List ℕ) → at + length text ≤ length l → take (length text) (drop at (laid at text l)) ≡ text
laid_held at text l h =
    let e : at + 0 ≡ at = omega arith in
    let k = length-drop at l in
    ap (λ (j : ℕ). take (length text) (drop at (laid j text l))) (sym e)
    ∙ ap (take (length text)) (drop_laid at 0 text l ∙ laid_whole text (drop at l) (omega arith))
    ∙ take-append_seam text (drop (length text) (drop at l))

-- a part from a place on to the end, with the text laid at its front, put back
pub part_laid : (at : ℕ) (old last text : List ℕ) → at ≤ length old → last ≡ laid 0 text (take (length old - at) (drop at old))
    → take at old ++ (last ++ drop (length old - at) (drop at old)) ≡ laid at text old
part_laid at old last text h e =
    let l = length-drop at old in
    let z : at + 0 ≡ at = omega arith in
    let a : last ≡ drop at (laid at text old) = e ∙ ap (laid 0 text) (take_all (length old - at) (drop at old) (omega arith)) ∙ sym (drop_laid at 0 text old) ∙ ap (λ (j : ℕ). drop at (laid j text old)) z in
    let b : drop (length old - at) (drop at old) ≡ [] = drop_of_length-le (drop at old) {i = length old - at} (omega arith) in
    let c : take at (laid at text old) ≡ take at old = laid_kept at text old 0 at (omega arith) in
    rw (a, b, append-nil (drop at (laid at text old)), sym c) (take-append-drop at (laid at text old))

-- so many bytes at once
pub piece_laid : (at k : ℕ) (text mid l : List ℕ) → length text ≡ k → at + k ≤ length l → mid ≡ text → take at l ++ (mid ++ drop (at + k - at) (drop at l)) ≡ laid at text l
piece_laid at k text mid l e h m = let d : at + k - at ≡ length text = omega arith in rw (m, d) (laid_mid at text l (omega arith))

one : (at v : ℕ) (l : List ℕ) → set l at v ≡ laid at (v ∷ []) l
unfolding laid
one at v l = refl

module _ (from at bytes : ℕ) (old : List ℕ) where
  pub record Copying (i : ℕ) (lent : List ℕ) : Type 0 where
    pub inside : i ≤ bytes
    pub before : from + bytes ≤ at
    pub room : at + bytes ≤ length old
    pub long : length lent ≡ length old
    pub done : lent ≡ laid at (take i (drop from old)) old

  pub copying_starts : from + bytes ≤ at → at + bytes ≤ length old → Copying 0 old
  unfolding laid
  copying_starts b r = record { inside = omega arith; before = b; room = r; long = refl; done = refl }

  module _ (i : ℕ) (lent : List ℕ) (so : Copying i lent) where
    pub copying_ends : bytes ≤ i → lent ≡ laid at (take bytes (drop from old)) old
    copying_ends h = let a = so.inside in let e : i ≡ bytes = omega arith in rw e at so.done

    pub copying_turn : i < bytes → Copying (i + 1) (set lent (at + i) (get_or lent (from + i) 0))
    copying_turn h =
        let b = so.before in
        let r = so.room in
        let l = length-drop from old in
        let x : get_or lent (from + i) 0 ≡ get_or (drop from old) i 0 = ap (λ (s : List ℕ). get_or s (from + i) 0) so.done ∙ laid_front at (take i (drop from old)) old (from + i) (omega arith) ∙ sym (get_or-drop from old i 0) in
        record {
          inside = omega arith;
          before = b;
          room = r;
          long = length-set lent (at + i) (get_or lent (from + i) 0) ∙ so.long;
          done = step (get_or lent (from + i) 0) x (omega arith);
        }
      where
        step : (v : ℕ) → v ≡ get_or (drop from old) i 0 → i < length (drop from old) → set lent (at + i) v ≡ laid at (take (i + 1) (drop from old)) old
        step v e k =
            let t : take (i + 1) (drop from old) ≡ take i (drop from old) ++ (v ∷ []) = ap (λ (j : ℕ). take j (drop from old)) (add-one i) ∙ take-suc (drop from old) i 0 k ∙ ap (λ (w : ℕ). take i (drop from old) ++ (w ∷ [])) (sym e) in
            let z : length (take i (drop from old)) ≡ i = length-take-le i (drop from old) (omega arith) in
            ap (λ (s : List ℕ). set s (at + i) v) so.done
            ∙ ap (λ (j : ℕ). set (laid at (take i (drop from old)) old) (at + j) v) (sym z)
            ∙ one (at + length (take i (drop from old))) v (laid at (take i (drop from old)) old)
            ∙ sym (laid_append at (take i (drop from old)) (v ∷ []) old)
            ∙ ap (λ (w : List ℕ). laid at w old) (sym t)
