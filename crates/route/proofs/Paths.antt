-- The servers of a route, on plain lists.
--     part_next      the part of the operand from k on starts with byte k
--     tail-..         the bytes after the first
--     path_length    how many servers stand before the fill
--     Passed, path_stops, ..   the same a byte at a time, for a walk along a route
--     path_part      the path is the part of the operand before the fill
-- Assumes nothing.
use mathlib.Core.Path.{◌≡◌, refl, sym, ap, ◌∙◌}
use mathlib.Core.List.{List, [], ◌∷◌}
use Prim.Native.Nat.{ℕ, suc, ◌+◌, ◌≤◌, ◌<◌}
use native.Mathlib.Numerals.{add-one}
use native.Mathlib.Omega.{arith}
use lib.ListN.{length, get_or, take, drop, drop_of_length-le, length-drop}
use lib.Seq.{drop-cons, get_or-drop, get_or-take, length-take-le}
use lib.Dec.{eqb, ltb}
use borrow.Author.Tests.{ltb-false, eq-eqb, ne_eqb}
use Rattle.std.specs.Prelude.{◌==◌}
use Rattle.std.specs.List.{position, position_or_len}
use Rattle.std.specs.Option.{unwrap_or}
use Rattle.std.proofs.lemmas.List.Recursion.{is_position_or_len}
use Rattle.facts.proofs.Bools.{cases, by_cond}
use Rattle.route.specs.Route.{path}

module _ (m : ℕ) (s : List ℕ) (fits : m ≤ length s) where
  pub part_next : (k : ℕ) → k < m → drop k (take m s) ≡ get_or s k 0 ∷ drop (k + 1) (take m s)
  part_next k h =
      let l = length-take-le m s fits in
      drop-cons (take m s) k 0 (omega arith) ∙ ap (λ (x : ℕ). x ∷ drop (suc k) (take m s)) (get_or-take m s k 0 h) ∙ ap (λ (j : ℕ). get_or s k 0 ∷ drop j (take m s)) (sym (add-one k))

  pub part_over : (k : ℕ) → m ≤ k → drop k (take m s) ≡ []
  part_over k h = let l = length-take-le m s fits in drop_of_length-le (take m s) {i = k} (omega arith)

-- the bytes after the first, as the code goes over them
module _ (s : List ℕ) (fits : 8 ≤ length s) where
  pub tail_long : length (take 7 (drop 1 s)) ≡ 7
  tail_long = length-take-le 7 (drop 1 s) (let l = length-drop 1 s in omega arith)

  pub tail_at : (i : ℕ) → i < 7 → get_or (take 7 (drop 1 s)) i 0 ≡ get_or s (i + 1) 0
  tail_at i h = get_or-take 7 (drop 1 s) i 0 h ∙ get_or-drop 1 s i 0 ∙ ap (λ (j : ℕ). get_or s j 0) (let e : 1 + i ≡ i + 1 = omega arith in e)

-- the servers stand before the first byte of fill
path_counted : (l : List ℕ) → length (path l) ≡ position_or_len (λ (b : ℕ). eqb b 255) l
unfolding path
path_counted = is_position_or_len (λ (l : List ℕ). length (path l)) (λ (b : ℕ). eqb b 255) refl (λ b bs. cases (eqb b 255) (λ e. rw e refl) (λ e. rw e (omega arith)))

path_few : (l : List ℕ) → length (path l) ≤ length l
unfolding path
path_few [] = omega arith
path_few (b ∷ bs) = let ih = path_few bs in cases (eqb b 255) (λ e. rw e (omega arith)) (λ e. rw e (omega arith))

-- how many servers there are, by the place of that byte, and that they are at most as many as the bytes
pub path_length : (l : List ℕ) (n : ℕ) → length l ≡ n → (unwrap_or (position (λ (b : ℕ). b == 255) l) n ≡ length (path l)) × (length (path l) ≤ n)
path_length l n q =
    let f = path_few l in
    let e = path_counted l in
    (by_cond (λ o. unwrap_or o n ≡ length (path l)) (ltb (position_or_len (λ (b : ℕ). eqb b 255) l) (length l)) _ _ (λ t. sym e) (λ t. let g = ltb-false _ _ t in omega arith), omega arith)

-- how many servers stand before the fill, a byte at a time, as a walk along the route goes
module _ (s : List ℕ) (fits : 8 ≤ length s) where
  -- k servers are passed
  abbrev pub Passed : ℕ → Type 0
  Passed k = k + length (path (drop k (take 8 s))) ≡ length (path (take 8 s))

  module _ (k : ℕ) (h : k < 8) (so : Passed k) where
    pub path_stops : get_or s k 0 ≡ 255 → k ≡ length (path (take 8 s))
    unfolding path
    path_stops e =
        let p : length (path (drop k (take 8 s))) ≡ 0 = rw (part_next 8 s fits k h) (simp (eq-eqb _ _ e)) in
        omega arith

    pub path_passes : (get_or s k 0 ≡ 255 → ⊥) → Passed (k + 1)
    unfolding path
    path_passes o =
        let p : length (path (drop k (take 8 s))) ≡ suc (length (path (drop (k + 1) (take 8 s)))) = rw (part_next 8 s fits k h) (simp (ne_eqb _ _ o)) in
        omega arith

  pub path_ends : (k : ℕ) → 8 ≤ k → k ≤ 8 → Passed k → 8 ≡ length (path (take 8 s))
  unfolding path
  path_ends k h g so =
      let p : length (path (drop k (take 8 s))) ≡ 0 = rw (part_over 8 s fits k h) refl in
      omega arith

-- the path is the part of the operand before the fill
pub path_part : (l : List ℕ) → path l ≡ take (length (path l)) l
unfolding path
path_part [] = refl
path_part (b ∷ bs) = cases (eqb b 255) (λ e. rw e refl) (λ e. rw e (ap (λ (x : List ℕ). b ∷ x) (path_part bs)))
