-- The fill of a route, as one number.
--     lack_step     the number without its lowest digit is that of the bytes after the first
--     lack_fill     it is 0 only for fill; fill_lack and is 0 for fill
--     lack_word     the number of eight bytes from the word that they make up
-- Assumes nothing.
use mathlib.Core.Path.{◌≡◌, refl}
use mathlib.Core.Bool.{true}
use mathlib.Core.List.{List, [], ◌∷◌}
use Prim.Native.Nat.{ℕ, suc, ◌+◌, ◌-◌, ◌*◌, ◌/◌, ◌≤◌, ◌<◌}
use native.Mathlib.Omega.{arith}
use lib.ListN.{length, get_or, take, drop}
use lib.Dec.{eqb}
use borrow.Author.Tests.{eq-eqb, eqb-true}
use Rattle.facts.proofs.Bools.{and_left, and_right, both}
use Rattle.route.specs.Route.{is_fill}
use Rattle.route.specs.Fills.{lack_of}
use Rattle.route.proofs.Paths.{part_next, part_over}

pub lack_step : (b : ℕ) (bs : List ℕ) → lack_of (b ∷ bs) / 256 ≡ lack_of bs
unfolding lack_of
lack_step b bs = omega arith

pub lack_fill : (bs : List ℕ) → ((i : ℕ) → get_or bs i 0 < 256) → lack_of bs ≡ 0 → is_fill bs ≡ true
unfolding lack_of is_fill
lack_fill [] low e = refl
lack_fill (b ∷ bs) low e =
    let l = low 0 in
    let f : b ≡ 255 = omega arith in
    both (eqb b 255) (is_fill bs) (eq-eqb b 255 f) (lack_fill bs (λ i. low (suc i)) (omega arith))

pub fill_lack : (bs : List ℕ) → is_fill bs ≡ true → lack_of bs ≡ 0
unfolding lack_of is_fill
fill_lack [] e = refl
fill_lack (b ∷ bs) e =
    let f = eqb-true b 255 (and_left (eqb b 255) (is_fill bs) e) in
    let ih = fill_lack bs (and_right (eqb b 255) (is_fill bs) e) in
    omega arith

module _ (s : List ℕ) (fits : 8 ≤ length s) (low : (i : ℕ) → get_or s i 0 < 256) where
  digit : (k : ℕ) → k < 8 → lack_of (drop k (take 8 s)) + get_or s k 0 ≡ 255 + 256 * lack_of (drop (k + 1) (take 8 s))
  unfolding lack_of
  digit k h = let l = low k in rw (part_next 8 s fits k h) (omega arith)

  over : lack_of (drop 8 (take 8 s)) ≡ 0
  unfolding lack_of
  over = rw (part_over 8 s fits 8 (omega arith)) refl

  pub lack_word : (lower upper : ℕ)
      → lower ≡ get_or s 0 0 + 256 * (get_or s 1 0 + 256 * (get_or s 2 0 + 256 * get_or s 3 0))
      → upper ≡ get_or s 4 0 + 256 * (get_or s 5 0 + 256 * (get_or s 6 0 + 256 * get_or s 7 0))
      → 18446744073709551615 - (lower + 4294967296 * upper) ≡ lack_of (take 8 s)
  lack_word lower upper p q =
      let d0 : lack_of (take 8 s) + get_or s 0 0 ≡ 255 + 256 * lack_of (drop 1 (take 8 s)) = digit 0 (omega arith) in
      let d1 : lack_of (drop 1 (take 8 s)) + get_or s 1 0 ≡ 255 + 256 * lack_of (drop 2 (take 8 s)) = digit 1 (omega arith) in
      let d2 : lack_of (drop 2 (take 8 s)) + get_or s 2 0 ≡ 255 + 256 * lack_of (drop 3 (take 8 s)) = digit 2 (omega arith) in
      let d3 : lack_of (drop 3 (take 8 s)) + get_or s 3 0 ≡ 255 + 256 * lack_of (drop 4 (take 8 s)) = digit 3 (omega arith) in
      let d4 : lack_of (drop 4 (take 8 s)) + get_or s 4 0 ≡ 255 + 256 * lack_of (drop 5 (take 8 s)) = digit 4 (omega arith) in
      let d5 : lack_of (drop 5 (take 8 s)) + get_or s 5 0 ≡ 255 + 256 * lack_of (drop 6 (take 8 s)) = digit 5 (omega arith) in
      let d6 : lack_of (drop 6 (take 8 s)) + get_or s 6 0 ≡ 255 + 256 * lack_of (drop 7 (take 8 s)) = digit 6 (omega arith) in
      let d7 : lack_of (drop 7 (take 8 s)) + get_or s 7 0 ≡ 255 + 256 * lack_of (drop 8 (take 8 s)) = digit 7 (omega arith) in
      let d8 = over in
      omega arith
