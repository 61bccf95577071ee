-- The pairs of servers in their order, and the links among them.
--     left links pair         the links from a pair on
--     Counting, counting-..   the loop that counts a card's bytes: those counted and those of the links left
--     Laying, laying-..       the loop that writes the links: to lay those left over what is there gives the whole
-- Assumes nothing.
use mathlib.Core.Path.{◌≡◌, refl}
use mathlib.Core.Bool.{cond, true, false}
use mathlib.Core.List.{List, [], ◌∷◌}
use Prim.Native.Nat.{ℕ, suc, ◌+◌, ◌-◌, ◌*◌, ◌/◌, ◌%◌, ◌≤◌, ◌<◌}
use native.Mathlib.Numerals.{add-one}
use native.Mathlib.Omega.{arith}
use lib.ListN.{length, set, length-set}
use Rattle.facts.specs.Laid.{laid}
use Rattle.network.specs.Links.{Links, linked_in}
use Rattle.printer.specs.Print.{Link, link_bytes, links_among, ascending}

abbrev pub left : Links → ℕ → List Link
left links pair = links_among (64 - pair) pair links

module _ (links : Links) (pair : ℕ) where
  left_none : 64 ≤ pair → left links pair ≡ []
  unfolding links_among
  left_none h = let z : 64 - pair ≡ 0 = omega arith in rw z refl

  module _ (h : pair < 64) where
    one_less : left links pair ≡ cond (linked_in links (pair / 8) (pair % 8)) ((pair / 8, pair % 8) ∷ left links (pair + 1)) (left links (pair + 1))
    unfolding links_among
    one_less = let z : 64 - pair ≡ suc (64 - (pair + 1)) = omega arith in let a = add-one pair in rw (z, a) refl

    left_goes : linked_in links (pair / 8) (pair % 8) ≡ true → left links pair ≡ (pair / 8, pair % 8) ∷ left links (pair + 1)
    left_goes e = let o = one_less in rw e at o

    left_skips : linked_in links (pair / 8) (pair % 8) ≡ false → left links pair ≡ left links (pair + 1)
    left_skips e = let o = one_less in rw e at o

module _ (links : Links) where
  pub record Counting (bytes pair : ℕ) : Type 0 where
    pub within : pair ≤ 64
    pub few : bytes ≤ 4 + 3 * pair
    pub whole : bytes + length (link_bytes (left links pair)) ≡ 4 + length (link_bytes (ascending links))

  pub counting_starts : Counting 4 0
  unfolding ascending
  counting_starts = record { within = omega arith; few = omega arith; whole = refl }

  module _ {bytes pair : ℕ} (k : Counting bytes pair) where
    pub counting_done : 64 ≤ pair → bytes ≡ 4 + length (link_bytes (ascending links))
    unfolding link_bytes
    counting_done h = let w = k.whole in let z = left_none links pair h in let v = rw z at w in omega arith

    module _ (h : pair < 64) where
      pub counting_goes : linked_in links (pair / 8) (pair % 8) ≡ true → Counting (bytes + 3) (pair + 1)
      unfolding link_bytes
      counting_goes e =
          let w = k.whole in let z = left_goes links pair h e in let v = rw z at w in
          record { within = omega arith; few = omega arith; whole = omega arith }

      pub counting_skips : linked_in links (pair / 8) (pair % 8) ≡ false → Counting bytes (pair + 1)
      counting_skips e =
          let w = k.whole in let z = left_skips links pair h e in
          record { within = omega arith; few = omega arith; whole = rw z at w }

module _ (links : Links) (old : List ℕ) where
  pub record Laying (lent : List ℕ) (at pair : ℕ) : Type 0 where
    pub within : pair ≤ 64
    pub long : length lent ≡ length old
    pub room : at + length (link_bytes (left links pair)) ≤ length old
    pub whole : laid at (link_bytes (left links pair)) lent ≡ laid 3 (link_bytes (ascending links)) old

  pub laying_starts : 3 + length (link_bytes (ascending links)) ≤ length old → Laying old 3 0
  unfolding ascending
  laying_starts h = record { within = omega arith; long = refl; room = h; whole = refl }

  module _ {lent : List ℕ} {at pair : ℕ} (k : Laying lent at pair) where
    pub laying_done : 64 ≤ pair → lent ≡ laid 3 (link_bytes (ascending links)) old
    unfolding link_bytes laid
    laying_done h = let w = k.whole in let z = left_none links pair h in rw z at w

    module _ (h : pair < 64) where
      pub laying_skips : linked_in links (pair / 8) (pair % 8) ≡ false → Laying lent at (pair + 1)
      laying_skips e =
          let z = left_skips links pair h e in let r = k.room in let w = k.whole in
          record { within = omega arith; long = k.long; room = rw z at r; whole = rw z at w }

      module _ (e : linked_in links (pair / 8) (pair % 8) ≡ true) where
        pub laying_room : at + 3 ≤ length lent
        unfolding link_bytes
        laying_room = let r = k.room in let z = left_goes links pair h e in let v = rw z at r in let l = k.long in omega arith

        pub laying_goes : Laying (set (set (set lent at 2) (at + 1) (pair / 8)) (at + 2) (pair % 8)) (at + 3) (pair + 1)
        unfolding link_bytes laid
        laying_goes =
            let z = left_goes links pair h e in
            let r = k.room in let v = rw z at r in
            let w = k.whole in let y = rw z at w in
            let a : suc at ≡ at + 1 = omega arith in
            let b : suc (suc at) ≡ at + 2 = omega arith in
            let d : suc (suc (suc at)) ≡ at + 3 = omega arith in
            record {
              within = omega arith;
              long = simp (length-set, k.long);
              room = omega arith;
              whole = rw (← d, ← b, ← a) y;
            }
