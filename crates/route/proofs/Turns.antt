-- The loop of the route check. k bytes are passed, the last of them is the server `last`, and `left` is the number of those ahead.
--     Walking      the walk from here on gives the answer of the whole
--     walk-..      what a turn gives
-- Assumes nothing.
use mathlib.Core.Path.{◌≡◌, refl, sym, ap, ◌∙◌}
use mathlib.Core.Bool.{Bool, true, false, cond, ◌&&◌}
use mathlib.Core.List.{List, ◌∷◌}
use Prim.Native.Nat.{ℕ, ◌+◌, ◌/◌, ◌≤◌, ◌<◌}
use native.Mathlib.Omega.{arith}
use lib.ListN.{length, get_or, take, drop, get_or-eq_default}
use lib.Seq.{get_or-drop, get_or-take, length-take-le}
use lib.Dec.{eqb, ltb}
use borrow.Author.Tests.{ltb-true, ltb-false}
use Rattle.facts.proofs.Bools.{cases, is_false, and_left}
use Rattle.sets.specs.Sets.{has, meet, minus, single}
use Rattle.sets.proofs.Members.{has_meet, has_below, has_beyond, minus_small}
use Rattle.network.specs.Links.{linked_in}
use Rattle.network.specs.Rows.{links_of}
use Rattle.network.proofs.LinkRows.{linked_row}
use Rattle.route.specs.Route.{is_fill, route_set}
use Rattle.route.specs.Fills.{lack_of}
use Rattle.route.proofs.Paths.{part_next, part_over}
use Rattle.route.proofs.Fills.{lack_step, lack_fill, fill_lack}
use Rattle.route.proofs.Walks.{walk_on, route_walk}

pub record Walking (W : ℕ) (rows : List ℕ) (sources receiver : ℕ) (s : List ℕ) (last free left k : ℕ) : Type 0 where
  pub begun : 1 ≤ k
  pub inside : k ≤ 8
  pub low : last < 8
  pub small : free < 256
  pub word : left ≡ lack_of (drop k (take 8 s))
  pub gives : walk_on W (links_of rows) receiver free last (drop k (take 8 s)) ≡ route_set W (links_of rows) sources receiver s

-- a server that is free and that the row has is free and linked
free_linked : (rows : List ℕ) (last free b : ℕ) → last < 8 → free < 256
    → has (meet free (get_or rows last 0)) b ≡ (has free b && linked_in (links_of rows) last b)
free_linked rows last free b h small =
    has_meet free (get_or rows last 0) b
    ∙ cases (ltb b 8)
    (λ t. ap (λ (x : Bool). has free b && x) (sym (linked_row rows last b h (ltb-true b 8 t))))
    (λ t. let o = has_beyond 8 free b small (ltb-false b 8 t) in simp o)

module _ (W : ℕ) (rows : List ℕ) (sources receiver : ℕ) (s : List ℕ) (small : W < 256) (fits : 8 ≤ length s) {both : ℕ} (m : both ≡ meet W sources) {found : Bool} (p : found ≡ has both (get_or s 0 0)) where
  source : found ≡ (has W (get_or s 0 0) && has sources (get_or s 0 0))
  source = p ∙ ap (λ (x : ℕ). has x (get_or s 0 0)) m ∙ has_meet W sources (get_or s 0 0)

  -- the first server is none of W, or no source
  pub walk_astray : found ≡ false → 0 ≡ route_set W (links_of rows) sources receiver s
  walk_astray e = sym (simp (sym source ∙ e)) ∙ route_walk W (links_of rows) sources receiver small s fits

  pub walk_starts : found ≡ true → {one free number : ℕ} → one ≡ single (get_or s 0 0) → free ≡ minus W one → number ≡ lack_of (take 8 s)
      → Walking W rows sources receiver s (get_or s 0 0) free (number / 256) 1
  walk_starts e a b c =
      let i = and_left (has W (get_or s 0 0)) (has sources (get_or s 0 0)) (sym source ∙ e) in
      let d : take 8 s ≡ get_or s 0 0 ∷ drop 1 (take 8 s) = part_next 8 s fits 0 (omega arith) in
      let f : _ ≡ minus W (single (get_or s 0 0)) = b ∙ ap (minus W) a in
      record {
        begun = omega arith;
        inside = omega arith;
        low = has_below 8 W (get_or s 0 0) small i;
        small = rw f (minus_small 8 W (single (get_or s 0 0)) small);
        word = ap (λ (x : ℕ). x / 256) (c ∙ ap lack_of d) ∙ lack_step (get_or s 0 0) (drop 1 (take 8 s));
        gives = rw f (sym (simp (sym source ∙ e)) ∙ route_walk W (links_of rows) sources receiver small s fits);
      }

-- every byte of a part is one
part_low : (s : List ℕ) → 8 ≤ length s → ((i : ℕ) → get_or s i 0 < 256) → (m i : ℕ) → get_or (drop m (take 8 s)) i 0 < 256
part_low s fits low m i =
    rw (get_or-drop m (take 8 s) i 0)
    (cases (ltb (m + i) 8)
    (λ t. rw (get_or-take 8 s (m + i) 0 (ltb-true (m + i) 8 t)) (low (m + i)))
    (λ t. let l = length-take-le 8 s fits in let g = ltb-false (m + i) 8 t in rw (get_or-eq_default (take 8 s) 0 {n = m + i} (omega arith)) (omega arith)))

module _ {W : ℕ} {rows : List ℕ} {sources receiver : ℕ} {s : List ℕ} {last free left k : ℕ} (w : Walking W rows sources receiver s last free left k) (fits : 8 ≤ length s) where
  pub walk_over : 8 ≤ k → 0 ≡ route_set W (links_of rows) sources receiver s
  unfolding walk_on
  walk_over h = sym (rw (part_over 8 s fits k h) refl) ∙ w.gives

  module _ (h : k < 8) {row both : ℕ} (e : row ≡ get_or rows last 0) (m : both ≡ meet free row) {found : Bool} (p : found ≡ has both (get_or s k 0)) where
    next : found ≡ (has free (get_or s k 0) && linked_in (links_of rows) last (get_or s k 0))
    next = let l = w.low in p ∙ ap (λ (x : ℕ). has x (get_or s k 0)) (m ∙ ap (meet free) e) ∙ free_linked rows last free (get_or s k 0) l w.small

    now : cond (has free (get_or s k 0) && linked_in (links_of rows) last (get_or s k 0))
        (cond (is_fill (drop (k + 1) (take 8 s))) (cond (eqb (get_or s k 0) receiver) (minus W (minus free (single (get_or s k 0)))) 0) (walk_on W (links_of rows) receiver (minus free (single (get_or s k 0))) (get_or s k 0) (drop (k + 1) (take 8 s))))
        0
        ≡ route_set W (links_of rows) sources receiver s
    unfolding walk_on
    now = sym (rw (part_next 8 s fits k h) refl) ∙ w.gives

    -- the next server has been passed, is none of W, or is not linked
    pub walk_stops : found ≡ false → 0 ≡ route_set W (links_of rows) sources receiver s
    walk_stops t = sym (simp (sym next ∙ t)) ∙ now

    module _ (t : found ≡ true) {one free' left' : ℕ} (a : one ≡ single (get_or s k 0)) (b : free' ≡ minus free one) (c : left' ≡ left / 256) where
      taken : free' ≡ minus free (single (get_or s k 0))
      taken = b ∙ ap (minus free) a

      ahead : left' ≡ lack_of (drop (k + 1) (take 8 s))
      ahead = c ∙ ap (λ (x : ℕ). x / 256) (w.word ∙ ap lack_of (part_next 8 s fits k h)) ∙ lack_step (get_or s k 0) (drop (k + 1) (take 8 s))

      -- only fill is ahead
      pub walk_ends : ((i : ℕ) → get_or s i 0 < 256) → left' ≡ 0 → {r : ℕ} → r ≡ cond (eqb (get_or s k 0) receiver) (minus W free') 0 → r ≡ route_set W (links_of rows) sources receiver s
      walk_ends low z q =
          let f = lack_fill (drop (k + 1) (take 8 s)) (part_low s fits low (k + 1)) (sym ahead ∙ z) in
          q ∙ rw taken (sym (simp (sym next ∙ t, f)) ∙ now)

      pub walk_on_lem : (left' ≡ 0 → ⊥) → Walking W rows sources receiver s (get_or s k 0) free' left' (k + 1)
      walk_on_lem o =
          let f = is_false (is_fill (drop (k + 1) (take 8 s))) (λ y. o (ahead ∙ fill_lack _ y)) in
          let i = and_left (has free (get_or s k 0)) _ (sym next ∙ t) in
          record {
            begun = omega arith;
            inside = omega arith;
            low = has_below 8 free (get_or s k 0) w.small i;
            small = rw taken (minus_small 8 free (single (get_or s k 0)) w.small);
            word = ahead;
            gives = rw taken (sym (simp (sym next ∙ t, f)) ∙ now);
          }
