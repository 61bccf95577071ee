-- The functions that count, on plain lists.
--     route_no, route_range       the test of a command, by its range
--     one_kept, one_more          a byte past the eighth server, and a server
--     Adding, adding-..           the loop along an operand: starts, goes on, stops at the fill, ends at the eighth byte
--     Counting, counting-..       the loop over the commands: starts, ends
--     Here, here-..               a whole command is here: it lies within the bytes, and the loop goes on past it
--     Routed, routed-..           the same for a command with a route
-- Assumes nothing.
use mathlib.Core.Path.{◌≡◌, refl, sym, ap, ◌∙◌}
use mathlib.Core.Bool.{Bool, true, false, cond}
use mathlib.Core.List.{List}
use Prim.Native.Nat.{ℕ, zero, suc, ◌+◌, ◌-◌, ◌≤◌, ◌<◌}
use native.Mathlib.Omega.{arith}
use lib.Dec.{eqb, ltb}
use lib.ListN.{length, get_or, set, take, drop, length-set, length-drop, replicate}
use lib.Seq.{get_or-set_same, get_or-set_other, length-take-le}
use borrow.Author.Tests.{le-ltb, eq-eqb, ne_eqb, eqb-true, eqb-false}
use Rattle.facts.proofs.Bools.{cases}
use Rattle.route.specs.Commands.{width, is_cut}
use Rattle.route.proofs.Paths.{part_next, part_over}
use Rattle.plan.proofs.Groups.{part_rest}
use Rattle.load.specs.Places.{has_route, operands_in}
use Rattle.load.specs.Tally.{between, tally, Room, Adds, Tallies}
use Rattle.load.proofs.Commands.{route_wide, whole_wide, operands_route, operands_other, operands_over}
use Rattle.load.proofs.Between.{between_few}

-- the test of a command

pub route_no : (c : ℕ) → c < 17 → false ≡ has_route c
unfolding has_route
route_no c h = sym (simp (ne_eqb c 17 (λ e. omega arith), ne_eqb c 18 (λ e. omega arith), ne_eqb c 19 (λ e. omega arith)))

pub route_range : (c : ℕ) → 17 ≤ c → ltb c 20 ≡ has_route c
unfolding has_route
route_range c h =
    cases (eqb c 17) (λ e. let q = eqb-true c 17 e in rw q refl) λ x.
    cases (eqb c 18) (λ e. let q = eqb-true c 18 e in rw q refl) λ y.
    cases (eqb c 19) (λ e. let q = eqb-true c 19 e in rw q refl) λ z.
    let a = eqb-false c 17 x in
    let b = eqb-false c 18 y in
    let d = eqb-false c 19 z in
    le-ltb c 20 (omega (arith, a, b, d)) ∙ sym (simp (x, y, z))

-- one more for a server
module _ (a : List ℕ) (server : ℕ) (room : Room 18446744073709551614 a) where
  pub one_fits : server < 8 → get_or a server 0 + 1 < 18446744073709551616
  one_fits h = let f = room.few server h in omega arith

  -- a byte past the eighth server
  pub one_kept : 8 ≤ server → Adds (λ (i : ℕ). cond (eqb server i) 1 0) a a
  one_kept h = record {
    long = room.long;
    each = λ i k. let e = ne_eqb server i (λ q. omega arith) in rw e (omega arith);
  }

  pub one_more : server < 8 → Adds (λ (i : ℕ). cond (eqb server i) 1 0) a (set a server (get_or a server 0 + 1))
  one_more h = record { long = length-set a server (get_or a server 0 + 1) ∙ room.long; each = each }
    where
      each : (i : ℕ) → i < 8 → get_or (set a server (get_or a server 0 + 1)) i 0 ≡ get_or a i 0 + cond (eqb server i) 1 0
      each i k =
          let more = get_or a server 0 + 1 in
          let long = room.long in
          cases (eqb server i)
          (λ e. let q = eqb-true server i e in
          let new : get_or (set a server more) i 0 ≡ more = ap (λ (x : ℕ). get_or (set a server more) x 0) (sym q) ∙ get_or-set_same a server more 0 (omega arith) in
          let old : get_or a server 0 ≡ get_or a i 0 = ap (λ (x : ℕ). get_or a x 0) q in
          rw e (omega arith))
          (λ e. let q = eqb-false server i e in
          let same = get_or-set_other a server i more 0 (λ t. q (sym t)) in
          rw e (omega arith))

-- the servers of an operand, from the one after the source on: what is still to come makes up the counts of the whole
pub record Adding (o a₀ a : List ℕ) (k : ℕ) : Type 0 where
  pub begun : 1 ≤ k
  pub most : k ≤ 7
  pub room : Room (9223372036854775808 + k) a
  pub left : (i : ℕ) → i < 8 → get_or a i 0 + between i (drop k (take 8 o)) ≡ get_or a₀ i 0 + between i (drop 1 (take 8 o))

module _ (o a₀ : List ℕ) (wide : 8 ≤ length o) where
  pub adding_starts : Room 9223372036854775808 a₀ → Adding o a₀ a₀ 1
  adding_starts r = record { begun = omega arith; most = omega arith; room = record { long = r.long; few = λ i h. let b = r.few i h in omega arith }; left = λ i h. refl }

  module _ (a : List ℕ) (k : ℕ) (so : Adding o a₀ a k) where
    -- nothing is to come
    done : ((i : ℕ) → between i (drop k (take 8 o)) ≡ 0) → Adds (λ (i : ℕ). between i (drop 1 (take 8 o))) a₀ a
    done z = record { long = so.room.long; each = λ i h. let e = so.left i h in let n = z i in omega arith }

    pub adding_ends : 7 ≤ k → Adds (λ (i : ℕ). between i (drop 1 (take 8 o))) a₀ a
    unfolding between
    adding_ends h =
        let m = so.most in
        let e = part_next 8 o wide k (omega arith) in
        let z = part_over 8 o wide (k + 1) (omega arith) in
        done (λ i. rw (e, z) refl)

    module _ (h : k < 7) where
      next : (i : ℕ) → between i (drop k (take 8 o)) ≡ cond (eqb (get_or o (k + 1) 0) 0xff) 0 (cond (eqb (get_or o k 0) i) 1 0 + between i (drop (k + 1) (take 8 o)))
      unfolding between
      next i =
          let e = part_next 8 o wide k (omega arith) in
          let z = part_next 8 o wide (k + 1) (omega arith) in
          rw (e, z) refl

      pub adding_stops : get_or o (k + 1) 0 ≡ 0xff → Adds (λ (i : ℕ). between i (drop 1 (take 8 o))) a₀ a
      adding_stops q = done (λ i. next i ∙ simp (eq-eqb _ _ q))

      pub adding_room : Room 18446744073709551614 a
      adding_room = record { long = so.room.long; few = λ i l. let b = so.room.few i l in omega arith }

      pub adding_goes : (get_or o (k + 1) 0 ≡ 0xff → ⊥) → (b : List ℕ) → Adds (λ (i : ℕ). cond (eqb (get_or o k 0) i) 1 0) a b → Adding o a₀ b (k + 1)
      adding_goes q b more = record {
        begun = omega arith;
        most = omega arith;
        room = record { long = more.long; few = λ i l. let e = more.each i l in let f = so.room.few i l in let one = at_most (eqb (get_or o k 0) i) in omega arith };
        left = λ i l. let e = more.each i l in
            let f = so.left i l in
            let n : between i (drop k (take 8 o)) ≡ cond (eqb (get_or o k 0) i) 1 0 + between i (drop (k + 1) (take 8 o)) = next i ∙ simp (ne_eqb _ _ q) in
            omega arith;
      }
        where
          at_most : (t : Bool) → cond t 1 0 ≤ 1
          at_most true = omega arith
          at_most false = omega arith

-- the commands of a plan: those still to come make up the counts of the whole
pub record Counting (s a : List ℕ) (at : ℕ) : Type 0 where
  pub inside : at ≤ length s
  pub room : Room at a
  pub left : (i : ℕ) → i < 8 → get_or a i 0 + tally i (operands_in (drop at s)) ≡ tally i (operands_in s)

pub counting_starts : (s : List ℕ) → Counting s (replicate 8 0) 0
counting_starts s = record {
  inside = omega arith;
  room = record { long = refl; few = λ i h. let z = none 8 i in omega arith };
  left = λ i h. let z = none 8 i in omega arith;
}
  where
    none : (k i : ℕ) → get_or (replicate {A = ℕ} k 0) i 0 ≡ 0
    none zero i = refl
    none (suc k) zero = refl
    none (suc k) (suc i) = none k i

pub counting_ends : (s a : List ℕ) (at : ℕ) → Counting s a at → is_cut s at ≡ true → Tallies s a
unfolding tally
counting_ends s a at so e = record {
  long = so.room.long;
  each = λ i h. let f = so.left i h in let z : tally i (operands_in (drop at s)) ≡ 0 = rw (operands_over s at e) refl in omega arith;
}

-- a whole command is here
pub record Here (s a : List ℕ) (at : ℕ) : Type 0 where
  pub counting : Counting s a at
  pub whole : is_cut s at ≡ false

module _ (s a : List ℕ) (at : ℕ) (so : Here s a at) where
  pub here_inside : at < length s
  here_inside = (whole_wide s at so.whole).0

  pub here_wide : (w : ℕ) → w ≡ width (get_or s at 0) → (0 < w) × (at + w ≤ length s)
  here_wide w q = let h = whole_wide s at so.whole in (omega arith, omega arith)

  pub here_goes : has_route (get_or s at 0) ≡ false → (w : ℕ) → w ≡ width (get_or s at 0) → Counting s a (at + w)
  here_goes r w q =
      let h = here_wide w q in
      let old = so.counting.room in
      record {
        inside = h.1;
        room = record { long = old.long; few = λ i l. let f = old.few i l in omega arith };
        left = λ i l. rw (q, ← (operands_other s at so.whole r)) (so.counting.left i l);
      }

-- and it has a route
pub record Routed (s a : List ℕ) (at : ℕ) : Type 0 where
  pub here : Here s a at
  pub route : has_route (get_or s at 0) ≡ true

module _ (s a : List ℕ) (at : ℕ) (so : Routed s a at) where
  nine : width (get_or s at 0) ≡ 9
  nine = route_wide (get_or s at 0) so.route

  pub routed_fits : at + 9 ≤ length s
  routed_fits = (here_wide s a at so.here 9 (sym nine)).1

  -- what the count along an operand asks
  pub routed_asks : length s < 9223372036854775808 → (8 ≤ length (take (length s - (at + 1)) (drop (at + 1) s))) × Room 9223372036854775808 a
  routed_asks big =
      let fits = routed_fits in
      let old = so.here.counting.room in (
        rw (part_rest s (at + 1)) (simp length-drop (omega arith)),
        record { long = old.long; few = λ i l. let f = old.few i l in omega arith },
      )

  pub routed_goes : (c : List ℕ) → Adds (λ (i : ℕ). between i (drop 1 (take 8 (take (length s - (at + 1)) (drop (at + 1) s))))) a c → Counting s c (at + 9)
  unfolding tally
  routed_goes c more =
      let fits = routed_fits in
      let old = so.here.counting in
      let p = part_rest s (at + 1) in
      let o = take 8 (drop (at + 1) s) in
      let rest = length-drop (at + 1) s in
      let eight = length-take-le 8 (drop (at + 1) s) (omega arith) in
      let seven = length-drop 1 o in
      let next = operands_route s at so.here.whole so.route in
      record {
        inside = fits;
        room = record {
          long = more.long;
          few = λ i l. let f = old.room.few i l in let m = rw p at (more.each i l) in let b = between_few i (drop 1 o) in omega arith;
        };
        left = λ i l. let f = rw (next, nine) at (old.left i l) in let m = rw p at (more.each i l) in omega arith;
      }
