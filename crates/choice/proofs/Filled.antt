-- The loop that fills the table: before the turn of a set the entries of all smaller sets apart from F are made, and its own follows from them.
--     less-..      the two answers of `less_at`
--     passing-..   the loop of `any_less` over the eight servers
--     found-..     the two answers of `holds_weak`
--     filling-..   the loop that fills the table, over the sets apart from F
-- Assumes nothing.
use mathlib.Core.Path.{◌≡◌, sym, ap, ◌∙◌}
use mathlib.Core.Bool.{Bool, true, false, ◌||◌}
use mathlib.Core.List.{List}
use Prim.Native.Nat.{ℕ, min, ◌+◌, ◌^◌, ◌≤◌, ◌<◌}
use native.Mathlib.Omega.{arith}
use lib.ListN.{length, get_or, set, length-set}
use lib.Seq.{get_or-set_same, get_or-set_other}
use lib.Pow.{pow_pos, pow_mono}
use lib.Dec.{eqb, leb}
use borrow.Author.Tests.{eqb-true, eqb-false, leb-true, leb-false}
use Rattle.facts.proofs.Bools.{cases}
use Rattle.sets.specs.Sets.{has, single, meet, minus, full, next}
use Rattle.sets.proofs.Members.{meet_comm, meet_nothing}
use Rattle.sets.proofs.NextSet.{next_apart, next_after, next_least}
use Rattle.network.specs.Links.{Links}
use Rattle.split.specs.Split.{some_below}
use Rattle.split.specs.Sources.{Sources, outside_rows}
use Rattle.split.proofs.Neighbours.{some_below_same, some_of, none_of}
use Rattle.split.proofs.Weakness.{weak_is, outside_is}
use Rattle.planner.specs.Choice.{holds_weak}
use Rattle.choice.specs.WeakTable.{less_at, any_less, WeakTable}
use Rattle.choice.proofs.Smaller.{less_number, less_apart, holds_empty, holdsWithout, holds_less}

-- less_at

module _ (table : List Bool) (X x : ℕ) where
  pub less_there : (b : Bool) → b ≡ has X x → b ≡ true → (alone less : ℕ) → alone ≡ single x → less ≡ minus X alone → get_or table less false ≡ less_at table X x
  unfolding less_at
  less_there b e t alone less p q = let m : less ≡ minus X (single x) = q ∙ ap (minus X) p in cc

  pub less_gone : (b : Bool) → b ≡ has X x → b ≡ false → false ≡ less_at table X x
  unfolding less_at
  less_gone b e t = cc

-- any_less

module _ (table : List Bool) (X : ℕ) where
  -- no server below x can be left out
  pub record Passing (x : ℕ) : Type 0 where
    pub inside : x ≤ 8
    pub none : (y : ℕ) → y < x → less_at table X y ≡ false

  pub passing_starts : Passing 0
  passing_starts = record { inside = omega arith; none = λ y h. absurd (omega arith) }

  module _ (x : ℕ) (s : Passing x) where
    pub passing_goes : x < 8 → (b : Bool) → b ≡ less_at table X x → b ≡ false → Passing (x + 1)
    passing_goes h b e t =
        record {
          inside = omega arith;
          none = λ y k.
              cases (eqb y x)
              (λ q. ap (less_at table X) (eqb-true y x q) ∙ sym e ∙ t)
              (λ q. s.none y (let o = eqb-false y x q in omega arith));
        }

    pub passing_hits : x < 8 → (b : Bool) → b ≡ less_at table X x → b ≡ true → true ≡ any_less table X
    unfolding any_less
    passing_hits h b e t = sym (some_of 8 (less_at table X) x h (sym e ∙ t))

    pub passing_ends : 8 ≤ x → false ≡ any_less table X
    unfolding any_less
    passing_ends h = sym (none_of 8 (less_at table X) (λ y k. s.none y (omega arith)))

-- holds_weak

module _ (weak any : Bool) (b : Bool) (e : b ≡ weak) where
  pub found_weak : b ≡ true → true ≡ (weak || any)
  found_weak t = cc

  pub found_less : b ≡ false → (a : Bool) → a ≡ any → a ≡ (weak || any)
  found_less t a q = cc

-- the table

module _ (n f : ℕ) (links : Links) (F : ℕ) where
  -- before the turn of the set `at`, in a scan over the sets up to `last` that are apart from `busy`
  pub record Filling (at last busy : ℕ) (table : List Bool) : Type 0 where
    pub to : last + 1 ≡ 2 ^ n
    pub from : busy ≡ F
    pub some : 0 < at
    pub clear : meet at F ≡ 0
    pub long : length table ≡ 256
    pub made : (X : ℕ) → X < 2 ^ n → X < at → meet X F ≡ 0 → get_or table X false ≡ holds_weak n f links F X

  -- a set apart from F that comes before the next one
  before_next : (at X : ℕ) → meet at F ≡ 0 → X < next at F → meet X F ≡ 0 → X ≤ at
  before_next at X a h b =
      cases (leb X at)
      (λ q. leb-true X at q)
      (λ q. let o = leb-false X at q in let l = next_least at F X a b (omega arith) in absurd (omega arith))

  module _ (few : n ≤ 8) where
    pub filling_starts : (at last busy : ℕ) (table : List Bool) → at ≡ next 0 F → last ≡ full (min n 8) → busy ≡ F → length table ≡ 256 → get_or table 0 false ≡ false → Filling at last busy table
    unfolding full
    filling_starts at last busy table e t b l z =
        record {
          to = let m : min n 8 ≡ n = omega arith in let v = rw m at t in let p = pow_pos n in omega arith;
          from = b;
          some = let a = next_after 0 F (meet_nothing F) in omega arith;
          clear = ap (λ (x : ℕ). meet x F) e ∙ next_apart 0 F;
          long = l;
          made = λ X small h a.
              let x : X ≡ 0 = let b = before_next 0 X (meet_nothing F) (omega arith) a in omega arith in
              rw x (z ∙ sym (holds_empty n f links F few));
        }

    pub filling_ends : (at last busy : ℕ) (table : List Bool) → Filling at last busy table → last < at → WeakTable n f links F table
    filling_ends at last busy table s h = let t = s.to in record { long = s.long; entry = λ X small a. s.made X small (omega arith) a }

    module _ (rows : List ℕ) (so : Sources n links rows) (at last busy : ℕ) (table : List Bool) (s : Filling at last busy table) (at' last' busy' : ℕ) (h : at ≤ last) (e : at' ≡ next at busy)
        (el : last' ≡ last) (eb : busy' ≡ busy) where
      small : at < 2 ^ n
      small = let t = s.to in omega arith

      -- the smaller sets tell whether the set holds a weak set
      any_holds : any_less table at ≡ some_below 8 (holdsWithout n f links F at)
      unfolding any_less less_at
      any_holds =
          some_below_same 8 (less_at table at) (holdsWithout n f links F at)
          (λ x k. cases (has at x)
          (λ h. let l = less_number at x k h in
          let j = small in
          let m = s.made (minus at (single x)) (omega arith) l (less_apart n at (single x) F small s.clear) in
          cc)
          (λ h. cc))

      entry_holds : (b : Bool) → b ≡ (leb (outside_rows rows F at) f || any_less table at) → b ≡ holds_weak n f links F at
      entry_holds b a =
          let o = outside_is n links rows few so F at small in
          let w = weak_is n f links F at s.some (meet_comm F at ∙ s.clear) in
          let l = any_holds in
          let h = holds_less n f links F few at small in
          cc

      pub filling_byte : at < 256
      filling_byte = let j = small in let m : 2 ^ n ≤ 2 ^ 8 = pow_mono few in omega arith

      pub filling_turn : (b : Bool) → b ≡ (leb (outside_rows rows F at) f || any_less table at) → Filling at' last' busy' (set table at b)
      filling_turn b a =
          let byte = filling_byte in
          let g : at' ≡ next at F = e ∙ ap (next at) s.from in
          record {
            to = let t = s.to in omega arith;
            from = eb ∙ s.from;
            some = let a = next_after at F s.clear in omega arith;
            clear = ap (λ (x : ℕ). meet x F) g ∙ next_apart at F;
            long = simp (length-set, s.long);
            made = λ X small h c.
                cases (eqb X at)
                (λ q. let x = eqb-true X at q in rw x (let l = s.long in get_or-set_same table at b false (omega arith) ∙ entry_holds b a))
                (λ q. let o = eqb-false X at q in
                get_or-set_other table at X b false o ∙ s.made X small (let k = before_next at X s.clear (omega arith) c in omega arith) c);
          }
