-- The answer to a call: its own grounds in their order.
--     passed_bits                    the inputs are bits where the test says so
--     refuse_length, refuse_bits     ground 12
--     Standing, standing             ground 12 is not met, nor is the first half of ground 13
--     refuse_outside, refuse_many    ground 13
--     refuse_room                    ground 14
--     passes                         none of them
-- Assumes nothing.
use mathlib.Core.Path.{◌≡◌, refl, sym, ap, ◌∙◌}
use mathlib.Core.Bool.{Bool, true, false}
use mathlib.Core.List.{List}
use Prim.Native.Nat.{ℕ, ◌≤◌, ◌<◌, min}
use lib.Dec.{eqb}
use lib.ListN.{length}
use borrow.Author.Tests.{eq-eqb, ne_eqb, lt-ltb, le-ltb, le-leb, lt-leb}
use Rattle.std.specs.List.{list_all}
use Rattle.std.specs.Prelude.{nat_lt}
use Rattle.facts.proofs.Bools.{cases}
use Rattle.refusal.specs.Refused.{call}
use Rattle.sets.specs.Sets.{within, full, size}
use Rattle.plan.specs.Check.{Totals, turned}
use Rattle.plan.proofs.Cuts.{full_few}
use Rattle.run.proofs.Lent.{bits_all}
use Rattle.steps.specs.Run.{are_bits, check_call}

-- the inputs are bits where the test says so
pub passed_bits : (inputs : List ℕ) (b : Bool) → b ≡ list_all (λ (x : ℕ). nat_lt x 2) inputs → b ≡ true → are_bits inputs ≡ true
passed_bits inputs b e t = sym (bits_all inputs) ∙ sym e ∙ t

-- one bit for each server, and each faulty one is one of V
pub record Standing (n : ℕ) (inputs : List ℕ) (X : ℕ) : Type 0 where
  pub long : eqb (length inputs) n ≡ true
  pub bits : are_bits inputs ≡ true
  pub servers : within X (full n) ≡ true

module _ (n f : ℕ) (inputs : List ℕ) (X : ℕ) (lent : List ℕ) (answer : Totals) where
  pub refuse_length : (length inputs ≡ n → ⊥) → turned (call 12) ≡ check_call n f inputs X lent answer
  unfolding check_call
  refuse_length o = let e = ne_eqb (length inputs) n o in rw e refl

  pub refuse_bits : (b : Bool) → b ≡ list_all (λ (x : ℕ). nat_lt x 2) inputs → b ≡ false → turned (call 12) ≡ check_call n f inputs X lent answer
  unfolding check_call
  refuse_bits b e l = let i = bits_all inputs in cases (eqb (length inputs) n) (λ z. cc) (λ z. cc)

  module _ (s : Standing n inputs X) where
    pub refuse_many : f < size X → turned (call 13) ≡ check_call n f inputs X lent answer
    unfolding check_call
    refuse_many l = let i = s.long in let z = s.bits in let y = s.servers in let q = lt-leb (size X) f l in cc

    module _ (k : ℕ) (ek : k ≡ size X) (l : k ≤ f) where
      pub refuse_room : length lent < n → turned (call 14) ≡ check_call n f inputs X lent answer
      unfolding check_call
      refuse_room r = let i = s.long in let z = s.bits in let y = s.servers in let q = le-leb (size X) f (rw (← ek) l) in let p = lt-ltb (length lent) n r in cc

      pub passes : n ≤ length lent → answer ≡ check_call n f inputs X lent answer
      unfolding check_call
      passes r = let i = s.long in let z = s.bits in let y = s.servers in let q = le-leb (size X) f (rw (← ek) l) in let p = le-ltb (length lent) n r in cc

-- the tests of the inputs are passed, and that of the faulty set says w
module _ (n : ℕ) (inputs : List ℕ) (X : ℕ) (whole : length inputs ≡ n) (b : Bool) (eb : b ≡ list_all (λ (x : ℕ). nat_lt x 2) inputs) (tb : b ≡ true)
    (few : n ≤ 8) (servers : ℕ) (es : servers ≡ full (min n 8)) (w : Bool) (ew : w ≡ within X servers) where
  inside : within X (full n) ≡ w
  inside = ap (λ (s : ℕ). within X s) (sym (full_few n servers few es).0) ∙ sym ew

  long : eqb (length inputs) n ≡ true
  long = eq-eqb (length inputs) n whole

  pub refuse_outside : w ≡ false → (f : ℕ) (lent : List ℕ) (answer : Totals) → turned (call 13) ≡ check_call n f inputs X lent answer
  unfolding check_call
  refuse_outside l f lent answer = let i = inside in let z = long in let a = bits_all inputs in cc

  pub standing : w ≡ true → Standing n inputs X
  standing t = record { long = long; bits = sym (bits_all inputs) ∙ sym eb ∙ tb; servers = inside ∙ t }
