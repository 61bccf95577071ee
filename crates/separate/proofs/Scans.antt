-- Where the entry side of x leads to, and the loop over the eight servers for the first one that hands on to x. On plain numbers; b is what a test gave.
--     feeding-..     from p on, the search for the first server gives what it gives from 0 on
--     behind-..      a server that a route passes leads back, another one through itself
-- Assumes nothing.
use mathlib.Core.Path.{◌≡◌, refl, sym}
use mathlib.Core.Bool.{Bool, true, false}
use Prim.Native.Nat.{ℕ, suc, ◌+◌, ◌-◌, ◌<◌}
use native.Mathlib.Numerals.{add-one}
use native.Mathlib.Omega.{arith}
use lib.ListN.{get_or}
use borrow.Author.Tests.{lt-ltb}
use Rattle.std.specs.Prelude.{Some, None}
use Rattle.sets.specs.Sets.{has, first_in}
use Rattle.flow.specs.declared.Flow.{Flow}
use Rattle.flow.specs.Search.{out_in, feeder, server_at}

-- a server, and none
server_is : (q w : ℕ) → q ≡ w → q < 8 → Some q ≡ server_at w
server_is q w e h = let t = lt-ltb q 8 h in rw (sym e, t) refl

server_none : (w : ℕ) → 8 ≡ w → None ≡ server_at w
server_none w e = rw (sym e) refl

-- feeder

-- what is left of the search from p on gives the answer of the whole
abbrev pub Feeding : Flow → (x p : ℕ) → Type 0
Feeding φ x p = first_in (8 - p) p (λ (q : ℕ). out_in φ q x) ≡ feeder φ x

pub feeding_starts : (φ : Flow) (x : ℕ) → Feeding φ x 0
unfolding feeder
feeding_starts φ x = refl

module _ (φ : Flow) (x p : ℕ) (here : Feeding φ x p) where
  pub feeding_found : p < 8 → (b : Bool) → b ≡ has (get_or φ.out p 0) x → b ≡ true → Some p ≡ server_at (feeder φ x)
  unfolding first_in out_in
  feeding_found h b e t = let s : 8 - p ≡ suc (8 - (p + 1)) = omega arith in let i = rw s at here in server_is p (feeder φ x) (cc) h

  pub feeding_on : p < 8 → (b : Bool) → b ≡ has (get_or φ.out p 0) x → b ≡ false → Feeding φ x (p + 1)
  unfolding first_in out_in
  feeding_on h b e t = let s : 8 - p ≡ suc (8 - (p + 1)) = omega arith in let i = rw s at here in let a = add-one p in cc

  pub feeding_none : p ≡ 8 → None ≡ server_at (feeder φ x)
  unfolding first_in
  feeding_none e = server_none (feeder φ x) (rw e at here)
