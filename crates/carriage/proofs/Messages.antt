-- The byte of a number, as it is read: 0 and 1 as they are, any other as 2, a missing one as 0.
--     message_bit, -other, -none the three ways
-- Assumes nothing.
use mathlib.Core.Path.{◌≡◌, refl, sym}
use mathlib.Core.List.{List}
use Prim.Native.Nat.{ℕ, ◌≤◌, ◌<◌}
use lib.ListN.{length, get_or, get_or-eq_default}
use borrow.Author.Tests.{lt-ltb, le-ltb}
use Rattle.steps.specs.Hearing.{read, message}

module _ (bytes : List ℕ) (k : ℕ) where
  pub message_bit : get_or bytes k 0 < 2 → get_or bytes k 0 ≡ message bytes k
  unfolding message read
  message_bit b = sym (simp (lt-ltb _ _ b))

  pub message_other : 2 ≤ get_or bytes k 0 → 2 ≡ message bytes k
  unfolding message read
  message_other b = sym (simp (le-ltb _ _ b))

  pub message_none : length bytes ≤ k → 0 ≡ message bytes k
  unfolding message read
  message_none h = let e = get_or-eq_default bytes 0 h in sym (rw e refl)
