-- Silence means open: a missing byte of the message table does what the byte 0 does.
--     zero_at             there is nothing but 0 in a list of zeros and past its end; zeros_after: zeros after a list are what is read past its end
--     message_silent      so a table and the same with zeros after it have the same message for each number
--     silence_means_open  the statement
-- Assumes nothing.
use mathlib.Core.Path.{◌≡◌, refl, ap}
use mathlib.Core.List.{List, [], ◌∷◌, ◌++◌}
use Prim.Native.Nat.{ℕ, zero, suc}
use lib.ListN.{get_or, replicate}
use Rattle.steps.specs.Hearing.{silence, read, message}
use Rattle.steps.specs.Demand.{SilenceMeansOpen}
use Rattle.steps.proofs.Unheard.{after_alike}

zero_at : (m k : ℕ) → get_or (replicate m 0) k silence ≡ 0
zero_at zero k = refl
zero_at (suc m) zero = refl
zero_at (suc m) (suc k) = zero_at m k

zeros_after : (l : List ℕ) (m k : ℕ) → get_or (l ++ replicate m 0) k silence ≡ get_or l k silence
zeros_after [] m k = zero_at m k
zeros_after (x ∷ xs) m zero = refl
zeros_after (x ∷ xs) m (suc k) = zeros_after xs m k

pub message_silent : (l : List ℕ) (m k : ℕ) → message (l ++ replicate m 0) k ≡ message l k
unfolding message
message_silent l m k = ap read (zeros_after l m k)

pub silence_means_open : SilenceMeansOpen
silence_means_open card plan inputs X table lent m =
    after_alike card plan inputs X (table ++ replicate m 0) table lent (λ k h. message_silent table m k)
