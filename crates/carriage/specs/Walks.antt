-- The place of the receiver in a route's operand, for any bytes.
--     receiver_at s   == the first place after the source's that has the fill next, the last of the eight if none has; 0 for bytes that are no operand
--     Walked X s r  <-> r is that place, and whether some server before it is in X
use Rattle.std.specs.Prelude.{◌≡◌, cond, List, ℕ, zero, suc, eqb, ltb, length, get_or, take}
use Rattle.steps.specs.Hearing.{hit}
use Rattle.carriage.specs.declared.walk.Walk.{Walk}

-- from place k on, with so many places to go
unfoldable pub last_from : ℕ → ℕ → List ℕ → ℕ
last_from zero k s = k
last_from (suc left) k s = cond (eqb (get_or s (suc k) 0) 0xff) k (last_from left (suc k) s)

unfoldable pub receiver_at : List ℕ → ℕ
receiver_at s = cond (ltb (length s) 8) 0 (last_from 6 1 s)

pub record Walked (X : ℕ) (s : List ℕ) (r : Walk) : Type 0 where
  pub end : r.end ≡ receiver_at s
  pub hit : r.hit ≡ hit X (take (receiver_at s) s)
