-- Arrived bytes beyond those due have no effect: what a server receives is read from the first so many bytes, each as the run reads it.
--     received_many   how many are received
--     received_alike  arrivals that the run reads alike, as far as they are due, are received alike
--     commit_alike    so the commit gives the same for them, whatever its answer
--     beyond_due      the statement
-- Assumes nothing.
use mathlib.Core.Path.{◌≡◌, refl, ap, ap₂}
use mathlib.Core.List.{List, [], ◌∷◌}
use Prim.Native.Nat.{ℕ, suc, ◌+◌, ◌≤◌, ◌<◌}
use native.Mathlib.Omega.{arith}
use lib.Dec.{eqb}
use lib.ListN.{length, take}
use Rattle.facts.proofs.Bools.{cases}
use Rattle.network.specs.Links.{Links}
use Rattle.network.specs.Card.{network, read_card}
use Rattle.plan.specs.Check.{Totals, totals, turned, check_plan}
use Rattle.rules.specs.Blocks.{Carriage}
use Rattle.steps.specs.Hearing.{message}
use Rattle.steps.proofs.Unheard.{message_same}
use Rattle.part.specs.Own.{received, carriages_of, committed}
use Rattle.part.specs.State.{State}
use Rattle.part.specs.Calls.{site_on, site_of, block_of, commit_on, commit_call}
use Rattle.part.specs.Theorems.{due_to, BeyondDue}

-- how many are received does not hang on what arrived
pub received_many : (a b : List ℕ) (j k i : ℕ) (cs : List Carriage) → length (received a j i cs) ≡ length (received b k i cs)
unfolding received
received_many a b j k i [] = refl
received_many a b j k i (c ∷ cs) =
    cases (eqb c.receiver i) (λ e. rw e (ap suc (received_many a b (suc j) (suc k) i cs))) (λ e. rw e (received_many a b j k i cs))

module _ (k : ℕ) (a b : List ℕ) (alike : (j : ℕ) → j < k → message a j ≡ message b j) where
  received_alike : (j i : ℕ) (cs : List Carriage) → j + length (received [] 0 i cs) ≤ k → received a j i cs ≡ received b j i cs
  unfolding received message
  received_alike j i [] h = refl
  received_alike j i (c ∷ cs) h =
      cases (eqb c.receiver i)
      (λ e. let n = rw e at h in
      let here = alike j (omega arith) in
      let later = received_alike (suc j) i cs (let z = received_many [] [] 1 0 i cs in omega arith) in
      rw e (ap₂ (λ (x : ℕ) (l : List ℕ). x ∷ l) here later))
      (λ e. let n = rw e at h in rw e (received_alike j i cs n))

module _ (plan : List ℕ) (n f : ℕ) (links : Links) (i : ℕ) (s : State) (a b : List ℕ)
    (alike : (j : ℕ) → j < due_to n f plan i s → message a j ≡ message b j) where
  pub commit_alike : (checked : Totals) → commit_on (site_on (network n f links) checked) plan i s a ≡ commit_on (site_on (network n f links) checked) plan i s b
  unfolding commit_on committed
  commit_alike (turned r) = refl
  commit_alike (totals blocks carriages) =
      let cs = carriages_of s.kind (block_of n f plan s.block) in
      let e = received_alike (due_to n f plan i s) a b alike 0 i cs (omega arith) in
      rw e refl

pub beyond_due : BeyondDue
unfolding commit_call site_of
beyond_due card plan n f links e i s a b same =
    rw e (commit_alike plan n f links i s a b (message_same (due_to n f plan i s) a b same) (check_plan card plan))
