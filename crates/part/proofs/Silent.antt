-- Silence means open: a missing arrival does what the byte 0 does.
--     commit_silent       zeros after what arrived change nothing, whatever the answer
--     silence_means_open  the statement
-- Assumes nothing.
use mathlib.Core.Path.{◌≡◌, refl}
use mathlib.Core.List.{List, ◌++◌}
use Prim.Native.Nat.{ℕ}
use lib.ListN.{replicate}
use Rattle.network.specs.Card.{Network, network, refused, read_card}
use Rattle.plan.specs.Check.{Totals, check_plan}
use Rattle.steps.proofs.Silent.{message_silent}
use Rattle.part.specs.State.{State}
use Rattle.part.specs.Calls.{site_on, site_of, commit_on, commit_call}
use Rattle.part.specs.Theorems.{SilenceMeansOpen}
use Rattle.part.proofs.Beyond.{commit_alike}

module _ (plan : List ℕ) (i : ℕ) (s : State) (arrived : List ℕ) (m : ℕ) where
  commit_silent : (w : Network) (checked : Totals)
      → commit_on (site_on w checked) plan i s (arrived ++ replicate m 0) ≡ commit_on (site_on w checked) plan i s arrived
  unfolding commit_on
  commit_silent (refused r) checked = refl
  commit_silent (network n f links) checked =
      commit_alike plan n f links i s (arrived ++ replicate m 0) arrived (λ j h. message_silent arrived m j) checked

pub silence_means_open : SilenceMeansOpen
unfolding commit_call site_of
silence_means_open card plan i s arrived m = commit_silent plan i s arrived m (read_card card) (check_plan card plan)
