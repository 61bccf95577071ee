-- What is chosen for a cut of V−F.
--     Thinned n f links F A r <-> r has this A and its S
--     Choice n f links F P r <-> r has A and S for the cut into P and the rest of V−F
use Rattle.std.specs.Prelude.{◌≡◌, ℕ}
use Rattle.network.specs.Links.{Links}
use Rattle.planner.specs.Choice.{side_of, quorum_of}
use Rattle.choice.specs.declared.Chosen.{Chosen}

pub record Thinned (n f : ℕ) (links : Links) (F A : ℕ) (r : Chosen) : Type 0 where
  pub side : r.side ≡ A
  pub quorum : r.quorum ≡ quorum_of n f links F A

pub record Choice (n f : ℕ) (links : Links) (F P : ℕ) (r : Chosen) : Type 0 where
  pub side : r.side ≡ side_of n f links F P
  pub quorum : r.quorum ≡ quorum_of n f links F (side_of n f links F P)
