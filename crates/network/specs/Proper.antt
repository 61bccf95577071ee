-- What holds of the network of every accepted card.
use Rattle.std.specs.Prelude.{◌≡◌, true, ℕ, ◌≤◌, ◌<◌}
use Rattle.network.specs.Links.{Links, linked_in}

pub record Proper (n f : ℕ) (links : Links) : Type 0 where
  pub least : 2 ≤ n
  pub most : n ≤ 8
  pub bound : f ≤ 2
  pub from : (u v : ℕ) → linked_in links u v ≡ true → u < n
  pub to : (u v : ℕ) → linked_in links u v ≡ true → v < n
  pub other : (u v : ℕ) → linked_in links u v ≡ true → u ≡ v → ⊥
