-- The table of the sets that hold a weak set, for one F. A set that holds one is weak itself, or holds one that lacks some server of it; so an entry
-- follows from those of smaller sets.
--     less_at table X x             == x is in X, and the table marks X without x
--     any_less table X              == the table marks X without some server of it
--     WeakTable n f links F table <-> the table marks, of the sets apart from F, those that hold a weak set
use Rattle.std.specs.Prelude.{◌≡◌, Bool, false, ◌&&◌, List, ℕ, ◌^◌, ◌<◌, length, get_or}
use Rattle.sets.specs.Sets.{has, single, meet, minus}
use Rattle.network.specs.Links.{Links}
use Rattle.split.specs.Split.{some_below}
use Rattle.planner.specs.Choice.{holds_weak}

-- x is in X, and the table marks what is left of X without x
unfoldable pub less_at : List Bool → (X x : ℕ) → Bool
less_at table X x = has X x && get_or table (minus X (single x)) false

-- the table marks what is left of X without some one of its servers
unfoldable pub any_less : List Bool → (X : ℕ) → Bool
any_less table X = some_below 8 (less_at table X)

-- an entry for each of the 256 numbers; that of a set of servers apart from F says whether it holds a weak set
pub record WeakTable (n f : ℕ) (links : Links) (F : ℕ) (table : List Bool) : Type 0 where
  pub long : length table ≡ 256
  pub entry : (X : ℕ) → X < 2 ^ n → meet X F ≡ 0 → get_or table X false ≡ holds_weak n f links F X
