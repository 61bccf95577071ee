-- What arrived for a server, as the run reads it.
--     arrivals arrived j k   == the k arrivals from byte j on
use Rattle.std.specs.Prelude.{List, [], ◌∷◌, ℕ, zero, suc}
use Rattle.steps.specs.Hearing.{message}

unfoldable pub arrivals : List ℕ → ℕ → ℕ → List ℕ
arrivals arrived j zero = []
arrivals arrived j (suc k) = message arrived j ∷ arrivals arrived (suc j) k
