-- The relaying places of a plan, from its bytes alone: no rule of a plan is asked.
--     has_route c      <-> c is a command with a route: 11, 12 or 13
--     operands_in s     == the operands of these commands, from the first byte on, command by command, as far as the commands are whole
--     places_in s       == their relaying places: for each operand the bytes before the fill, less source and receiver
use Rattle.std.specs.Prelude.{Bool, cond, ◌||◌, List, [], ◌∷◌, ℕ, zero, suc, ◌+◌, ◌-◌, eqb, length, get_or, take, drop}
use Rattle.route.specs.Commands.{width, is_cut}
use Rattle.route.specs.Route.{path}

unfoldable pub has_route : ℕ → Bool
has_route c = eqb c 0x11 || (eqb c 0x12 || eqb c 0x13)

-- those of the first k commands
unfoldable pub operands_from : ℕ → List ℕ → List (List ℕ)
operands_from zero s = []
operands_from (suc k) s =
    let c = get_or s 0 0 in
    let on = operands_from k (drop (width c) s) in
    cond (is_cut s 0) [] (cond (has_route c) (take 8 (drop 1 s) ∷ on) on)

-- there are no more commands than bytes
unfoldable pub operands_in : List ℕ → List (List ℕ)
operands_in s = operands_from (length s) s

unfoldable pub places_of : List (List ℕ) → ℕ
places_of [] = 0
places_of (o ∷ os) = length (path o) - 2 + places_of os

unfoldable pub places_in : List ℕ → ℕ
places_in s = places_of (operands_in s)
