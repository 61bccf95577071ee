-- The commands of a plan, each one byte and then its operands.
--     width c       == how many bytes the command c takes with its operands, 0 for one that is none of a plan's
--     is_cut s at   <-> there is no command at this place, an unknown one, or one whose operands are cut off
use Rattle.std.specs.Prelude.{Bool, cond, not, ◌||◌, List, ℕ, ◌-◌, eqb, ltb, length, get_or}

-- how many bytes a command takes: 10 F A S, 11 to 13 with a route, 14 k N, 15; 0 for an unknown one
unfoldable pub width : ℕ → ℕ
width c =
    cond (eqb c 0x10) 4
    (cond (eqb c 0x11) 9
    (cond (eqb c 0x12) 9
    (cond (eqb c 0x13) 9
    (cond (eqb c 0x14) 3
    (cond (eqb c 0x15) 1 0)))))

-- no command, an unknown one, or one whose operands are cut off
unfoldable pub is_cut : List ℕ → ℕ → Bool
is_cut s at = not (ltb at (length s)) || (eqb (width (get_or s at 0)) 0 || ltb (length s - at) (width (get_or s at 0)))
