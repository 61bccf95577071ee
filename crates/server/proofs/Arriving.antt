-- What comes to a server in a kind of a block: the arrivals, from the first byte on, as many as it is due.
--     received_are   what is received is that
-- Assumes nothing.
use mathlib.Core.Path.{◌≡◌, refl, ap, ◌∙◌}
use mathlib.Core.List.{List, [], ◌∷◌}
use Prim.Native.Nat.{ℕ, suc}
use lib.Dec.{eqb}
use lib.ListN.{length}
use Rattle.facts.proofs.Bools.{cases}
use Rattle.rules.specs.Blocks.{Carriage}
use Rattle.steps.specs.Hearing.{message}
use Rattle.part.specs.Own.{received}
use Rattle.part.proofs.Beyond.{received_many}
use Rattle.own.specs.Arrivals.{arrivals}

-- what comes to a server are the arrivals from byte j on, as many as there are
received_here : (arrived : List ℕ) (j i : ℕ) (cs : List Carriage) → received arrived j i cs ≡ arrivals arrived j (length (received arrived j i cs))
unfolding received arrivals
received_here arrived j i [] = refl
received_here arrived j i (c ∷ cs) =
    cases (eqb c.receiver i)
    (λ e. rw e (ap (λ (l : List ℕ). message arrived j ∷ l) (received_here arrived (suc j) i cs)))
    (λ e. rw e (received_here arrived j i cs))

pub received_are : (arrived : List ℕ) (i : ℕ) (cs : List Carriage) → received arrived 0 i cs ≡ arrivals arrived 0 (length (received [] 0 i cs))
received_are arrived i cs = received_here arrived 0 i cs ∙ ap (arrivals arrived 0) (received_many arrived [] 0 0 i cs)
