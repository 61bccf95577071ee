-- What is proved of Algorithm BC, for every n and f, every actual faulty set X of at most f servers and every adversary. Both statements ask less of the
-- choices than the algorithm does (`Sound`, no links), so they hold of all choices that it allows.
--     Validity    what a sound server holds at the end is some sound server's input
--     Agreement   any two sound servers hold the same at the end
--     Weaker      choices that the algorithm allows are sound
use Rattle.std.specs.Prelude.{◌≡◌, List, ◌++◌, ℕ, ◌≤◌, ◌<◌}
use Rattle.facts.specs.Lists.{Each}
use Rattle.sets.specs.Sets.{Set, Edges, Out, count}
use Rattle.bc.specs.Algorithm.{Choice, Values, bc}
use Rattle.bc.specs.Allowed.{Allowed, Sound, Covers}

abbrev pub Bits : ℕ → Set → Values → Type 0
Bits n X v = (i : ℕ) → i < n → Out X i → v i < 2

abbrev pub Validity : Type 0
Validity =
    (n f : ℕ) (X : Set) → count n X ≤ f → (bs : List Choice) → Each (Sound n f) bs → (v : Values) → Bits n X v
    → (j : ℕ) → j < n → Out X j → (i : ℕ) × (i < n) × Out X i × (bc n X bs v j ≡ v i)

abbrev pub Agreement : Type 0
Agreement =
    (n f : ℕ) (X : Set) → count n X ≤ f → (pre mid post : List Choice) → Each (Sound n f) (pre ++ mid ++ post) → Covers n X mid
    → (v : Values) → Bits n X v
    → (i j : ℕ) → i < n → Out X i → j < n → Out X j → bc n X (pre ++ mid ++ post) v i ≡ bc n X (pre ++ mid ++ post) v j

abbrev pub Weaker : Type 0
Weaker = (n f : ℕ) (E : Edges) (b : Choice) → Allowed n f E b → Sound n f b
