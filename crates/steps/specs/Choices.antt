-- The choices that a decoded plan makes for Algorithm BC, with what the message table puts on each carriage.
--     choices_of table number bs   == the iterations that the blocks bs stand for; `number` is that of their first carriage
use Rattle.std.specs.Prelude.{cond, List, [], ◌∷◌, map, ℕ, suc, ◌+◌, eqb, length, get_or, drop}
use Rattle.sets.specs.Sets.{has}
use Rattle.rules.specs.Blocks.{Block, Carriage, carriage_of, report_carriages, carriages_of}
use Rattle.steps.specs.Hearing.{message}
use Rattle.bc.specs.Algorithm.{Path, Choice}

abbrev pub path_of : List ℕ → ℕ → Carriage → Path
path_of table k c = record { source = get_or c.before 0 0; relays = drop 1 c.before; spoiled = message table k }

-- the paths to r, in plan order; the first carriage of the list has number k
unfoldable pub paths_to : List ℕ → ℕ → List Carriage → ℕ → List Path
paths_to table k [] r = []
paths_to table k (c ∷ cs) r =
    let later = paths_to table (suc k) cs r in
    cond (eqb c.receiver r) (path_of table k c ∷ later) later

-- the path of the list that starts at s
unfoldable pub from : ℕ → List Path → Path
from s [] = record { source = s; relays = []; spoiled = 2 }
from s (p ∷ ps) = cond (eqb p.source s) p (from s ps)

unfoldable pub choice_of : List ℕ → ℕ → Block → Choice
choice_of table number b =
    let inward = map carriage_of b.inward in
    let among = map carriage_of b.among in
    let outward = map carriage_of b.outward in
    let number3 = number + length inward in
    let number4 = number3 + length among in
    let number6 = number4 + length outward in
    record {
      F = has b.faults;
      A = has b.side;
      S = has b.quorum;
      inward = paths_to table number inward;
      between = λ (r s : ℕ). from s (paths_to table number3 among r);
      outward = paths_to table number4 outward;
      reports = paths_to table number6 (report_carriages b.reports);
    }

unfoldable pub choices_of : List ℕ → ℕ → List Block → List Choice
choices_of table number [] = []
choices_of table number (b ∷ bs) = choice_of table number b ∷ choices_of table (number + length (carriages_of b)) bs
