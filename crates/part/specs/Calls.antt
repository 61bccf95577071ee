-- The three calls of a server on bytes. Card and plan are checked in each, the card first; then the call is, in the order that each definition has.
--     start_call ..    == where the server starts, or the one refusal: 12, 13
--     ask_call ..      == the state with its ask open and the values that the server sends, or the one refusal: 13, 14, 16
--     commit_call ..   == the state at the next kind, or the one refusal: 13, 16
--     lent_after_ask .. == the values and the later bytes as they were; refused, all as they were
use Rattle.std.specs.Prelude.{cond, not, ◌&&◌, List, [], ◌∷◌, ◌++◌, ℕ, zero, suc, eqb, ltb, length, drop}
use Rattle.refusal.specs.Refused.{Refused, call}
use Rattle.network.specs.Card.{Network, network, refused, read_card}
use Rattle.plan.specs.Check.{Totals, totals, turned, check_plan}
use Rattle.rules.specs.Blocks.{Block, decode_block, length_of}
use Rattle.part.specs.Own.{carriages_of, sent, given, committed}
use Rattle.part.specs.State.{State, first, is_end, stands, opened, next}

-- card and plan: n, f and the number of blocks, or the refusal of one of the two
pub data Site : Type 0 where
  site : (n f blocks : ℕ) → Site
  closed : Refused → Site

abbrev pub site_on : Network → Totals → Site
site_on (refused r) checked = closed r
site_on (network n f links) (totals blocks carriages) = site n f blocks
site_on (network n f links) (turned r) = closed r

unfoldable pub site_of : List ℕ → List ℕ → Site
site_of card plan = site_on (read_card card) (check_plan card plan)

-- the plan from block j on
unfoldable pub from_block : ℕ → ℕ → List ℕ → ℕ → List ℕ
from_block n f s zero = s
from_block n f s (suc j) = from_block n f (drop (length_of (decode_block n f s)) s) j

unfoldable pub block_of : ℕ → ℕ → List ℕ → ℕ → Block
block_of n f plan j = decode_block n f (from_block n f plan j)

-- what start and commit answer
pub data Stepped : Type 0 where
  at : State → Stepped
  held : Refused → Stepped

-- what ask answers
pub data Asked : Type 0 where
  sends : State → (values : List ℕ) → Asked
  held : Refused → Asked

unfoldable pub start_on : Site → ℕ → ℕ → Stepped
start_on (closed r) i x = Stepped.held r
start_on (site n f blocks) i x = cond (ltb 1 x) (Stepped.held (call 12)) (cond (ltb i n) (Stepped.at (first x)) (Stepped.held (call 13)))

-- the values due: at the end the decided bit alone
unfoldable pub values_due : ℕ → ℕ → List ℕ → ℕ → State → List ℕ
values_due n f plan i s =
    cond (is_end s) (s.v ∷ []) (given (sent s.kind s.v s.t) i (carriages_of s.kind (block_of n f plan s.block)))

unfoldable pub ask_on : Site → List ℕ → ℕ → State → List ℕ → Asked
ask_on (closed r) plan i s lent = Asked.held r
ask_on (site n f blocks) plan i s lent =
    let values = values_due n f plan i s in
    cond (not (ltb i n && stands blocks s)) (Asked.held (call 13))
    (cond (ltb (length lent) (length values)) (Asked.held (call 14))
    (cond (eqb s.asked 1) (Asked.held (call 16)) (Asked.sends (opened s) values)))

unfoldable pub commit_on : Site → List ℕ → ℕ → State → List ℕ → Stepped
commit_on (closed r) plan i s arrived = Stepped.held r
commit_on (site n f blocks) plan i s arrived =
    cond (not (ltb i n && stands blocks s)) (Stepped.held (call 13))
    (cond (eqb s.asked 0) (Stepped.held (call 16))
    (Stepped.at (next blocks s (committed n s.kind (block_of n f plan s.block) i arrived (record { v = s.v; t = s.t })))))

unfoldable pub start_call : List ℕ → List ℕ → ℕ → ℕ → Stepped
start_call card plan i x = start_on (site_of card plan) i x

unfoldable pub ask_call : List ℕ → List ℕ → ℕ → State → List ℕ → Asked
ask_call card plan i s lent = ask_on (site_of card plan) plan i s lent

unfoldable pub commit_call : List ℕ → List ℕ → ℕ → State → List ℕ → Stepped
commit_call card plan i s arrived = commit_on (site_of card plan) plan i s arrived

-- the state after a call; a refused call hands it back as it was

abbrev pub state_after : State → Stepped → State
state_after s (Stepped.at s') = s'
state_after s (Stepped.held r) = s

abbrev pub state_asked : State → Asked → State
state_asked s (Asked.sends s' values) = s'
state_asked s (Asked.held r) = s

abbrev pub values_in : Asked → List ℕ
values_in (Asked.sends s values) = values
values_in (Asked.held r) = []

-- the lent buffer after an ask; a refused one writes nothing
abbrev pub lent_after_ask : Asked → List ℕ → List ℕ
lent_after_ask (Asked.sends s values) lent = values ++ drop (length values) lent
lent_after_ask (Asked.held r) lent = lent
