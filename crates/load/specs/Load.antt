-- How many routes of a plan each server relays. A server relays a route that it is on, neither as the source nor as the receiver.
--     relays_of p           == the servers that relay the route p, as a set
--     relayed i ps         == how many of the routes ps server i relays
--     load_of bs            == for each of the eight servers that there can be, how many routes of the blocks bs it relays
--     added counts         == the counts added up
--     load_call card plan   == these counts for an accepted plan, or the one refusal, the card's first
use Rattle.std.specs.Prelude.{cond, List, [], ◌∷◌, ◌++◌, ℕ, zero, suc, ◌+◌}
use Rattle.refusal.specs.Refused.{Refused}
use Rattle.sets.specs.Sets.{has, minus, single}
use Rattle.network.specs.Card.{Network, network, refused, read_card}
use Rattle.route.specs.Route.{servers_of}
use Rattle.plan.specs.Check.{Totals, totals, check_plan}
use Rattle.plan.specs.Check as Check
use Rattle.rules.specs.Blocks.{Route, source_of, receiver_of, Block, decode_plan}

unfoldable pub relays_of : Route → ℕ
relays_of p = minus (minus (servers_of p) (single (source_of p))) (single (receiver_of p))

unfoldable pub relayed : ℕ → List Route → ℕ
relayed i [] = 0
relayed i (p ∷ ps) = cond (has (relays_of p) i) 1 0 + relayed i ps

-- the routes of a block: those of the commands 11, 12 and 13
unfoldable pub routes_of : Block → List Route
routes_of b = b.inward ++ b.among ++ b.outward

unfoldable pub plan_routes : List Block → List Route
plan_routes [] = []
plan_routes (b ∷ bs) = routes_of b ++ plan_routes bs

-- the counts of the k servers from i on
unfoldable pub counts_from : ℕ → ℕ → List Route → List ℕ
counts_from zero i ps = []
counts_from (suc k) i ps = relayed i ps ∷ counts_from k (suc i) ps

unfoldable pub load_of : List Block → List ℕ
load_of bs = counts_from 8 0 (plan_routes bs)

unfoldable pub added : List ℕ → ℕ
added [] = 0
added (x ∷ xs) = x + added xs

-- the counts, or the refusal of card or plan
pub data Load : Type 0 where
  counted : List ℕ → Load
  turned : Refused → Load

abbrev pub load_on : Network → Totals → List ℕ → Load
load_on (refused r) checked plan = turned r
load_on (network n f links) (totals blocks carriages) plan = counted (load_of (decode_plan n f plan))
load_on (network n f links) (Check.turned r) plan = turned r

unfoldable pub load_call : List ℕ → List ℕ → Load
load_call card plan = load_on (read_card card) (check_plan card plan) plan
