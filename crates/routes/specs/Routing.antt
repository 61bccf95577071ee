-- The call for f + 1 separate routes in the network of a card, from the sources to the receiver r, that pass no server of F.
--     route_into s F sources r lent   == how many routes are written; or the servers that cut every route off; or the one refusal: the card's, then 13 for
--                                       the sets, then 14 for the buffer
--     routed_in s F sources r lent    == the lent bytes after it: eight for each route, then the later bytes as they were; with no routes all as they were
use Rattle.std.specs.Prelude.{Bool, cond, ◌&&◌, List, [], ◌∷◌, ◌++◌, ℕ, ◌+◌, ◌*◌, ltb, leb, length, drop}
use Rattle.refusal.specs.Refused.{Refused, call}
use Rattle.sets.specs.Sets.{within, full, size}
use Rattle.network.specs.Links.{Links}
use Rattle.network.specs.Card.{Network, network, refused, read_card}
use Rattle.rules.specs.Blocks.{Route, operand}
use Rattle.flow.specs.Routes.{Separated, routes, cut}
use Rattle.flow.specs.Theorems.{sought}

pub data Routing : Type 0 where
  routed : (count : ℕ) → Routing
  cut_off : (servers : ℕ) → Routing
  unrouted : Refused → Routing

-- F has at most f servers, and F, the sources and r are servers of V
unfoldable pub call_fits : (n f F sources r : ℕ) → Bool
call_fits n f F sources r = leb (size F) f && (within F (full n) && (within sources (full n) && ltb r n))

-- eight bytes for each route
unfoldable pub operands : List Route → List ℕ
operands [] = []
operands (p ∷ ps) = operand p ++ operands ps

-- k routes sought: if they are found, a lent buffer without room for them is refused
abbrev pub answer_to : ℕ → Separated → List ℕ → Routing
answer_to k (routes ps) lent = cond (ltb (length lent) (8 * k)) (unrouted (call 14)) (routed k)
answer_to k (cut K) lent = cut_off K

unfoldable pub answer_for : (n f : ℕ) → Links → (F sources r : ℕ) → List ℕ → Routing
answer_for n f links F sources r lent =
    cond (call_fits n f F sources r) (answer_to (f + 1) (sought n links F sources r (f + 1)) lent) (unrouted (call 13))

abbrev pub answer_of : Network → (F sources r : ℕ) → List ℕ → Routing
answer_of (network n f links) F sources r lent = answer_for n f links F sources r lent
answer_of (refused w) F sources r lent = unrouted w

unfoldable pub route_into : List ℕ → (F sources r : ℕ) → List ℕ → Routing
route_into s F sources r lent = answer_of (read_card s) F sources r lent

-- what is to be written

abbrev pub operands_of : Separated → List ℕ
operands_of (routes ps) = operands ps
operands_of (cut K) = []

abbrev pub operands_in : Network → (F sources r : ℕ) → List ℕ
operands_in (network n f links) F sources r = operands_of (sought n links F sources r (f + 1))
operands_in (refused w) F sources r = []

abbrev pub after_routes : Routing → List ℕ → List ℕ → List ℕ
after_routes (routed count) bytes lent = bytes ++ drop (8 * count) lent
after_routes (cut_off K) bytes lent = lent
after_routes (unrouted w) bytes lent = lent

unfoldable pub routed_in : List ℕ → (F sources r : ℕ) → List ℕ → List ℕ
routed_in s F sources r lent = after_routes (route_into s F sources r lent) (operands_in (read_card s) F sources r) lent
