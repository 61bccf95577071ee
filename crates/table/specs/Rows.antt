-- The table of small networks: each row is a call and the values that it gives by docs/FORMATS.md.
--     Holds row  <-> the definitions give those values
--     KeepsAlone     P10 for every S of one server
use Rattle.std.specs.Prelude.{◌≡◌, cond, ℕ, ◌<◌, replicate}
use mathlib.Core.List.{List, [], ◌∷◌, ◌++◌, map, Memᴰ}
use Prim.Native.String.{String}
use Rattle.refusal.specs.Refused.{Refused, card, plan, call}
use Rattle.sets.specs.Sets.{size}
use Rattle.network.specs.Links.{Links}
use Rattle.network.specs.Card.{network, Head, head, turned, head_of, read_card}
use Rattle.printer.specs.Print.{Print, wrote, unwritten, print_into, printed_in}
use Rattle.split.specs.Split.{Split, good, bad, unread, split_test}
use Rattle.two_way.specs.Quick.{Quick, ruled, quick_test}
use Rattle.two_way.specs.Quick as Quick
use Rattle.plan.specs.Check
use Rattle.rules.specs.Blocks.{Carriage, Block, carriage_of, decode_plan}
use Rattle.rules.specs.Theorems.{Accepted}
use Rattle.planner.specs.Write.{Writing, broken, plan_for, write_into, written_in}
use Rattle.planner.specs.Write as Write
use Rattle.routes.specs.Routing.{Routing, routed, cut_off, unrouted, route_into, routed_in}
use Rattle.load.specs.Load.{Load, counted, load_call}
use Rattle.load.specs.Load as Load
use Rattle.load.specs.Places.{places_in}
use Rattle.steps.specs.Steps.{held, gather, compare}
use Rattle.steps.specs.Run.{run_plan, lent_after}
use Rattle.part.specs.State.{State}
use Rattle.part.specs.Calls.{Stepped, Asked, start_call, ask_call, commit_call, lent_after_ask}
use Rattle.part.specs.Theorems.{all_shown}

-- what is at fault (0 card, 1 plan, 2 call), the number, and the place of a card's or a plan's
abbrev pub refused_values : Refused → List ℕ
refused_values (card number place) = 0 ∷ number ∷ place ∷ []
refused_values (plan number place) = 1 ∷ number ∷ place ∷ []
refused_values (call number) = 2 ∷ number ∷ []

-- 1, n and f; or 0 and the refusal
abbrev pub head_values : Head → List ℕ
head_values (head n f) = 1 ∷ n ∷ f ∷ []
head_values (turned r) = 0 ∷ refused_values r

-- 1 and the number of bytes; or 0 and the refusal
abbrev pub print_values : Print → List ℕ
print_values (wrote bytes) = 1 ∷ bytes ∷ []
print_values (unwritten r) = 0 ∷ refused_values r

-- 1 for "none"; 2 and F, L, C, R; or 0 and the refusal
abbrev pub split_values : Split → List ℕ
split_values good = 1 ∷ []
split_values (bad f l c r) = 2 ∷ f ∷ l ∷ c ∷ r ∷ []
split_values (unread r) = 0 ∷ refused_values r

-- 1, 1 for yes or 0 for no, n and the least number; or 0 and the refusal
abbrev pub quick_values : Quick → List ℕ
quick_values (ruled holds n least) = 1 ∷ cond holds 1 0 ∷ n ∷ least ∷ []
quick_values (Quick.turned r) = 0 ∷ refused_values r

-- 1 and the blocks and carriages; or 0 and the refusal
abbrev pub totals_values : Check.Totals → List ℕ
totals_values (Check.totals blocks carriages) = 1 ∷ blocks ∷ carriages ∷ []
totals_values (Check.turned r) = 0 ∷ refused_values r

-- 1 and the number of bytes; 2, the refusal and F, L, C, R; or 0 and the refusal
abbrev pub write_values : Writing → List ℕ
write_values (Write.wrote bytes) = 1 ∷ bytes ∷ []
write_values (broken refusal f l c r) = 2 ∷ refused_values refusal ++ (f ∷ l ∷ c ∷ r ∷ [])
write_values (Write.unwritten r) = 0 ∷ refused_values r

-- 1 and the number of routes; 2 and the servers that cut every route off; or 0 and the refusal
abbrev pub route_values : Routing → List ℕ
route_values (routed count) = 1 ∷ count ∷ []
route_values (cut_off servers) = 2 ∷ servers ∷ []
route_values (unrouted r) = 0 ∷ refused_values r

-- 1 and the eight counts; or 0 and the refusal
abbrev pub load_values : Load → List ℕ
load_values (counted counts) = 1 ∷ counts
load_values (Load.turned r) = 0 ∷ refused_values r

-- block, kind, v, t, and 1 where an ask is open
abbrev pub state_values : State → List ℕ
state_values s = s.block ∷ s.kind ∷ s.v ∷ s.t ∷ s.asked ∷ []

abbrev pub at : ℕ → ℕ → ℕ → ℕ → ℕ → State
at block kind v t asked = record { block = block; kind = kind; v = v; t = t; asked = asked }

-- 1 and the state; or 0 and the refusal
abbrev pub stepped_values : Stepped → List ℕ
stepped_values (Stepped.at s) = 1 ∷ state_values s
stepped_values (Stepped.held r) = 0 ∷ refused_values r

-- 1, the state, and the lent bytes after the ask; or 0, the refusal and the lent bytes
abbrev pub asked_values : Asked → List ℕ → List ℕ
asked_values (Asked.sends s values) lent = 1 ∷ state_values s ++ lent_after_ask (Asked.sends s values) lent
asked_values (Asked.held r) lent = 0 ∷ refused_values r ++ lent_after_ask (Asked.held r) lent

-- a call of the library, or of one step
pub data Call : Type 0 where
  reads : (card : List ℕ) → Call
  prints : (card lent : List ℕ) → Call
  splits : (card : List ℕ) → Call
  quicks : (card : List ℕ) → Call
  checks : (card plan : List ℕ) → Call
  writes : (card lent : List ℕ) → Call
  separates : (card : List ℕ) → (faults sources receiver : ℕ) → (lent : List ℕ) → Call
  loads : (card plan : List ℕ) → Call
  places : (plan : List ℕ) → Call
  runs : (card plan inputs : List ℕ) → (faulty : ℕ) → (table lent : List ℕ) → Call
  starts : (card plan : List ℕ) → (server input : ℕ) → Call
  asks : (card plan : List ℕ) → (server : ℕ) → (state : State) → (lent : List ℕ) → Call
  commits : (card plan : List ℕ) → (server : ℕ) → (state : State) → (arrived : List ℕ) → Call
  shows : (card plan inputs : List ℕ) → (n f faulty : ℕ) → (table : List ℕ) → Call
  gathers : (faulty : ℕ) → (table : List ℕ) → (carriages : List Carriage) → (receivers : ℕ) → (t : List ℕ) → Call
  compares : (faulty : ℕ) → (table : List ℕ) → (carriages : List Carriage) → (quorum : ℕ) → (t : List ℕ) → Call

-- what it gives by the definitions; a card that is printed, a plan that is written, separate routes, a run and an ask give the lent bytes too
abbrev pub given : Call → List ℕ
given (reads s) = head_values (head_of (read_card s))
given (prints s lent) = print_values (print_into s lent) ++ printed_in s lent
given (splits s) = split_values (split_test s)
given (quicks s) = quick_values (quick_test s)
given (checks s p) = totals_values (Check.check_plan s p)
given (writes s lent) = write_values (write_into s lent) ++ written_in s lent
given (separates s F sources r lent) = route_values (route_into s F sources r lent) ++ routed_in s F sources r lent
given (loads s p) = load_values (load_call s p)
given (places p) = places_in p ∷ []
given (runs s p inputs faulty table lent) = totals_values (run_plan s p inputs faulty lent) ++ lent_after s p inputs faulty table lent
given (starts s p i x) = stepped_values (start_call s p i x)
given (asks s p i state lent) = asked_values (ask_call s p i state lent) lent
given (commits s p i state arrived) = stepped_values (commit_call s p i state arrived)
given (shows s p inputs n f faulty table) = all_shown n f s p inputs faulty table
given (gathers faulty table carriages receivers t) = gather faulty table 0 carriages receivers t
given (compares faulty table carriages quorum t) = compare faulty table 0 carriages quorum t

-- `name` is what is printed of a row that does not hold
pub record Row : Type 0 where
  pub name : String
  pub made : Call
  pub stated : List ℕ

abbrev pub row : String → Call → List ℕ → Row
row name made stated = record { name = name; made = made; stated = stated }

abbrev pub Holds : Row → Type 0
Holds r = given r.made ≡ r.stated

-- a link from u to each of the servers vs
abbrev pub links_from : ℕ → List ℕ → List ℕ
links_from u [] = []
links_from u (v ∷ vs) = 0x02 ∷ u ∷ v ∷ links_from u vs

abbrev pub P1-card : List ℕ
P1-card = 0x01 ∷ 0x02 ∷ 0x00 ∷ 0x02 ∷ 0x00 ∷ 0x01 ∷ 0x03 ∷ []

abbrev pub P2-card : List ℕ
P2-card = 0x01 ∷ 0x02 ∷ 0x00 ∷ 0x03 ∷ []

abbrev pub P3-card : List ℕ
P3-card = 0x01 ∷ 0x03 ∷ 0x01 ∷ (links_from 0 (1 ∷ 2 ∷ []) ++ links_from 1 (0 ∷ 2 ∷ []) ++ links_from 2 (0 ∷ 1 ∷ []) ++ 0x03 ∷ [])

abbrev pub P4-card : List ℕ
P4-card =
    0x01 ∷ 0x04 ∷ 0x01
    ∷ (links_from 0 (1 ∷ 2 ∷ 3 ∷ []) ++ links_from 1 (0 ∷ 2 ∷ 3 ∷ []) ++ links_from 2 (0 ∷ 1 ∷ 3 ∷ []) ++ links_from 3 (0 ∷ 1 ∷ 2 ∷ []) ++ 0x03 ∷ [])

-- a ring of four servers with links both ways, f 0
abbrev pub ring_card : List ℕ
ring_card =
    0x01 ∷ 0x04 ∷ 0x00 ∷ (links_from 0 (1 ∷ 3 ∷ []) ++ links_from 1 (0 ∷ 2 ∷ []) ++ links_from 2 (1 ∷ 3 ∷ []) ++ links_from 3 (0 ∷ 2 ∷ []) ++ 0x03 ∷ [])

-- the same without the link from 3 to 0
abbrev pub open_ring_card : List ℕ
open_ring_card =
    0x01 ∷ 0x04 ∷ 0x00 ∷ (links_from 0 (1 ∷ 3 ∷ []) ++ links_from 1 (0 ∷ 2 ∷ []) ++ links_from 2 (1 ∷ 3 ∷ []) ++ links_from 3 (2 ∷ []) ++ 0x03 ∷ [])

-- two cables for each link: of P1, of P3 turn by turn, of P4 once all single ones are given
abbrev pub P1-twins : List ℕ
P1-twins = 0x01 ∷ 0x02 ∷ 0x00 ∷ (links_from 0 (1 ∷ 1 ∷ []) ++ 0x03 ∷ [])

abbrev pub P3-twins : List ℕ
P3-twins =
    0x01 ∷ 0x03 ∷ 0x01
    ∷ (links_from 0 (1 ∷ 2 ∷ 1 ∷ 2 ∷ []) ++ links_from 1 (0 ∷ 2 ∷ 0 ∷ 2 ∷ []) ++ links_from 2 (0 ∷ 1 ∷ 0 ∷ 1 ∷ []) ++ 0x03 ∷ [])

abbrev pub P4-twins : List ℕ
P4-twins =
    0x01 ∷ 0x04 ∷ 0x01
    ∷ (links_from 0 (1 ∷ 2 ∷ 3 ∷ []) ++ links_from 1 (0 ∷ 2 ∷ 3 ∷ []) ++ links_from 2 (0 ∷ 1 ∷ 3 ∷ []) ++ links_from 3 (0 ∷ 1 ∷ 2 ∷ [])
    ++ links_from 0 (1 ∷ 2 ∷ 3 ∷ []) ++ links_from 1 (0 ∷ 2 ∷ 3 ∷ []) ++ links_from 2 (0 ∷ 1 ∷ 3 ∷ []) ++ links_from 3 (0 ∷ 1 ∷ 2 ∷ []) ++ 0x03 ∷ [])

-- four servers, f 1: from 0 to 3 over 1 and over 2
abbrev pub two_ways_card : List ℕ
two_ways_card = 0x01 ∷ 0x04 ∷ 0x01 ∷ (links_from 0 (1 ∷ 2 ∷ []) ++ links_from 1 (3 ∷ []) ++ links_from 2 (3 ∷ []) ++ 0x03 ∷ [])

-- the same, but from 0 and 1 to 3 over 2 alone
abbrev pub narrow_card : List ℕ
narrow_card = 0x01 ∷ 0x04 ∷ 0x01 ∷ (links_from 0 (2 ∷ []) ++ links_from 1 (2 ∷ []) ++ links_from 2 (3 ∷ []) ++ 0x03 ∷ [])

abbrev pub opening : ℕ → ℕ → ℕ → List ℕ
opening F A S = 0x10 ∷ F ∷ A ∷ S ∷ []

-- for each pair a command with the route of these two servers
abbrev pub direct : ℕ → List (ℕ × ℕ) → List ℕ
direct command [] = []
direct command (p ∷ ps) = command ∷ p.0 ∷ p.1 ∷ 0xff ∷ 0xff ∷ 0xff ∷ 0xff ∷ 0xff ∷ 0xff ∷ direct command ps

abbrev pub P5-plan : List ℕ
P5-plan =
    opening 0x00 0x01 0x01 ++ direct 0x13 ((0, 1) ∷ []) ++ (0x15 ∷ [])

abbrev pub P6-plan : List ℕ
P6-plan =
    opening 0x00 0x02 0x01 ++ direct 0x13 ((0, 1) ∷ []) ++ (0x15 ∷ [])

-- the three blocks with an empty F on the network of P3
abbrev pub P3-blocks : List ℕ
P3-blocks =
    opening 0x00 0x06 0x06 ++ direct 0x12 ((2, 1) ∷ (1, 2) ∷ []) ++ direct 0x13 ((1, 0) ∷ (2, 0) ∷ [])
    ++ opening 0x00 0x03 0x03 ++ direct 0x12 ((1, 0) ∷ (0, 1) ∷ []) ++ direct 0x13 ((0, 2) ∷ (1, 2) ∷ [])
    ++ opening 0x00 0x05 0x05 ++ direct 0x12 ((2, 0) ∷ (0, 2) ∷ []) ++ direct 0x13 ((0, 1) ∷ (2, 1) ∷ [])

-- three servers in a row, f 0
abbrev pub line_card : List ℕ
line_card = 0x01 ∷ 0x03 ∷ 0x00 ∷ (links_from 0 (1 ∷ []) ++ links_from 1 (2 ∷ []) ++ 0x03 ∷ [])

-- its routes from server 0, the second over server 1
abbrev pub line_routes : List ℕ
line_routes = direct 0x13 ((0, 1) ∷ []) ++ (0x13 ∷ 0x00 ∷ 0x01 ∷ 0x02 ∷ 0xff ∷ 0xff ∷ 0xff ∷ 0xff ∷ 0xff ∷ [])

abbrev pub line_plan : List ℕ
line_plan = opening 0x00 0x01 0x01 ++ line_routes ++ opening 0x00 0x03 0x01 ++ line_routes ++ opening 0x00 0x05 0x01 ++ line_routes ++ (0x15 ∷ [])

-- an accepted plan for the network of P4, f 1: 19 blocks
abbrev pub P4-plan : List ℕ
P4-plan =
    opening 0x00 0x0e 0x0e ++ direct 0x12 ((2, 1) ∷ (3, 1) ∷ (1, 2) ∷ (3, 2) ∷ (1, 3) ∷ (2, 3) ∷ []) ++ direct 0x13 ((1, 0) ∷ (2, 0) ∷ [])
    ++ opening 0x00 0x0c 0x0c ++ direct 0x12 ((3, 2) ∷ (2, 3) ∷ []) ++ direct 0x13 ((2, 0) ∷ (3, 0) ∷ (2, 1) ∷ (3, 1) ∷ [])
    ++ opening 0x00 0x0a 0x0a ++ direct 0x12 ((3, 1) ∷ (1, 3) ∷ []) ++ direct 0x13 ((1, 0) ∷ (3, 0) ∷ (1, 2) ∷ (3, 2) ∷ [])
    ++ opening 0x00 0x07 0x07 ++ direct 0x12 ((1, 0) ∷ (2, 0) ∷ (0, 1) ∷ (2, 1) ∷ (0, 2) ∷ (1, 2) ∷ []) ++ direct 0x13 ((2, 3) ∷ (1, 3) ∷ [])
    ++ opening 0x00 0x09 0x09 ++ direct 0x12 ((3, 0) ∷ (0, 3) ∷ []) ++ direct 0x13 ((3, 1) ∷ (0, 1) ∷ (3, 2) ∷ (0, 2) ∷ [])
    ++ opening 0x00 0x0b 0x09 ++ direct 0x12 ((3, 0) ∷ (0, 3) ∷ []) ++ direct 0x13 ((3, 1) ∷ (0, 1) ∷ (3, 2) ∷ (0, 2) ∷ [])
    ++ opening 0x00 0x0d 0x09 ++ direct 0x12 ((3, 0) ∷ (0, 3) ∷ []) ++ direct 0x13 ((0, 1) ∷ (3, 1) ∷ (0, 2) ∷ (3, 2) ∷ [])
    ++ opening 0x01 0x0c 0x0c ++ direct 0x12 ((3, 2) ∷ (2, 3) ∷ []) ++ direct 0x13 ((3, 1) ∷ (2, 1) ∷ []) ++ (0x14 ∷ 0x00 ∷ 0x0c ∷ [])
    ++ opening 0x01 0x06 0x06 ++ direct 0x12 ((2, 1) ∷ (1, 2) ∷ []) ++ direct 0x13 ((2, 3) ∷ (1, 3) ∷ []) ++ (0x14 ∷ 0x00 ∷ 0x0a ∷ [])
    ++ opening 0x01 0x0a 0x0a ++ direct 0x12 ((3, 1) ∷ (1, 3) ∷ []) ++ direct 0x13 ((3, 2) ∷ (1, 2) ∷ []) ++ (0x14 ∷ 0x00 ∷ 0x0c ∷ [])
    ++ opening 0x02 0x0c 0x0c ++ direct 0x12 ((3, 2) ∷ (2, 3) ∷ []) ++ direct 0x13 ((3, 0) ∷ (2, 0) ∷ []) ++ (0x14 ∷ 0x01 ∷ 0x09 ∷ [])
    ++ opening 0x02 0x05 0x05 ++ direct 0x12 ((2, 0) ∷ (0, 2) ∷ []) ++ direct 0x13 ((2, 3) ∷ (0, 3) ∷ []) ++ (0x14 ∷ 0x01 ∷ 0x05 ∷ [])
    ++ opening 0x02 0x09 0x09 ++ direct 0x12 ((3, 0) ∷ (0, 3) ∷ []) ++ direct 0x13 ((0, 2) ∷ (3, 2) ∷ []) ++ (0x14 ∷ 0x01 ∷ 0x05 ∷ [])
    ++ opening 0x04 0x0a 0x0a ++ direct 0x12 ((3, 1) ∷ (1, 3) ∷ []) ++ direct 0x13 ((1, 0) ∷ (3, 0) ∷ []) ++ (0x14 ∷ 0x02 ∷ 0x03 ∷ [])
    ++ opening 0x04 0x03 0x03 ++ direct 0x12 ((1, 0) ∷ (0, 1) ∷ []) ++ direct 0x13 ((1, 3) ∷ (0, 3) ∷ []) ++ (0x14 ∷ 0x02 ∷ 0x0a ∷ [])
    ++ opening 0x04 0x09 0x09 ++ direct 0x12 ((3, 0) ∷ (0, 3) ∷ []) ++ direct 0x13 ((3, 1) ∷ (0, 1) ∷ []) ++ (0x14 ∷ 0x02 ∷ 0x03 ∷ [])
    ++ opening 0x08 0x06 0x06 ++ direct 0x12 ((2, 1) ∷ (1, 2) ∷ []) ++ direct 0x13 ((1, 0) ∷ (2, 0) ∷ []) ++ (0x14 ∷ 0x03 ∷ 0x03 ∷ [])
    ++ opening 0x08 0x03 0x03 ++ direct 0x12 ((1, 0) ∷ (0, 1) ∷ []) ++ direct 0x13 ((1, 2) ∷ (0, 2) ∷ []) ++ (0x14 ∷ 0x03 ∷ 0x03 ∷ [])
    ++ opening 0x08 0x05 0x05 ++ direct 0x12 ((2, 0) ∷ (0, 2) ∷ []) ++ direct 0x13 ((0, 1) ∷ (2, 1) ∷ []) ++ (0x14 ∷ 0x03 ∷ 0x06 ∷ [])
    ++ (0x15 ∷ [])

-- what faulty server 2 puts on its carriages; the table ends before the last of them
abbrev pub P4-table : List ℕ
P4-table =
    0x00 ∷ 0x00 ∷ 0x03 ∷ 0xd6 ∷ 0xff ∷ 0x01 ∷ 0x02 ∷ 0x01 ∷ 0x02 ∷ 0x24 ∷ 0x01 ∷ 0x00 ∷ 0xa5 ∷ 0x01 ∷ 0x01 ∷ 0x02 ∷ 0xff ∷ 0xff ∷ 0x00 ∷ 0xff
    ∷ 0x00 ∷ 0x01 ∷ 0x01 ∷ 0x01 ∷ 0xff ∷ 0x03 ∷ 0x01 ∷ 0x02 ∷ 0x00 ∷ 0x03 ∷ 0x00 ∷ 0x01 ∷ 0x02 ∷ 0x03 ∷ 0x03 ∷ 0x00 ∷ 0xff ∷ 0x02 ∷ 0x2e ∷ 0x03
    ∷ 0x40 ∷ 0x02 ∷ 0x01 ∷ 0x03 ∷ 0xc9 ∷ 0x02 ∷ 0x00 ∷ 0xff ∷ 0x00 ∷ 0xff ∷ 0x01 ∷ 0xee ∷ 0x00 ∷ 0x01 ∷ 0xc7 ∷ 0x57 ∷ 0xff ∷ 0x00 ∷ 0x02 ∷ 0x01
    ∷ 0x7a ∷ 0xff ∷ 0xff ∷ 0x30 ∷ 0xff ∷ 0x03 ∷ 0x68 ∷ 0x00 ∷ 0x01 ∷ 0x9f ∷ 0x03 ∷ 0x00 ∷ 0x88 ∷ 0xff ∷ 0x00 ∷ 0x00 ∷ 0x02 ∷ 0x00 ∷ 0xff ∷ []

-- server 2 hears servers 0 and 1, by carriages 0 and 1
abbrev pub two_carriages : List Carriage
two_carriages = record { receiver = 2; before = 0 ∷ [] } ∷ record { receiver = 2; before = 1 ∷ [] } ∷ []

abbrev pub table : List Row
table =
    row "P1 is read" (reads P1-card) (1 ∷ 2 ∷ 0 ∷ [])
    ∷ row "P1 has no bad split" (splits P1-card) (1 ∷ [])
    ∷ row "P2 has the bad split F 0, L 1, C 0, R 2" (splits P2-card) (2 ∷ 0 ∷ 1 ∷ 0 ∷ 2 ∷ [])
    ∷ row "P3 has the bad split F 1, L 2, C 0, R 4" (splits P3-card) (2 ∷ 1 ∷ 2 ∷ 0 ∷ 4 ∷ [])
    ∷ row "P4 has no bad split" (splits P4-card) (1 ∷ [])
    ∷ row "P2 is apart as it is: the older rule fails, with 0" (quicks P2-card) (1 ∷ 0 ∷ 2 ∷ 0 ∷ [])
    ∷ row "P3 has too few servers for the older rule" (quicks P3-card) (1 ∷ 0 ∷ 3 ∷ 2 ∷ [])
    ∷ row "P4 has all links: the older rule holds, with n − 1" (quicks P4-card) (1 ∷ 1 ∷ 4 ∷ 3 ∷ [])
    ∷ row "P4 with every link given twice is answered alike" (quicks P4-twins) (1 ∷ 1 ∷ 4 ∷ 3 ∷ [])
    ∷ row "two servers must be taken away from a ring of four" (quicks ring_card) (1 ∷ 1 ∷ 4 ∷ 2 ∷ [])
    ∷ row "a ring with a return missing is 15" (quicks open_ring_card) (0 ∷ 2 ∷ 15 ∷ [])
    ∷ row "a card's refusal comes before 15" (quicks (0x01 ∷ 0x02 ∷ 0x00 ∷ 0x02 ∷ 0x00 ∷ 0x01 ∷ 0x02 ∷ 0x00 ∷ 0x02 ∷ 0x03 ∷ [])) (0 ∷ 0 ∷ 5 ∷ 6 ∷ [])
    ∷ row "a link given twice is one link" (reads P1-twins) (1 ∷ 2 ∷ 0 ∷ [])
    ∷ row "P3 with every link given twice has the bad split F 1, L 2, C 0, R 4" (splits P3-twins) (2 ∷ 1 ∷ 2 ∷ 0 ∷ 4 ∷ [])
    ∷ row "P4 with every link given twice has no bad split" (splits P4-twins) (1 ∷ [])
    ∷ row "a link from a server to itself is refused 5 where that server has a link"
    (reads (0x01 ∷ 0x02 ∷ 0x00 ∷ 0x02 ∷ 0x00 ∷ 0x01 ∷ 0x02 ∷ 0x00 ∷ 0x00 ∷ 0x03 ∷ [])) (0 ∷ 0 ∷ 5 ∷ 6 ∷ [])
    ∷ row "two routes of 13 over twin cables begin at one server: 10 at the later one"
    (checks P4-twins (opening 0x00 0x01 0x01 ++ direct 0x13 ((0, 1) ∷ (0, 1) ∷ []))) (0 ∷ 1 ∷ 10 ∷ 13 ∷ [])
    ∷ row "a card with its links in another order, one of them twice, is printed clean, and later bytes are untouched"
    (prints (0x01 ∷ 0x03 ∷ 0x01 ∷ (links_from 2 (1 ∷ []) ++ links_from 0 (2 ∷ 1 ∷ 2 ∷ []) ++ 0x03 ∷ [])) (replicate 14 9))
    (1 ∷ 13 ∷ 0x01 ∷ 0x03 ∷ 0x01 ∷ (links_from 0 (1 ∷ 2 ∷ []) ++ links_from 2 (1 ∷ []) ++ 0x03 ∷ 9 ∷ []))
    ∷ row "P4 is printed as it stands" (prints P4-card (replicate 40 9)) (1 ∷ 40 ∷ P4-card)
    ∷ row "one byte lent less than the card has is 14, and changes none" (prints P2-card (9 ∷ 9 ∷ 9 ∷ [])) (0 ∷ 2 ∷ 14 ∷ 9 ∷ 9 ∷ 9 ∷ [])
    ∷ row "a card's refusal comes before that of a short buffer" (prints (0x03 ∷ []) (9 ∷ [])) (0 ∷ 0 ∷ 4 ∷ 0 ∷ 9 ∷ [])
    ∷ row "n 8 is read" (reads (0x01 ∷ 0x08 ∷ 0x00 ∷ 0x03 ∷ [])) (1 ∷ 8 ∷ 0 ∷ [])
    ∷ row "n 9 is refused 5" (reads (0x01 ∷ 0x09 ∷ 0x00 ∷ 0x03 ∷ [])) (0 ∷ 0 ∷ 5 ∷ 0 ∷ [])
    ∷ row "f 2 is read" (reads (0x01 ∷ 0x08 ∷ 0x02 ∷ 0x03 ∷ [])) (1 ∷ 8 ∷ 2 ∷ [])
    ∷ row "f 3 is refused 5" (reads (0x01 ∷ 0x08 ∷ 0x03 ∷ 0x03 ∷ [])) (0 ∷ 0 ∷ 5 ∷ 0 ∷ [])
    ∷ row "an empty card is refused 2 at place 0" (reads []) (0 ∷ 0 ∷ 2 ∷ 0 ∷ [])
    ∷ row "P5 is accepted: 1 block, 1 carriage" (checks P1-card P5-plan) (1 ∷ 1 ∷ 1 ∷ [])
    ∷ row "P6 is refused 7 at place 4, since a 11 route is due" (checks P1-card P6-plan) (0 ∷ 1 ∷ 7 ∷ 4 ∷ [])
    ∷ row "the plan written for P1 is that of P5, and later bytes are untouched" (writes P1-card (replicate 16 9)) (1 ∷ 14 ∷ P5-plan ++ (9 ∷ 9 ∷ []))
    ∷ row "for three servers in a row every S is server 0" (writes line_card (replicate 67 9)) (1 ∷ 67 ∷ line_plan)
    ∷ row "the plan for P4 is accepted: 19 blocks, 114 carriages" (checks P4-card (plan_for P4-card)) (1 ∷ 19 ∷ 114 ∷ [])
    ∷ row "it has 923 bytes" (writes P4-card (replicate 923 9)) (1 ∷ 923 ∷ plan_for P4-card)
    ∷ row "one byte lent less than the plan has is 18, and changes none" (writes P1-card (replicate 13 9)) (0 ∷ 2 ∷ 18 ∷ replicate 13 9)
    ∷ row "P2 has no plan: 17 with F 0, L 1, C 0, R 2, before 18" (writes P2-card (9 ∷ [])) (2 ∷ 2 ∷ 17 ∷ 0 ∷ 1 ∷ 0 ∷ 2 ∷ 9 ∷ [])
    ∷ row "P3 has no plan: 17 with F 1, L 2, C 0, R 4" (writes P3-card []) (2 ∷ 2 ∷ 17 ∷ 1 ∷ 2 ∷ 0 ∷ 4 ∷ [])
    ∷ row "of an empty card no plan is written: 2 at place 0" (writes [] (9 ∷ [])) (0 ∷ 0 ∷ 2 ∷ 0 ∷ 9 ∷ [])
    ∷ row "two routes from 0 and 1 to 3 are separate, and later bytes are untouched"
    (separates two_ways_card 0 3 3 (replicate 17 9))
    (1 ∷ 2 ∷ 0x00 ∷ 0x02 ∷ 0x03 ∷ 0xff ∷ 0xff ∷ 0xff ∷ 0xff ∷ 0xff ∷ 0x01 ∷ 0x03 ∷ 0xff ∷ 0xff ∷ 0xff ∷ 0xff ∷ 0xff ∷ 0xff ∷ 9 ∷ [])
    ∷ row "every route from 0 to 3 meets 0" (separates two_ways_card 0 1 3 (9 ∷ [])) (2 ∷ 1 ∷ 9 ∷ [])
    ∷ row "without 2 every route from 0 and 1 to 3 meets 1" (separates two_ways_card 4 3 3 (9 ∷ [])) (2 ∷ 2 ∷ 9 ∷ [])
    ∷ row "a relay that all routes share is met: 2" (separates narrow_card 0 3 3 (replicate 16 9)) (2 ∷ 4 ∷ replicate 16 9)
    ∷ row "two faulty servers are 13 at f 1" (separates two_ways_card 3 4 3 []) (0 ∷ 2 ∷ 13 ∷ [])
    ∷ row "one byte lent less than two routes have is 14, and changes none" (separates two_ways_card 0 3 3 (replicate 15 9)) (0 ∷ 2 ∷ 14 ∷ replicate 15 9)
    ∷ row "an empty card comes before the sets" (separates [] 7 0 9 []) (0 ∷ 0 ∷ 2 ∷ 0 ∷ [])
    ∷ row "server 1 relays a route in each block, and no source or receiver relays one" (loads line_card line_plan) (1 ∷ 0 ∷ 3 ∷ 0 ∷ 0 ∷ 0 ∷ 0 ∷ 0 ∷ 0 ∷ [])
    ∷ row "so its bytes have three relaying places" (places line_plan) (3 ∷ [])
    ∷ row "the members of N relay nothing" (loads P4-card P4-plan) (1 ∷ 0 ∷ 0 ∷ 0 ∷ 0 ∷ 0 ∷ 0 ∷ 0 ∷ 0 ∷ [])
    ∷ row "the load of a refused plan is its refusal" (loads P1-card P6-plan) (0 ∷ 1 ∷ 7 ∷ 4 ∷ [])
    ∷ row "a card's refusal comes before the plan's" (loads [] P6-plan) (0 ∷ 0 ∷ 2 ∷ 0 ∷ [])
    ∷ row "P7: both decide 1" (runs P1-card P5-plan (1 ∷ 0 ∷ []) 0 [] (9 ∷ 9 ∷ [])) (1 ∷ 1 ∷ 1 ∷ 1 ∷ 1 ∷ [])
    ∷ row "later bytes of the lent buffer are untouched" (runs P1-card P5-plan (0 ∷ 1 ∷ []) 0 [] (9 ∷ 9 ∷ 9 ∷ [])) (1 ∷ 1 ∷ 1 ∷ 0 ∷ 0 ∷ 9 ∷ [])
    ∷ row "P8: at f 1 the arrivals 0 and missing, of faulty server 1, come to 0"
    (gathers 2 (0 ∷ []) two_carriages 4 (0 ∷ 1 ∷ 1 ∷ 2 ∷ 2 ∷ 2 ∷ 2 ∷ 2 ∷ [])) (0 ∷ 1 ∷ 0 ∷ 2 ∷ 2 ∷ 2 ∷ 2 ∷ 2 ∷ [])
    ∷ row "the arrivals 1 and missing come to 2"
    (gathers 2 (1 ∷ []) two_carriages 4 (1 ∷ 1 ∷ 1 ∷ 2 ∷ 2 ∷ 2 ∷ 2 ∷ 2 ∷ [])) (1 ∷ 1 ∷ 2 ∷ 2 ∷ 2 ∷ 2 ∷ 2 ∷ 2 ∷ [])
    ∷ row "the arrivals 0 and 255 come to 2: a byte that is no bit is not silence"
    (gathers 2 (0 ∷ 255 ∷ []) two_carriages 4 (0 ∷ 0 ∷ 0 ∷ 2 ∷ 2 ∷ 2 ∷ 2 ∷ 2 ∷ [])) (0 ∷ 0 ∷ 2 ∷ 2 ∷ 2 ∷ 2 ∷ 2 ∷ 2 ∷ [])
    ∷ row "P9: at f 1 the arrivals 1 and 1 come to 1"
    (gathers 0 [] two_carriages 4 (1 ∷ 1 ∷ 2 ∷ 2 ∷ 2 ∷ 2 ∷ 2 ∷ 2 ∷ [])) (1 ∷ 1 ∷ 1 ∷ 2 ∷ 2 ∷ 2 ∷ 2 ∷ 2 ∷ [])
    ∷ row "P10: with an S of one server step 3 keeps t"
    (compares 0 [] [] 1 (1 ∷ 0 ∷ 2 ∷ 2 ∷ 2 ∷ 2 ∷ 2 ∷ 2 ∷ [])) (1 ∷ 0 ∷ 2 ∷ 2 ∷ 2 ∷ 2 ∷ 2 ∷ 2 ∷ [])
    ∷ row "a plan of f 1 is accepted: 19 blocks, 118 carriages" (checks P4-card P4-plan) (1 ∷ 19 ∷ 118 ∷ [])
    ∷ row "with inputs 1 0 0 1 and server 2 faulty the others decide 1"
    (runs P4-card P4-plan (1 ∷ 0 ∷ 0 ∷ 1 ∷ []) 4 P4-table (9 ∷ 9 ∷ 9 ∷ 9 ∷ 9 ∷ [])) (1 ∷ 19 ∷ 118 ∷ 1 ∷ 1 ∷ 2 ∷ 1 ∷ 9 ∷ [])
    ∷ row "with inputs 1 1 1 0 and server 2 silent the others decide 0"
    (runs P4-card P4-plan (1 ∷ 1 ∷ 1 ∷ 0 ∷ []) 4 [] (9 ∷ 9 ∷ 9 ∷ 9 ∷ 9 ∷ [])) (1 ∷ 19 ∷ 118 ∷ 0 ∷ 0 ∷ 2 ∷ 0 ∷ 9 ∷ [])
    ∷ row "with 255 for each missing byte they decide 1"
    (runs P4-card P4-plan (1 ∷ 1 ∷ 1 ∷ 0 ∷ []) 4 (replicate 118 255) (9 ∷ 9 ∷ 9 ∷ 9 ∷ 9 ∷ [])) (1 ∷ 19 ∷ 118 ∷ 1 ∷ 1 ∷ 2 ∷ 1 ∷ 9 ∷ [])
    ∷ row "too few inputs are 12 before 13 and 14, and change no byte" (runs P1-card P5-plan (1 ∷ []) 1 [] (9 ∷ [])) (0 ∷ 2 ∷ 12 ∷ 9 ∷ [])
    ∷ row "an input of 2 is 12" (runs P1-card P5-plan (1 ∷ 2 ∷ []) 0 [] (9 ∷ 9 ∷ [])) (0 ∷ 2 ∷ 12 ∷ 9 ∷ 9 ∷ [])
    ∷ row "a faulty set over f is 13 before 14" (runs P1-card P5-plan (1 ∷ 0 ∷ []) 1 [] (9 ∷ [])) (0 ∷ 2 ∷ 13 ∷ 9 ∷ [])
    ∷ row "a faulty server that is not in V is 13" (runs P1-card P5-plan (1 ∷ 0 ∷ []) 4 [] (9 ∷ 9 ∷ [])) (0 ∷ 2 ∷ 13 ∷ 9 ∷ 9 ∷ [])
    ∷ row "a short buffer is 14" (runs P1-card P5-plan (1 ∷ 0 ∷ []) 0 [] (9 ∷ [])) (0 ∷ 2 ∷ 14 ∷ 9 ∷ [])
    ∷ row "a refused plan comes before the call, and changes no byte" (runs P1-card P6-plan (1 ∷ []) 1 [] (9 ∷ [])) (0 ∷ 1 ∷ 7 ∷ 4 ∷ 9 ∷ [])
    ∷ row "a server starts at 11 of the first block, t unsure" (starts P1-card P5-plan 0 1) (1 ∷ 0 ∷ 0x11 ∷ 1 ∷ 2 ∷ 0 ∷ [])
    ∷ row "an own input of 2 is 12 before 13" (starts P1-card P5-plan 2 2) (0 ∷ 2 ∷ 12 ∷ [])
    ∷ row "a server that is not in V is 13" (starts P1-card P5-plan 2 1) (0 ∷ 2 ∷ 13 ∷ [])
    ∷ row "the ask of an empty kind gives nothing and opens" (asks P1-card P5-plan 0 (at 0 0x11 1 2 0) []) (1 ∷ 0 ∷ 0x11 ∷ 1 ∷ 2 ∷ 1 ∷ [])
    ∷ row "the commit of 11 begins with step 1: server 0 is in A" (commits P1-card P5-plan 0 (at 0 0x11 1 2 1) []) (1 ∷ 0 ∷ 0x12 ∷ 1 ∷ 1 ∷ 0 ∷ [])
    ∷ row "the ask of 13 gives t, and later lent bytes are as they were"
    (asks P1-card P5-plan 0 (at 0 0x13 0 1 0) (9 ∷ 9 ∷ [])) (1 ∷ 0 ∷ 0x13 ∷ 0 ∷ 1 ∷ 1 ∷ 1 ∷ 9 ∷ [])
    ∷ row "the commit of 13 ends with step 5" (commits P1-card P5-plan 1 (at 0 0x13 0 2 1) (1 ∷ [])) (1 ∷ 0 ∷ 0x14 ∷ 1 ∷ 1 ∷ 0 ∷ [])
    ∷ row "an arrival beyond those due has no effect" (commits P1-card P5-plan 1 (at 0 0x13 0 2 1) (1 ∷ 0 ∷ [])) (1 ∷ 0 ∷ 0x14 ∷ 1 ∷ 1 ∷ 0 ∷ [])
    ∷ row "a missing arrival is 0, and v becomes 0" (commits P1-card P5-plan 1 (at 0 0x13 1 1 1) []) (1 ∷ 0 ∷ 0x14 ∷ 0 ∷ 0 ∷ 0 ∷ [])
    ∷ row "an arrival of 255 is unsure, and v stays" (commits P1-card P5-plan 1 (at 0 0x13 1 1 1) (255 ∷ [])) (1 ∷ 0 ∷ 0x14 ∷ 1 ∷ 2 ∷ 0 ∷ [])
    ∷ row "after 14 of the last block comes the end" (commits P1-card P5-plan 1 (at 0 0x14 1 1 1) []) (1 ∷ 1 ∷ 0x15 ∷ 1 ∷ 1 ∷ 0 ∷ [])
    ∷ row "at the end the ask gives the decided bit and opens nothing"
    (asks P1-card P5-plan 1 (at 1 0x15 1 0 0) (9 ∷ [])) (1 ∷ 1 ∷ 0x15 ∷ 1 ∷ 0 ∷ 0 ∷ 1 ∷ [])
    ∷ row "at the end an empty buffer is 14" (asks P1-card P5-plan 1 (at 1 0x15 1 0 0) []) (0 ∷ 2 ∷ 14 ∷ [])
    ∷ row "a commit at the end is 16" (commits P1-card P5-plan 1 (at 1 0x15 1 0 0) []) (0 ∷ 2 ∷ 16 ∷ [])
    ∷ row "the end with an ask open is 13" (commits P1-card P5-plan 1 (at 1 0x15 1 0 1) []) (0 ∷ 2 ∷ 13 ∷ [])
    ∷ row "a block that the plan does not have is 13" (asks P1-card P5-plan 0 (at 1 0x11 1 2 0) (9 ∷ [])) (0 ∷ 2 ∷ 13 ∷ 9 ∷ [])
    ∷ row "a t of 3 is 13, before 14 and 16" (asks P1-card P5-plan 0 (at 0 0x13 1 3 1) []) (0 ∷ 2 ∷ 13 ∷ [])
    ∷ row "a short buffer is 14 before 16" (asks P1-card P5-plan 0 (at 0 0x13 1 1 1) []) (0 ∷ 2 ∷ 14 ∷ [])
    ∷ row "a second ask while one is open is 16" (asks P1-card P5-plan 0 (at 0 0x13 1 1 1) (9 ∷ [])) (0 ∷ 2 ∷ 16 ∷ 9 ∷ [])
    ∷ row "a commit with none open is 16" (commits P1-card P5-plan 0 (at 0 0x11 1 2 0) []) (0 ∷ 2 ∷ 16 ∷ [])
    ∷ row "a refused plan comes before the state" (asks P1-card P6-plan 9 (at 7 0 9 9 9) []) (0 ∷ 1 ∷ 7 ∷ 4 ∷ [])
    ∷ row "P7 side by side: both show 1" (shows P1-card P5-plan (1 ∷ 0 ∷ []) 2 0 0 []) (1 ∷ 1 ∷ [])
    ∷ row "a second 11 route is due at f 1, and 13 is found: 7"
    (checks P3-card (opening 0x00 0x01 0x02 ++ direct 0x11 ((0, 1) ∷ []) ++ (0x13 ∷ 0x00 ∷ 0x02 ∷ 0x01 ∷ 0xff ∷ 0xff ∷ 0xff ∷ 0xff ∷ 0xff ∷ []))) (0 ∷ 1 ∷ 7 ∷ 13 ∷ [])
    ∷ row "a 13 cut off where 11 is due is 2" (checks P1-card (opening 0x00 0x02 0x01 ++ (0x13 ∷ 0x00 ∷ 0x01 ∷ []))) (0 ∷ 1 ∷ 2 ∷ 4 ∷ [])
    ∷ row "a 13 cut off where 10 is due is 2" (checks P1-card (0x13 ∷ 0x00 ∷ 0x01 ∷ [])) (0 ∷ 1 ∷ 2 ∷ 0 ∷ [])
    ∷ row "a whole 13 where 10 is due is 7" (checks P1-card (direct 0x13 ((0, 1) ∷ []))) (0 ∷ 1 ∷ 7 ∷ 0 ∷ [])
    ∷ row "two routes of 13 to one receiver that begin at one server are 10 at the later one"
    (checks P4-card (opening 0x00 0x01 0x01 ++ direct 0x13 ((0, 1) ∷ []) ++ (0x13 ∷ 0x00 ∷ 0x02 ∷ 0x01 ∷ 0xff ∷ 0xff ∷ 0xff ∷ 0xff ∷ 0xff ∷ []))) (0 ∷ 1 ∷ 10 ∷ 13 ∷ [])
    ∷ row "two routes of 11 to one receiver that begin at one server are 10 at the later one"
    (checks P4-card (opening 0x00 0x01 0x02 ++ direct 0x11 ((0, 1) ∷ []) ++ (0x11 ∷ 0x00 ∷ 0x02 ∷ 0x01 ∷ 0xff ∷ 0xff ∷ 0xff ∷ 0xff ∷ 0xff ∷ []))) (0 ∷ 1 ∷ 10 ∷ 13 ∷ [])
    ∷ row "a route through F is 9"
    (checks P3-card (P3-blocks ++ opening 0x01 0x02 0x02 ++ (0x13 ∷ 0x01 ∷ 0x00 ∷ 0x02 ∷ 0xff ∷ 0xff ∷ 0xff ∷ 0xff ∷ 0xff ∷ []))) (0 ∷ 1 ∷ 9 ∷ 124 ∷ [])
    ∷ row "a route to another receiver than the one due is 9" (checks P3-card (opening 0x00 0x01 0x01 ++ direct 0x13 ((0, 2) ∷ []))) (0 ∷ 1 ∷ 9 ∷ 4 ∷ [])
    ∷ row "FF between two servers is 9"
    (checks P1-card (opening 0x00 0x01 0x01 ++ (0x13 ∷ 0x00 ∷ 0xff ∷ 0x01 ∷ 0xff ∷ 0xff ∷ 0xff ∷ 0xff ∷ 0xff ∷ 0x15 ∷ []))) (0 ∷ 1 ∷ 9 ∷ 4 ∷ [])
    ∷ row "a server after the fill is 9"
    (checks P1-card (opening 0x00 0x01 0x01 ++ (0x13 ∷ 0x00 ∷ 0x01 ∷ 0xff ∷ 0x01 ∷ 0xff ∷ 0xff ∷ 0xff ∷ 0xff ∷ 0x15 ∷ []))) (0 ∷ 1 ∷ 9 ∷ 4 ∷ [])
    ∷ row "a server twice is 9"
    (checks P3-card (opening 0x00 0x01 0x01 ++ (0x13 ∷ 0x00 ∷ 0x02 ∷ 0x00 ∷ 0x01 ∷ 0xff ∷ 0xff ∷ 0xff ∷ 0xff ∷ []))) (0 ∷ 1 ∷ 9 ∷ 4 ∷ [])
    ∷ row "a link that is not there is 9" (checks P1-card (opening 0x00 0x02 0x02 ++ direct 0x13 ((1, 0) ∷ []) ++ (0x15 ∷ []))) (0 ∷ 1 ∷ 9 ∷ 4 ∷ [])
    ∷ row "15 before the block is 7" (checks P1-card (0x15 ∷ P5-plan)) (0 ∷ 1 ∷ 7 ∷ 0 ∷ [])
    ∷ row "15 within the block is 7" (checks P1-card (opening 0x00 0x01 0x01 ++ (0x15 ∷ []))) (0 ∷ 1 ∷ 7 ∷ 4 ∷ [])
    ∷ row "bytes after 15 are 3, at the first of them" (checks P1-card (P5-plan ++ (0x00 ∷ []))) (0 ∷ 1 ∷ 3 ∷ 14 ∷ [])
    ∷ []

-- P10 for every S of one server: step 3 keeps each t, in every block of every accepted plan
abbrev pub KeepsAlone : Type 0
KeepsAlone =
    (card plan : List ℕ) (n f : ℕ) (links : Links) → read_card card ≡ network n f links → Accepted card plan
    → (b : Block) → Memᴰ b (decode_plan n f plan) → size b.quorum ≡ 1
    → (faulty : ℕ) (messages : List ℕ) (number : ℕ) (t : List ℕ) (i : ℕ) → i < 8
    → held (compare faulty messages number (map carriage_of b.among) b.quorum t) i ≡ held t i
