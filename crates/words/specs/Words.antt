-- The answers as rows of words, for callers without our enums. The first word says what the others are: 0 answered, 1 a bad split, 2 refused.
-- A refusal's words are what is at fault (0 card, 1 plan, 2 call), the number and the place.
use Rattle.std.specs.Prelude.{cond, List, [], ◌∷◌, ◌++◌, ℕ, length, get_or}
use Rattle.sets.specs.Sets.{size}
use Rattle.refusal.specs.Refused.{Refused, whose_of, number_of, place_of}
use Rattle.network.specs.Card.{Network, network, refused}
use Rattle.network.specs.Links.{linked_in}
use Rattle.network.specs.Rows.{rows_of}
use Rattle.split.specs.Split.{Split, good, bad, unread}
use Rattle.printer.specs.Print.{Print, wrote, unwritten}
use Rattle.two_way.specs.Quick.{Quick, ruled}
use Rattle.two_way.specs.Quick as Quick
use Rattle.plan.specs.Check.{Totals, totals}
use Rattle.plan.specs.Check as Check
use Rattle.routes.specs.Routing.{Routing, routed, cut_off, unrouted}
use Rattle.planner.specs.Write.{Writing, broken}
use Rattle.planner.specs.Write as Write
use Rattle.load.specs.Load.{Load, counted}
use Rattle.load.specs.Load as Load
use Rattle.part.specs.State.{State}
use Rattle.part.specs.Calls.{Stepped, at, Asked, sends}
use Rattle.server.specs.Answers.{Verdict, done}
use Rattle.server.specs.Answers as Verdicts

abbrev pub refused_words : Refused → List ℕ
refused_words r = 2 ∷ whose_of r ∷ number_of r ∷ place_of r ∷ []

-- n, f and the eight rows: row u is the set of servers that u has a link to
abbrev pub card_words : Network → List ℕ
card_words (network n f links) = 0 ∷ n ∷ f ∷ 0 ∷ rows_of (linked_in links)
card_words (refused r) = refused_words r ++ 0 ∷ 0 ∷ 0 ∷ 0 ∷ 0 ∷ 0 ∷ 0 ∷ 0 ∷ []

abbrev pub print_words : Print → List ℕ
print_words (wrote bytes) = 0 ∷ bytes ∷ 0 ∷ 0 ∷ []
print_words (unwritten r) = refused_words r

abbrev pub split_words : Split → List ℕ
split_words good = 0 ∷ 0 ∷ 0 ∷ 0 ∷ 0 ∷ []
split_words (bad f l c r) = 1 ∷ f ∷ l ∷ c ∷ r ∷ []
split_words (unread r) = 2 ∷ whose_of r ∷ number_of r ∷ place_of r ∷ 0 ∷ []

abbrev pub quick_words : Quick → List ℕ
quick_words (ruled holds n least) = 0 ∷ cond holds 1 0 ∷ n ∷ least ∷ []
quick_words (Quick.turned r) = refused_words r

-- the plan check and the run
abbrev pub plan_words : Totals → List ℕ
plan_words (totals blocks carriages) = 0 ∷ blocks ∷ carriages ∷ 0 ∷ []
plan_words (Check.turned r) = refused_words r

abbrev pub write_words : Writing → List ℕ
write_words (Write.wrote bytes) = 0 ∷ bytes ∷ 0 ∷ 0 ∷ 0 ∷ 0 ∷ 0 ∷ 0 ∷ []
write_words (broken r f l c s) = refused_words r ++ f ∷ l ∷ c ∷ s ∷ []
write_words (Write.unwritten r) = refused_words r ++ 0 ∷ 0 ∷ 0 ∷ 0 ∷ []

-- 1 and how many routes; or 0, the servers that cut every route off, and how many they are
abbrev pub route_words : Routing → List ℕ
route_words (routed count) = 0 ∷ 1 ∷ count ∷ 0 ∷ []
route_words (cut_off servers) = 0 ∷ 0 ∷ servers ∷ size servers ∷ []
route_words (unrouted r) = refused_words r

abbrev pub load_words : Load → List ℕ
load_words (counted counts) = 0 ∷ counts
load_words (Load.turned r) = refused_words r ++ 0 ∷ 0 ∷ 0 ∷ 0 ∷ 0 ∷ []

-- a state as five words: block, kind, v, t, and 1 where an ask is open

abbrev pub state_from : List ℕ → State
state_from words = record { block = get_or words 0 0; kind = get_or words 1 0; v = get_or words 2 0; t = get_or words 3 0; asked = get_or words 4 0 }

abbrev pub state_row : State → List ℕ
state_row s = s.block ∷ s.kind ∷ s.v ∷ s.t ∷ s.asked ∷ []

abbrev pub state_words : Verdict → State → List ℕ
state_words done s = 0 ∷ state_row s
state_words (Verdicts.refused r) s = refused_words r ++ 0 ∷ 0 ∷ []

-- start and commit
abbrev pub stepped_words : Stepped → List ℕ
stepped_words (at s) = 0 ∷ state_row s
stepped_words (Stepped.held r) = refused_words r ++ 0 ∷ 0 ∷ []

-- ask
abbrev pub asked_words : Asked → List ℕ
asked_words (sends s values) = 0 ∷ state_row s ++ length values ∷ []
asked_words (Asked.held r) = refused_words r ++ 0 ∷ 0 ∷ 0 ∷ []
