-- What is proved of the search, in the terms of the route rules, for every network of at most eight servers, every F, any sources, any receiver
-- and any number of routes: Menger's theorem for routes from a set to a server.
--     Found       what holds of the routes that are found: they are so many, each is a route from a source to r, and no two share a server but r
--     CutOff      what holds of the servers that are shown else: they are fewer, r is not among them, and every route from a source to r meets one
--     Finds       the routes that the search answers are such routes
--     Cuts        the servers that it answers are such servers
use Rattle.std.specs.Prelude.{◌≡◌, true, List, ℕ, ◌<◌, length}
use Rattle.facts.specs.Lists.{Each}
use Rattle.sets.specs.Sets.{In, Out, has, minus, within, full, count}
use Rattle.network.specs.Links.{Links, linked_in}
use Rattle.network.specs.Rows.{rows_of}
use Rattle.network.specs.Proper.{Proper}
use Rattle.rules.specs.Blocks.{Route, source_of, receiver_of}
use Rattle.rules.specs.Rules.{IsRoute, AllSeparate}
use Rattle.rules.specs.Routable.{Passes}
use Rattle.flow.specs.Routes.{Separated, routes, cut, separate_routes}

pub record Found (n : ℕ) (links : Links) (F sources r k : ℕ) (ps : List Route) : Type 0 where
  pub many : length ps ≡ k
  pub start : Each (λ p. In (has sources) (source_of p)) ps
  pub end : Each (λ p. receiver_of p ≡ r) ps
  pub routes : Each (IsRoute n links F) ps
  pub separate : AllSeparate ps

pub record CutOff (n : ℕ) (links : Links) (F sources r k K : ℕ) : Type 0 where
  pub inside : within K (minus (full n) F) ≡ true
  pub few : count n (has K) < k
  pub other : Out (has K) r
  pub met : (p : Route) → IsRoute n links F p → In (has sources) (source_of p) → receiver_of p ≡ r → (x : ℕ) × In (has K) x × Passes p x

-- the search for k routes to r in V−F
abbrev pub sought : ℕ → Links → (F sources r k : ℕ) → Separated
sought n links F sources r k = separate_routes (rows_of (linked_in links)) (minus (full n) F) sources r k

abbrev pub Finds : Type 0
Finds =
    (n f : ℕ) (links : Links) → Proper n f links → (F sources r k : ℕ) (ps : List Route) → sought n links F sources r k ≡ routes ps
    → Found n links F sources r k ps

abbrev pub Cuts : Type 0
Cuts =
    (n f : ℕ) (links : Links) → Proper n f links → (F sources r k K : ℕ) → sought n links F sources r k ≡ cut K
    → CutOff n links F sources r k K
