-- What the code's answer stands for, and what holds of it.
--     routing_of a    == the answer that the code's answer a stands for
--     Answered ..   <-> a is the answer to the call on card s, and `after` are the lent bytes then. Routes that are answered are f + 1, keep the route
--                       rules and share no server but r. A cut that is answered has at most f servers, and every route meets one of them
use Rattle.std.specs.Prelude.{◌≡◌, List, ℕ, ◌+◌, ◌*◌, take, Result, Ok, Err}
use Rattle.refusal.specs.declared.Refusal.{Refusal}
use Rattle.refusal.specs.Refused.{refusal_of}
use Rattle.network.specs.Links.{Links}
use Rattle.network.specs.Card.{network, read_card}
use Rattle.rules.specs.Blocks.{Route}
use Rattle.flow.specs.Theorems.{Found, CutOff}
use Rattle.routes.specs.Routing.{Routing, routed, cut_off, unrouted, operands, route_into, routed_in}
use Rattle.routes.specs.declared.Routing as Code

abbrev pub routing_of : Result Code.Routing Refusal → Routing
routing_of (Ok (Code.Routing.Routes count)) = routed count
routing_of (Ok (Code.Routing.Cut servers)) = cut_off servers
routing_of (Err r) = unrouted (refusal_of r)

pub record Answered (s : List ℕ) (F sources r : ℕ) (lent : List ℕ) (a : Result Code.Routing Refusal) (after : List ℕ) : Type 0 where
  pub answer : routing_of a ≡ route_into s F sources r lent
  pub bytes : after ≡ routed_in s F sources r lent
  pub found : (n f : ℕ) (links : Links) → read_card s ≡ network n f links → (count : ℕ) → routing_of a ≡ routed count
      → (count ≡ f + 1) × (ps : List Route) × Found n links F sources r (f + 1) ps × (take (8 * count) after ≡ operands ps)
  pub missed : (n f : ℕ) (links : Links) → read_card s ≡ network n f links → (K : ℕ) → routing_of a ≡ cut_off K → CutOff n links F sources r (f + 1) K
