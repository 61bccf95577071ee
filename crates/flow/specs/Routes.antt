-- The routes of a flow: from each start on from server to server, to the receiver.
--     separate_routes rows W sources r k   == k routes in W from the sources to r that share nothing but r; or, where there are not so many, fewer
--                                            than k servers that every such route meets
use Rattle.std.specs.Prelude.{cond, List, [], ◌∷◌, map, ℕ, zero, suc, get_or}
use Rattle.sets.specs.Sets.{has, minus, lowest}
use Rattle.sets.specs.Members.{members}
use Rattle.rules.specs.Blocks.{Route}
use Rattle.flow.specs.declared.Flow.{Flow}
use Rattle.flow.specs.Search.{Sought, flow_to}

-- the route from x on, with at most k servers before r; seven are enough, as eight are all that there can be
unfoldable pub trail : Flow → (r k x : ℕ) → Route
trail φ r zero x = r ∷ []
trail φ r (suc k) x = x ∷ cond (has φ.ends x) (r ∷ []) (trail φ r k (lowest (get_or φ.out x 0)))

unfoldable pub routes_of : Flow → ℕ → List Route
routes_of φ r = map (trail φ r 7) (members φ.start)

-- the servers that cut every route off: their entry side was seen and their leaving side was not
unfoldable pub cut_of : Sought → ℕ
cut_of s = minus s.entered s.left

pub data Separated : Type 0 where
  routes : List Route → Separated
  cut : ℕ → Separated

unfoldable pub separate_routes : List ℕ → (W sources r k : ℕ) → Separated
separate_routes rows W sources r k =
    let s = flow_to rows W sources r k in
    cond s.found (routes (routes_of s.flow r)) (cut (cut_of s))
