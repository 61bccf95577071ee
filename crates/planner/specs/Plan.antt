-- The plan that is written for a network.
--     block_of n f links d     == the block for the due F and part: A, S, the routes and the reports
--     plan_of n f links        == the blocks of the plan
--     plan_bytes n f links     == its bytes
--     plan_length n f          == how many these are, wherever no split is bad
use Rattle.std.specs.Prelude.{List, [], ◌∷◌, ◌++◌, map, ℕ, ◌+◌, ◌-◌, ◌*◌}
use Rattle.sets.specs.Sets.{single, meet, minus, full, size}
use Rattle.network.specs.Links.{Links, linked_in}
use Rattle.network.specs.Rows.{rows_of}
use Rattle.split.specs.Sources.{sources_to}
use Rattle.sets.specs.Members.{members}
use Rattle.plan.specs.Due.{DueBlock, due}
use Rattle.rules.specs.Blocks.{Route, Report, Block, encode_plan}
use Rattle.rules.specs.Rules.{pairs_of}
use Rattle.flow.specs.Search.{lowest_of, flow_to}
use Rattle.flow.specs.Routes.{routes_of}
use Rattle.planner.specs.Choice.{side_of, quorum_of}

-- k separate routes in W from the sources to r, as the search finds them; row u has the servers that u has a link to
unfoldable pub routes_to : List ℕ → (W sources k r : ℕ) → List Route
routes_to rows W sources k r = routes_of (flow_to rows W sources r k).flow r

-- k of them to each receiver of the list
unfoldable pub fans_to : List ℕ → (W sources k : ℕ) → List ℕ → List Route
fans_to rows W sources k [] = []
fans_to rows W sources k (r ∷ rs) = routes_to rows W sources k r ++ fans_to rows W sources k rs

-- one for each pair of a receiver and a source
unfoldable pub mesh_of : List ℕ → ℕ → List (ℕ × ℕ) → List Route
mesh_of rows W [] = []
mesh_of rows W (e ∷ es) = routes_to rows W (single e.1) 1 e.0 ++ mesh_of rows W es

-- who reports to r: the k lowest servers of W with a link to it
unfoldable pub report_to : Links → (W k r : ℕ) → Report
report_to links W k r = record { receiver = r; reporters = lowest_of k (meet W (sources_to links r)) }

-- S lies within A, so there is no route into it from the rest of A
unfoldable pub block_with : (n f : ℕ) → Links → (F A S : ℕ) → Block
block_with n f links F A S =
    record {
      faults = F;
      side = A;
      quorum = S;
      inward = [];
      among = mesh_of (rows_of (linked_in links)) (minus (full n) F) (pairs_of (members S) (members S));
      outward = fans_to (rows_of (linked_in links)) (minus (full n) F) S (f + 1) (members (minus (minus (full n) F) S));
      reports = map (report_to links (minus (full n) F) (f + 1)) (members F);
    }

unfoldable pub block_of : (n f : ℕ) → Links → DueBlock → Block
block_of n f links d =
    let A = side_of n f links d.faults d.part in
    block_with n f links d.faults A (quorum_of n f links d.faults A)

unfoldable pub plan_of : (n f : ℕ) → Links → List Block
plan_of n f links = map (block_of n f links) (due n f)

unfoldable pub plan_bytes : (n f : ℕ) → Links → List ℕ
plan_bytes n f links = encode_plan (plan_of n f links)

-- how many bytes a block for F has if S is f + 1 servers within A
unfoldable pub block_length : (n f F : ℕ) → ℕ
block_length n f F = 4 + 9 * ((size (minus (full n) F) - 1) * (f + 1)) + 3 * size F

unfoldable pub lengths : (n f : ℕ) → List DueBlock → ℕ
lengths n f [] = 0
lengths n f (d ∷ ds) = block_length n f d.faults + lengths n f ds

-- how many bytes such blocks and the end have
unfoldable pub plan_length : (n f : ℕ) → ℕ
plan_length n f = lengths n f (due n f) + 1
