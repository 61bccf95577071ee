-- One block as it is written, by rows: row u of `rows` has the servers that u has a link to, entry v of `nears` has those with a link to v.
--     routes_by .. block_by    == as routes_to .. block_with of the plan, with the servers near a receiver looked up
--     Put at text most       <-> the text stands in the buffer from a place on, and the answer is the place after it
--     BlockPut b             <-> the bytes of b stand at the buffer's start, as far as it has room, and the answer is how many they are
use Rattle.std.specs.Prelude.{◌≡◌, List, [], ◌∷◌, ◌++◌, map, ℕ, ◌+◌, ◌≤◌, length, get_or}
use Rattle.facts.specs.Laid.{laid}
use Rattle.sets.specs.Sets.{single, meet, minus}
use Rattle.sets.specs.Members.{members}
use Rattle.rules.specs.Blocks.{Route, Report, Block, encode_block}
use Rattle.rules.specs.Rules.{pairs_of}
use Rattle.flow.specs.Search.{lowest_of, flow_by}
use Rattle.flow.specs.Routes.{routes_of}

-- k separate routes in W from the sources to r, as the search finds them
unfoldable pub routes_by : List ℕ → (near W sources k r : ℕ) → List Route
routes_by rows near W sources k r = routes_of (flow_by rows near W sources r k).flow r

-- k of them to each receiver of the list
unfoldable pub fans_by : List ℕ → List ℕ → (W sources k : ℕ) → List ℕ → List Route
fans_by rows nears W sources k [] = []
fans_by rows nears W sources k (r ∷ rs) = routes_by rows (get_or nears r 0) W sources k r ++ fans_by rows nears W sources k rs

-- one for each pair of a receiver and a source
unfoldable pub mesh_by : List ℕ → List ℕ → ℕ → List (ℕ × ℕ) → List Route
mesh_by rows nears W [] = []
mesh_by rows nears W (e ∷ es) = routes_by rows (get_or nears e.0 0) W (single e.1) 1 e.0 ++ mesh_by rows nears W es

-- who reports to r: the k lowest servers of W with a link to it
unfoldable pub report_by : List ℕ → (W k r : ℕ) → Report
report_by nears W k r = record { receiver = r; reporters = lowest_of k (meet W (get_or nears r 0)) }

-- S lies within A, so there is no route into it from the rest of A
unfoldable pub block_by : List ℕ → List ℕ → (W k F A S : ℕ) → Block
block_by rows nears W k F A S =
    record {
      faults = F;
      side = A;
      quorum = S;
      inward = [];
      among = mesh_by rows nears W (pairs_of (members S) (members S));
      outward = fans_by rows nears W S k (members (minus W S));
      reports = map (report_by nears W k) (members F);
    }

-- the text has at most `most` bytes; those past the buffer's end go nowhere
pub record Put (at : ℕ) (text : List ℕ) (most : ℕ) (before after : List ℕ) (r : ℕ) : Type 0 where
  pub bytes : after ≡ laid at text before
  pub place : r ≡ at + length text
  pub bound : length text ≤ most

pub record BlockPut (b : Block) (before after : List ℕ) (r : ℕ) : Type 0 where
  pub bytes : after ≡ laid 0 (encode_block b) before
  pub long : r ≡ length (encode_block b)
  pub few : r ≤ 16384
