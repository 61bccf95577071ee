-- The decoded plan: its blocks in plan order, each with F, A, S, the routes of the commands 11, 12 and 13, and the k and N of each command 14.
-- A route is the list of its servers, source first and receiver last.
--     encode_plan bs       == the bytes of the blocks bs
--     decode_plan n f s    == the blocks that the bytes s hold; how many routes a block has follows from n, f and its F, A and S
--     plan_carriages bs    == the carriages in plan order; carriage i has number i
use Rattle.std.specs.Prelude.{List, [], ◌∷◌, ◌++◌, map, ℕ, zero, suc, ◌+◌, ◌-◌, ◌*◌, length, get_or, take, drop, replicate}
use Rattle.sets.specs.Sets.{minus, full, size}
use Rattle.sets.specs.Members.{members}
use Rattle.plan.specs.Due.{due}
use Rattle.route.specs.Route.{path}
use Rattle.plan.specs.Check.{route_at}

abbrev pub Route : Type 0
Route = List ℕ

abbrev pub source_of : Route → ℕ
source_of p = get_or p 0 0

abbrev pub receiver_of : Route → ℕ
receiver_of p = get_or p (length p - 1) 0

-- the servers of N report to `receiver`, which is in F
pub record Report : Type 0 where
  pub receiver : ℕ
  pub reporters : ℕ

-- F, A and S; the routes of 11 from A into S−A, of 12 among S, of 13 from S to the rest of V−F; the reports of 14 to F
pub record Block : Type 0 where
  pub faults : ℕ
  pub side : ℕ
  pub quorum : ℕ
  pub inward : List Route
  pub among : List Route
  pub outward : List Route
  pub reports : List Report

-- the encoding

unfoldable pub operand : Route → List ℕ
operand p = p ++ replicate (8 - length p) 0xff

unfoldable pub encode_routes : ℕ → List Route → List ℕ
encode_routes command [] = []
encode_routes command (p ∷ ps) = command ∷ (operand p ++ encode_routes command ps)

unfoldable pub encode_reports : List Report → List ℕ
encode_reports [] = []
encode_reports (r ∷ rs) = 0x14 ∷ r.receiver ∷ r.reporters ∷ encode_reports rs

unfoldable pub encode_block : Block → List ℕ
encode_block b =
    0x10 ∷ b.faults ∷ b.side ∷ b.quorum
    ∷ (encode_routes 0x11 b.inward ++ encode_routes 0x12 b.among ++ encode_routes 0x13 b.outward ++ encode_reports b.reports)

unfoldable pub encode_blocks : List Block → List ℕ
encode_blocks [] = []
encode_blocks (b ∷ bs) = encode_block b ++ encode_blocks bs

unfoldable pub encode_plan : List Block → List ℕ
encode_plan bs = encode_blocks bs ++ (0x15 ∷ [])

-- the decoding

-- k routes from a place on
unfoldable pub routes_at : List ℕ → ℕ → ℕ → List Route
routes_at s at zero = []
routes_at s at (suc k) = path (route_at s at) ∷ routes_at s (at + 9) k

-- k reports from a place on
unfoldable pub reports_at : List ℕ → ℕ → ℕ → List Report
reports_at s at zero = []
reports_at s at (suc k) = record { receiver = get_or s (at + 1) 0; reporters = get_or s (at + 2) 0 } ∷ reports_at s (at + 3) k

-- how many routes a block with this F, A and S has of each kind

unfoldable pub inward_due : ℕ → ℕ → ℕ → ℕ
inward_due f A S = size (minus S A) * (f + 1)

unfoldable pub among_due : ℕ → ℕ
among_due S = size S * (size S - 1)

unfoldable pub outward_due : ℕ → ℕ → ℕ → ℕ → ℕ
outward_due n f F S = size (minus (minus (full n) F) S) * (f + 1)

-- the block that starts here
unfoldable pub decode_block : ℕ → ℕ → List ℕ → Block
decode_block n f s =
    let F = get_or s 1 0 in
    let A = get_or s 2 0 in
    let S = get_or s 3 0 in
    let among = 4 + 9 * inward_due f A S in
    let outward = among + 9 * among_due S in
    let reports = outward + 9 * outward_due n f F S in
    record {
      faults = F;
      side = A;
      quorum = S;
      inward = routes_at s 4 (inward_due f A S);
      among = routes_at s among (among_due S);
      outward = routes_at s outward (outward_due n f F S);
      reports = reports_at s reports (size F);
    }

-- how many bytes a block takes
unfoldable pub length_of : Block → ℕ
length_of b = 4 + 9 * (length b.inward + length b.among + length b.outward) + 3 * length b.reports

-- the k blocks from here on
unfoldable pub decode_blocks : ℕ → ℕ → List ℕ → ℕ → List Block
decode_blocks n f s zero = []
decode_blocks n f s (suc k) = let b = decode_block n f s in b ∷ decode_blocks n f (drop (length_of b) s) k

unfoldable pub decode_plan : ℕ → ℕ → List ℕ → List Block
decode_plan n f s = decode_blocks n f s (length (due n f))

-- carriages

-- `before` has the servers other than the receiver, source first
pub record Carriage : Type 0 where
  pub receiver : ℕ
  pub before : List ℕ

abbrev pub carriage_of : Route → Carriage
carriage_of p = record { receiver = receiver_of p; before = take (length p - 1) p }

-- a carriage for each member of N, ascending
abbrev pub report_from : ℕ → List ℕ → List Carriage
report_from k [] = []
report_from k (m ∷ ms) = record { receiver = k; before = m ∷ [] } ∷ report_from k ms

unfoldable pub report_carriages : List Report → List Carriage
report_carriages [] = []
report_carriages (r ∷ rs) = report_from r.receiver (members r.reporters) ++ report_carriages rs

unfoldable pub carriages_of : Block → List Carriage
carriages_of b = map carriage_of b.inward ++ map carriage_of b.among ++ map carriage_of b.outward ++ report_carriages b.reports

unfoldable pub plan_carriages : List Block → List Carriage
plan_carriages [] = []
plan_carriages (b ∷ bs) = carriages_of b ++ plan_carriages bs
