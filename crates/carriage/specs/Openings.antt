-- What the opening command of a block fixes, and what code that goes through the blocks of an accepted plan relies on, so that every read is in range.
--     OpensBy ..         o is what the opening command at the front of s fixes, by a table of sizes; for any bytes and any table
--     Opens n f s o      the same by the sizes themselves
--     Readable n f s     the block that starts s is whole, and its routes and reports name servers
--     Runnable n f s k   so are the k blocks from here on
--     Ready o s          o is what the opening command of such a block fixes
use Rattle.std.specs.Coded.{Unit-prop, ×_prop}
use Rattle.std.proofs.Props.{props}
use Rattle.std.specs.Prelude.{◌≡◌, List, ℕ, zero, suc, min, ◌+◌, ◌-◌, ◌*◌, ◌≤◌, ◌<◌, length, get_or, take, drop}
use Rattle.sets.specs.Sets.{minus, full, size}
use Rattle.rules.specs.Blocks.{routes_at, reports_at, Route, Block, inward_due, among_due, outward_due, decode_block, length_of, Report}
use Rattle.route.specs.Route.{path}
use Rattle.facts.specs.Lists.{Each}
use Rattle.carriage.specs.declared.opening.Opening.{Opening}

-- a byte that is not there counts as 0
pub record OpensBy (sizes : List ℕ) (n f : ℕ) (s : List ℕ) (o : Opening) : Type 0 where
  pub servers : o.n ≡ n
  pub bound : o.f ≡ f
  pub fault : o.fault ≡ get_or s 1 0
  pub side : o.side ≡ get_or s 2 0
  pub quorum : o.quorum ≡ get_or s 3 0
  pub inward : o.inward ≡ get_or sizes (minus o.quorum o.side) 0 * (f + 1)
  pub among : o.among ≡ get_or sizes o.quorum 0 * get_or sizes o.quorum 0 - get_or sizes o.quorum 0
  pub outward : o.outward ≡ get_or sizes (minus (minus (full (min n 8)) o.fault) o.quorum) 0 * (f + 1)
  pub reports : o.reports ≡ get_or sizes o.fault 0
  pub bytes : o.bytes ≡ 4 + 9 * (o.inward + o.among + o.outward) + 3 * o.reports
  pub carriages : o.carriages ≡ o.inward + o.among + o.outward + o.reports * (f + 1)

-- at least two, each one of the eight that there can be
pub record Servers (p : Route) : Type 0 where
  pub two : 2 ≤ length p
  pub eight : (i : ℕ) → i < length p → get_or p i 0 < 8

-- so many servers report to one of the eight that there can be
pub record ReportOf (each : ℕ) (r : Report) : Type 0 where
  pub eight : r.receiver < 8
  pub exact : size r.reporters ≡ each

pub record Readable (n f : ℕ) (s : List ℕ) : Type 0 where
  pub fits : length_of (decode_block n f s) ≤ length s
  pub inward : Each Servers (decode_block n f s).inward
  pub among : Each Servers (decode_block n f s).among
  pub outward : Each Servers (decode_block n f s).outward
  pub reports : Each (ReportOf (f + 1)) (decode_block n f s).reports

abbrev pub Runnable : ℕ → ℕ → List ℕ → ℕ → Type 0
Runnable n f s zero = Unit
Runnable n f s (suc k) = Readable n f s × Runnable n f (drop (length_of (decode_block n f s)) s) k

abbrev pub block_at : Opening → List ℕ → Block
block_at o s = decode_block o.n o.f s

pub record Opens (n f : ℕ) (s : List ℕ) (o : Opening) : Type 0 where
  pub servers : o.n ≡ n
  pub bound : o.f ≡ f
  pub fault : o.fault ≡ get_or s 1 0
  pub side : o.side ≡ get_or s 2 0
  pub quorum : o.quorum ≡ get_or s 3 0
  pub inward : o.inward ≡ inward_due o.f o.side o.quorum
  pub among : o.among ≡ among_due o.quorum
  pub outward : o.outward ≡ outward_due o.n o.f o.fault o.quorum
  pub reports : o.reports ≡ size o.fault
  pub bytes : o.bytes ≡ 4 + 9 * (o.inward + o.among + o.outward) + 3 * o.reports
  pub carriages : o.carriages ≡ o.inward + o.among + o.outward + o.reports * (o.f + 1)

pub record Ready (o : Opening) (s : List ℕ) : Type 0 where
  pub few : o.n ≤ 8
  pub bound : o.f ≤ 2
  pub short : length s ≤ 1048576
  pub opens : Opens o.n o.f s o
  pub readable : Readable o.n o.f s

-- the commands of so many routes are there from this place on, and name servers
pub record RoutesThere (s : List ℕ) (at count : ℕ) : Type 0 where
  pub fits : at + 9 * count ≤ length s
  pub short : length s ≤ 1048576
  pub servers : Each Servers (routes_at s at count)

-- the same of a route's operand
pub record RouteThere (s : List ℕ) : Type 0 where
  pub wide : 8 ≤ length s
  pub servers : Servers (path (take 8 s))

-- the commands of so many reports are there from this place on, each of so many servers
pub record ReportsThere (s : List ℕ) (at count each : ℕ) : Type 0 where
  pub fits : at + 3 * count ≤ length s
  pub short : length s ≤ 1048576
  pub few : each ≤ 8
  pub told : Each (ReportOf each) (reports_at s at count)

-- n and f are those of a network, and the first k blocks of the plan are whole
pub record Opened (n f : ℕ) (plan : List ℕ) (k : ℕ) : Type 0 where
  pub few : n ≤ 8
  pub bound : f ≤ 2
  pub short : length plan ≤ 1048576
  pub runs : Runnable n f plan k

-- it is either so or not
pub Runnable-prop : (n f : ℕ) (s : List ℕ) (k : ℕ) → IsProp (Runnable n f s k)
Runnable-prop n f s zero = Unit-prop
Runnable-prop n f s (suc k) = ×_prop (Prim.hlevel props) (Runnable-prop n f (drop (length_of (decode_block n f s)) s) k)
