-- The blocks of an accepted plan, one after the other.
--     Passed s b t    <-> b is the block at the front of the blocks s, and t are the others
--     route_of, ..        == the route, the routes, the report and the reports that the code's values stand for
--     Passing s r t   <-> r is the block at the front of s, with t for the others, or s has none
use Rattle.std.specs.Prelude.{List, ◌≡◌, suc, take, drop, Option, MatchOption}
use Rattle.rules.specs.Blocks.{Route, Report, routes_at, reports_at, decode_block, length_of}
use Rattle.route.specs.Route.{path}
use Rattle.carriage.specs.Openings.{block_at}
use Rattle.carriage.specs.declared.ready_block.Block.{Block}
use Rattle.carriage.specs.declared.ready_blocks.Blocks.{Blocks}
use Rattle.carriage.specs.declared.ready_route.Route as CodeRoute
use Rattle.carriage.specs.declared.ready_routes.Routes.{Routes}
use Rattle.carriage.specs.declared.ready_reports.Report as CodeReport
use Rattle.carriage.specs.declared.ready_reports.Reports.{Reports}

pub record Passed (s : Blocks) (b : Block) (t : Blocks) : Type 0 where
  pub left : s.left ≡ suc t.left
  pub servers : t.n ≡ s.n
  pub bound : t.f ≡ s.f
  pub opened_n : b.opening.n ≡ s.n
  pub opened_f : b.opening.f ≡ s.f
  pub block : block_at b.opening b.bytes.now ≡ decode_block s.n s.f s.rest.now
  pub rest : t.rest.now ≡ drop (length_of (decode_block s.n s.f s.rest.now)) s.rest.now

abbrev pub Passing : Blocks → Option Block → Blocks → Type 0
Passing s r t = MatchOption r ((s.left ≡ 0) × (t.left ≡ 0)) (λ b. Passed s b t)

abbrev pub route_of : CodeRoute.Route → Route
route_of r = path (take 8 r.operand.now)

abbrev pub routes_of : Routes → List Route
routes_of s = routes_at s.block.now s.at s.left

abbrev pub report_of : CodeReport.Report → Report
report_of r = record { receiver = r.receiver; reporters = r.reporters }

abbrev pub reports_of : Reports → List Report
reports_of s = reports_at s.block.now s.at s.left
