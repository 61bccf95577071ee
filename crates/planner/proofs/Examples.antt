-- The plan computed for small networks. Assumes nothing.
use mathlib.Core.Path.{◌≡◌, refl}
use mathlib.Core.List.{[], ◌∷◌}
use lib.ListN.{length}
use Rattle.sets.specs.Sets.{has, single, union, meet, minus, within, encode, first_in, lowest, count, size, full}
use Rattle.network.specs.Links.{no_links, with_link, linked_in}
use Rattle.network.specs.Rows.{row_of, rows_from, rows_of}
use Rattle.split.specs.Sources.{sources_to}
use Rattle.split.specs.Split.{some_below, incoming}
use Rattle.split.specs.Weak.{outside, weak}
use Rattle.sets.specs.Members.{list_from, members}
use Rattle.plan.specs.Due.{is_part, blocks_of, blocks_of_all, due}
use Rattle.rules.specs.Blocks.{operand, encode_routes, encode_reports, encode_block, encode_blocks, encode_plan}
use Rattle.rules.specs.Rules.{sources_for, pairs_of}
use Rattle.flow.specs.Search.{straight, lowest_of, out_in, with_start, with_end, with_use, without_use, with_step, without_step, lost, reached, changed, feeder, behind, step_in, step_out, tries, ahead, enter, seek, seek_all, last_in, linking, flow_by}
use Rattle.flow.specs.Routes.{trail, routes_of}
use Rattle.planner.specs.Choice.{holds_weak, meets_all, side_of, without, thinned, quorum_of}
use Rattle.planner.specs.Plan.{routes_to, fans_to, mesh_of, report_to, block_with, block_of, plan_of, plan_bytes}

-- two servers and one link: the plan of the format's own example
pub two : plan_bytes 2 0 (with_link no_links 0 1) ≡ 0x10 ∷ 0 ∷ 1 ∷ 1 ∷ 0x13 ∷ 0 ∷ 1 ∷ 0xff ∷ 0xff ∷ 0xff ∷ 0xff ∷ 0xff ∷ 0xff ∷ 0x15 ∷ []
unfolding no_links with_link linked_in row_of rows_from rows_of sources_to some_below incoming outside weak list_from members is_part blocks_of blocks_of_all due operand encode_routes encode_reports encode_block encode_blocks encode_plan sources_for pairs_of straight lowest_of out_in with_start with_end with_use without_use with_step without_step lost reached changed feeder behind step_in step_out tries ahead enter seek seek_all last_in linking flow_by trail routes_of has single union meet minus within encode first_in lowest count size full holds_weak meets_all side_of without thinned quorum_of routes_to fans_to mesh_of report_to block_with block_of plan_of plan_bytes
two = refl

-- four servers, f 1, all links
pub four : length (plan_bytes 4 1 (with_link (with_link (with_link (with_link (with_link (with_link (with_link (with_link (with_link (with_link (with_link (with_link no_links 0 1) 0 2) 0 3) 1 0) 1 2) 1 3) 2 0) 2 1) 2 3) 3 0) 3 1) 3 2)) ≡ 923
unfolding no_links with_link linked_in row_of rows_from rows_of sources_to some_below incoming outside weak list_from members is_part blocks_of blocks_of_all due operand encode_routes encode_reports encode_block encode_blocks encode_plan sources_for pairs_of straight lowest_of out_in with_start with_end with_use without_use with_step without_step lost reached changed feeder behind step_in step_out tries ahead enter seek seek_all last_in linking flow_by trail routes_of has single union meet minus within encode first_in lowest count size full holds_weak meets_all side_of without thinned quorum_of routes_to fans_to mesh_of report_to block_with block_of plan_of plan_bytes
four = refl
