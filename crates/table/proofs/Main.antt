-- Every row of the table holds: one test, computed row by row over the table as a whole, and the lemma that carries it to each row.
-- Assumes nothing.
use mathlib.Core.Path.{◌≡◌, refl, ap₂}
use mathlib.Core.Logic.{⊎_elim}
use mathlib.Core.Bool.{Bool, true, false, ◌&&◌}
use mathlib.Core.List.Memᴰ
use mathlib.Core.List.{List, [], ◌∷◌, Memᴰ}
use Prim.Native.Nat.{ℕ}
use lib.Dec.{eqb}
use borrow.Author.Tests.{eqb-true}
use Rattle.facts.proofs.Bools.{and_left, and_right, clash}
use Rattle.sets.specs.Sets.{has, single, union, meet, minus, within, encode, full, count, size, first_in, lowest}
use Rattle.network.specs.Links.{no_links, linked_in, with_link}
use Rattle.network.specs.Rows.{row_of, rows_from, rows_of}
use Rattle.network.specs.Card.{head_fits, link_fits, head_at, link_at, end_at, step_at, commands, read_card}
use Rattle.printer.specs.Print.{link_bytes, card_bytes, links_among, ascending, print_card, clean_card, fitting, print_into, printed_in}
use Rattle.split.specs.Sources.{sources_to}
use Rattle.split.specs.Weak.{outside, weak}
use Rattle.split.specs.Split.{some_below, incoming, held, rest, is_split, is_bad, bad_at, first_from, bad_with_sides, bad_with_faults, first_bad, split_test}
use Rattle.two_way.specs.Separation.{one_way, link_to, others, parts, separates, separable, connectivity}
use Rattle.two_way.specs.Quick.{servers_wanted, away_wanted, older_rule, quick_test}
use Rattle.sets.specs.Members.{list_from, members}
use Rattle.plan.specs.Due.{is_part, blocks_of, blocks_of_all, due, fan, to_one, pairs, routes_due}
use Rattle.route.specs.Route.{path, is_fill, filled, servers_of, goes_on, is_path, is_route, checked_route, route_set}
use Rattle.route.specs.Commands.{width, is_cut}
use Rattle.plan.specs.Check.{is_due, route_at, check_group, check_groups, all_linked, is_report, check_reports, check_block, check_blocks, check_end, check_on, check_plan}
use Rattle.rules.specs.Blocks.{operand, encode_routes, encode_reports, encode_block, encode_blocks, encode_plan, routes_at, reports_at, inward_due, among_due, outward_due, decode_block, length_of, decode_blocks, decode_plan, report_carriages, carriages_of}
use Rattle.rules.specs.Rules.{sources_for, pairs_of}
use Rattle.flow.specs.Search.{straight, lowest_of, out_in, with_start, with_end, with_use, without_use, with_step, without_step, lost, reached, changed, feeder, behind, step_in, step_out, tries, ahead, enter, seek, seek_all, last_in, linking, flow_by}
use Rattle.flow.specs.Routes.{trail, cut_of, separate_routes}
use Rattle.flow.specs.Routes as Flow
use Rattle.planner.specs.Choice.{holds_weak, meets_all, side_of, without, thinned, quorum_of}
use Rattle.planner.specs.Plan.{routes_to, fans_to, mesh_of, report_to, block_with, plan_of, plan_bytes}
use Rattle.planner.specs.Plan as Plan
use Rattle.planner.specs.Write.{plan_for, write_into, written_in}
use Rattle.planner.specs.Write as Write
use Rattle.routes.specs.Routing.{call_fits, operands, answer_for, route_into, routed_in}
use Rattle.load.specs.Load.{relays_of, relayed, routes_of, plan_routes, counts_from, load_of, load_call}
use Rattle.load.specs.Places.{has_route, operands_from, operands_in, places_of, places_in}
use Rattle.steps.specs.Hearing.{hit, read, message, brought, heard, all, common}
use Rattle.steps.specs.Steps.{values_from, values, step1, gather, compare, step5, step6, run_block, run_blocks}
use Rattle.steps.specs.Run.{are_bits, check_call, run_on, run_plan, decided, written, lent_after}
use Rattle.part.specs.Own.{sent, received, own1, own_gather, own_compare, own5, own6, commit11, commit12, commit13, commit14, committed}
use Rattle.part.specs.Own as Own
use Rattle.part.specs.State.{first, is_end, placed, stands, opened, next_block, next_kind, next}
use Rattle.part.specs.Calls.{site_of, from_block, block_of, start_on, values_due, ask_on, commit_on, start_call, ask_call, commit_call}
use Rattle.part.specs.Beside.{turns, delivered, beside_turn, beside_over, start_beside, shown_beside}
use Rattle.table.specs.Rows.{Row, Holds, given, table}

same_list : List ℕ → List ℕ → Bool
same_list [] [] = true
same_list [] (y ∷ ys) = false
same_list (x ∷ xs) [] = false
same_list (x ∷ xs) (y ∷ ys) = eqb x y && same_list xs ys

same_list_true : (xs ys : List ℕ) → same_list xs ys ≡ true → xs ≡ ys
unfolding same_list
same_list_true [] [] e = refl
same_list_true [] (y ∷ ys) e = clash false e refl
same_list_true (x ∷ xs) [] e = clash false e refl
same_list_true (x ∷ xs) (y ∷ ys) e =
    ap₂ (λ (z : ℕ) (zs : List ℕ). z ∷ zs) (eqb-true x y (and_left (eqb x y) (same_list xs ys) e)) (same_list_true xs ys (and_right (eqb x y) (same_list xs ys) e))

test : Row → Bool
test r = same_list (given r.made) r.stated

-- every row of the list passes the test
abbrev Passing : List Row → Type 0
Passing [] = Unit
Passing (r ∷ rs) = (test r ≡ true) × Passing rs

passing_each : (rs : List Row) → Passing rs → (r : Row) → Memᴰ r rs → Holds r
unfolding test
passing_each [] h r m = elim m [ ]
passing_each (first ∷ rs) h r m =
    ⊎_elim
    (λ (q : r ≡ first). rw q (same_list_true (given first.made) first.stated h.0))
    (λ (o : Memᴰ r rs). passing_each rs h.1 r o)
    (Memᴰ.cases_cons m)

-- one `refl` a row, in the table's order: of a row that fails the checker prints the name
computed : Passing table
unfolding test same_list has single union meet minus within encode full count size first_in lowest no_links linked_in with_link row_of rows_from rows_of sources_to outside weak head_fits link_fits head_at link_at end_at step_at commands read_card some_below incoming held rest is_split is_bad bad_at first_from bad_with_sides bad_with_faults first_bad split_test one_way link_to others parts separates separable connectivity servers_wanted away_wanted older_rule quick_test link_bytes card_bytes links_among ascending print_card clean_card fitting print_into printed_in list_from members is_part blocks_of blocks_of_all due fan to_one pairs routes_due path is_fill filled servers_of goes_on is_path is_route checked_route route_set width is_cut is_due route_at check_group check_groups all_linked is_report check_reports check_block check_blocks check_end check_on check_plan operand encode_routes encode_reports encode_block encode_blocks encode_plan sources_for pairs_of straight lowest_of out_in with_start with_end with_use without_use with_step without_step lost reached changed feeder behind step_in step_out tries ahead enter seek seek_all last_in linking flow_by trail cut_of separate_routes Flow.routes_of holds_weak meets_all side_of without thinned quorum_of routes_to fans_to mesh_of report_to block_with plan_of plan_bytes Plan.block_of plan_for Write.fitting write_into written_in call_fits operands answer_for route_into routed_in routes_at reports_at inward_due among_due outward_due decode_block length_of decode_blocks decode_plan report_carriages carriages_of relays_of relayed routes_of plan_routes counts_from load_of load_call has_route operands_from operands_in places_of places_in hit read message brought heard all common values_from values step1 gather compare step5 step6 run_block run_blocks are_bits check_call run_on run_plan decided written lent_after Own.carriages_of sent Own.given received own1 own_gather own_compare own5 own6 commit11 commit12 commit13 commit14 committed first is_end placed stands opened next_block next_kind next site_of from_block block_of start_on values_due ask_on commit_on start_call ask_call commit_call turns delivered beside_turn beside_over start_beside shown_beside
computed = (refl, (refl, (refl, (refl, (refl, (refl, (refl, (refl, (refl, (refl, (refl, (refl, (refl, (refl, (refl, (refl, (refl, (refl, (refl, (refl, (refl, (refl, (refl, (refl, (refl, (refl, (refl, (refl, (refl, (refl, (refl, (refl, (refl, (refl, (refl, (refl, (refl, (refl, (refl, (refl, (refl, (refl, (refl, (refl, (refl, (refl, (refl, (refl, (refl, (refl, (refl, (refl, (refl, (refl, (refl, (refl, (refl, (refl, (refl, (refl, (refl, (refl, (refl, (refl, (refl, (refl, (refl, (refl, (refl, (refl, (refl, (refl, (refl, (refl, (refl, (refl, (refl, (refl, (refl, (refl, (refl, (refl, (refl, (refl, (refl, (refl, (refl, (refl, (refl, (refl, (refl, (refl, (refl, (refl, (refl, (refl, (refl, (refl, (refl, (refl, (refl, (refl, tt))))))))))))))))))))))))))))))))))))))))))))))))))))))))))))))))))))))))))))))))))))))))))))))))))))))

pub table_holds : (r : Row) → Memᴰ r table → Holds r
table_holds r m = passing_each table computed r m
