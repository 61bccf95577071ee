-- The search computed on small networks. Assumes nothing.
use mathlib.Core.Path.{◌≡◌, refl}
use mathlib.Core.List.{[], ◌∷◌}
use Rattle.sets.specs.Sets.{has, single, union, meet, minus, encode, first_in, lowest, count, size}
use Rattle.sets.specs.Members.{list_from, members}
use Rattle.flow.specs.Search.{straight, lowest_of, out_in, with_start, with_end, with_use, without_use, with_step, without_step, lost, reached, changed, feeder, behind, step_in, step_out, tries, ahead, enter, seek, seek_all, last_in, linking, flow_by}
use Rattle.flow.specs.Routes.{trail, routes_of, cut_of, routes, cut, separate_routes}

-- 0 → 1, 0 → 2, 1 → 3, 2 → 3, 1 → 2: two routes from 0 and 1 to 3, the first of which is re-laid
pub two : separate_routes (6 ∷ 12 ∷ 8 ∷ 0 ∷ 0 ∷ 0 ∷ 0 ∷ 0 ∷ []) 15 3 3 2 ≡ routes ((0 ∷ 2 ∷ 3 ∷ []) ∷ (1 ∷ 3 ∷ []) ∷ [])
unfolding straight lowest_of out_in with_start with_end with_use without_use with_step without_step lost reached changed feeder behind step_in step_out tries ahead enter seek seek_all last_in linking flow_by trail routes_of cut_of separate_routes has single union meet minus encode first_in lowest count size list_from members
two = refl

pub one : separate_routes (6 ∷ 12 ∷ 8 ∷ 0 ∷ 0 ∷ 0 ∷ 0 ∷ 0 ∷ []) 15 1 3 2 ≡ cut 1
unfolding straight lowest_of out_in with_start with_end with_use without_use with_step without_step lost reached changed feeder behind step_in step_out tries ahead enter seek seek_all last_in linking flow_by trail routes_of cut_of separate_routes has single union meet minus encode first_in lowest count size list_from members
one = refl
