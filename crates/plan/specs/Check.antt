-- What the bytes of a plan give, command by command, each tested in the order of the table of docs/FORMATS.md: 2, 7, 8, 9, 10, 11.
--     check_plan card plan  == the number of blocks and of carriages, or the one refusal, the card's first
use Rattle.std.specs.Prelude.{Bool, true, cond, not, ◌&&◌, ◌||◌, List, [], ◌∷◌, ℕ, zero, suc, ◌+◌, eqb, ltb, length, get_or, take, drop}
use Rattle.refusal.specs.Refused.{Refused, plan}
use Rattle.sets.specs.Sets.{union, meet, minus, within, full, size, single}
use Rattle.network.specs.Links.{Links, linked_in}
use Rattle.network.specs.Card.{Network, network, refused, read_card}
use Rattle.route.specs.Route.{route_set}
use Rattle.route.specs.Commands.{is_cut}
use Rattle.sets.specs.Members.{members}
use Rattle.plan.specs.Due.{DueBlock, due, Group, routes_due}

-- the place reached and the carriages so far, or the refusal
pub data Progress : Type 0 where
  reached : (at carriages : ℕ) → Progress
  stopped : (number place : ℕ) → Progress

-- the tests 2 and 7 of the command at a place, and what follows for the command that is due
unfoldable pub is_due : List ℕ → ℕ → ℕ → Progress → Progress
is_due s at command next = cond (is_cut s at) (stopped 2 at) (cond (eqb (get_or s at 0) command) next (stopped 7 at))

-- the eight bytes of the route at a place
unfoldable pub route_at : List ℕ → ℕ → List ℕ
route_at s at = take 8 (drop (at + 1) s)

-- one route of a group by itself, and what follows with its servers
abbrev pub one_route : ℕ → Links → List ℕ → Group → ℕ → (ℕ → Progress) → Progress
one_route W links s g at on =
    let servers = route_set W links g.sources g.receiver (drop (at + 1) s) in
    is_due s at g.command (cond (eqb servers 0) (stopped 9 at) (on servers))

-- k more routes of a group within W, which is V−F; `used` holds the servers, the receiver aside, of the earlier ones
unfoldable pub check_group : ℕ → Links → List ℕ → Group → (k at carriages used : ℕ) → Progress
check_group W links s g zero at carriages used = reached at carriages
check_group W links s g (suc k) at carriages used =
    let servers = route_set W links g.sources g.receiver (drop (at + 1) s) in
    let others = minus servers (single g.receiver) in
    let on = check_group W links s g k (at + 9) (carriages + 1) (union used others) in
    is_due s at g.command
    (cond (eqb servers 0) (stopped 9 at)
    (cond (not (eqb (meet used others) 0)) (stopped 10 at) on))

-- on from a place that is reached
abbrev pub and_then : Progress → (ℕ → ℕ → Progress) → Progress
and_then (reached at carriages) next = next at carriages
and_then (stopped number place) next = stopped number place

unfoldable pub check_groups : ℕ → Links → List ℕ → List Group → (at carriages : ℕ) → Progress
check_groups W links s [] at carriages = reached at carriages
check_groups W links s (g ∷ gs) at carriages =
    and_then (check_group W links s g g.count at carriages 0) (λ (at' carriages' : ℕ). check_groups W links s gs at' carriages')

-- every server of the list has a link to k
unfoldable pub all_linked : Links → ℕ → List ℕ → Bool
all_linked links k [] = true
all_linked links k (m ∷ ms) = linked_in links m k && all_linked links k ms

-- N is exactly f + 1 servers of V−F, each with a link to k
unfoldable pub is_report : ℕ → ℕ → Links → ℕ → ℕ → ℕ → Bool
is_report n f links F k N = within N (minus (full n) F) && (eqb (size N) (f + 1) && all_linked links k (members N))

unfoldable pub check_reports : ℕ → ℕ → Links → ℕ → List ℕ → List ℕ → (at carriages : ℕ) → Progress
check_reports n f links F s [] at carriages = reached at carriages
check_reports n f links F s (k ∷ ks) at carriages =
    let on = check_reports n f links F s ks (at + 3) (carriages + (f + 1)) in
    is_due s at 0x14
    (cond (eqb (get_or s (at + 1) 0) k && is_report n f links F k (get_or s (at + 2) 0)) on (stopped 11 at))

-- a block, from its 10 command to the plan's end
unfoldable pub check_block : ℕ → ℕ → Links → List ℕ → DueBlock → Progress
check_block n f links s d =
    let W = minus (full n) d.faults in
    let F = get_or s 1 0 in
    let A = get_or s 2 0 in
    let S = get_or s 3 0 in
    let rest =
    and_then (check_groups (minus (full n) F) links s (routes_due n f F A S) 4 0)
    (λ (at carriages : ℕ). check_reports n f links F s (members F) at carriages) in
    is_due s 0 0x10
    (cond (eqb F d.faults && (eqb A d.part || eqb A (minus W d.part)))
    (cond (not (eqb S 0) && within S W) rest (stopped 8 0))
    (stopped 7 0))

-- the progress in a block, seen from the plan's start
abbrev pub onward : (at carriages : ℕ) → Progress → Progress
onward at carriages (reached at' carriages') = reached (at + at') (carriages + carriages')
onward at carriages (stopped number place) = stopped number (at + place)

unfoldable pub check_blocks : ℕ → ℕ → Links → List ℕ → List DueBlock → (at carriages : ℕ) → Progress
check_blocks n f links s [] at carriages = reached at carriages
check_blocks n f links s (d ∷ ds) at carriages =
    and_then (onward at carriages (check_block n f links (drop at s) d))
    (λ (at' carriages' : ℕ). check_blocks n f links s ds at' carriages')

-- 15 after the last block, and nothing after it
unfoldable pub check_end : List ℕ → (at carriages : ℕ) → Progress
check_end s at carriages = is_due s at 0x15 (cond (ltb (at + 1) (length s)) (stopped 3 (at + 1)) (reached (at + 1) carriages))

pub data Totals : Type 0 where
  totals : (blocks carriages : ℕ) → Totals
  turned : Refused → Totals

abbrev pub totals_of : ℕ → Progress → Totals
totals_of blocks (reached at carriages) = totals blocks carriages
totals_of blocks (stopped number place) = turned (plan number place)

unfoldable pub check_on : Network → List ℕ → Totals
check_on (refused r) s = turned r
check_on (network n f links) s =
    let answer = totals_of (length (due n f)) (and_then (check_blocks n f links s (due n f) 0 0) (λ (at carriages : ℕ). check_end s at carriages)) in
    cond (ltb 1048576 (length s)) (turned (plan 1 0)) answer

unfoldable pub check_plan : List ℕ → List ℕ → Totals
check_plan card s = check_on (read_card card) s
