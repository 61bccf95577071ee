-- What the code's answers stand for.
use Rattle.std.specs.Prelude.{List, ℕ, Result, Ok, Err}
use Rattle.refusal.specs.declared.PlanGround.{PlanGround}
use Rattle.refusal.specs.declared.Refusal.{Refusal}
use Rattle.refusal.specs.Refused.{refusal_of, plan_refusal, number_of, place_of}
use Rattle.sets.specs.Members.{members}
use Rattle.network.specs.declared.Network as Read
use Rattle.network.specs.Card.{Network, network}
use Rattle.network.specs.Rows.{links_of}
use Rattle.plan.specs.Due as Due
use Rattle.plan.specs.Due.{DueBlock}
use Rattle.plan.specs.Check
use Rattle.plan.specs.Check.{Progress}
use Rattle.plan.specs.declared.site.Site.{Site}
use Rattle.plan.specs.declared.site.Reached.{Reached}
use Rattle.plan.specs.declared.check.Kind.{Kind}
use Rattle.plan.specs.declared.check.Mark.{Mark}
use Rattle.plan.specs.declared.check.Group.{Group}
use Rattle.plan.specs.declared.check.Totals.{Totals}

abbrev pub progress_of : Result Reached PlanGround → Progress
progress_of (Ok r) = Check.reached r.at r.carriages
progress_of (Err g) = Check.stopped (number_of (plan_refusal g)) (place_of (plan_refusal g))

-- on from the servers of a route, unless its test stops
abbrev pub then_of : (ℕ → Progress) → Result ℕ PlanGround → Progress
then_of on (Ok servers) = on servers
then_of on (Err g) = Check.stopped (number_of (plan_refusal g)) (place_of (plan_refusal g))

-- on where the command due is there
abbrev pub due_then : Progress → Result Unit PlanGround → Progress
due_then next (Ok _) = next
due_then next (Err g) = Check.stopped (number_of (plan_refusal g)) (place_of (plan_refusal g))

abbrev pub mark_of : Mark → ℕ
mark_of Mark.Block = 0x10
mark_of Mark.Report = 0x14
mark_of Mark.End = 0x15

abbrev pub command_of : Kind → ℕ
command_of Kind.Inward = 0x11
command_of Kind.Among = 0x12
command_of Kind.Outward = 0x13

abbrev pub group_of : Group → Due.Group
group_of g = record { command = command_of g.kind; sources = g.sources; receiver = g.receiver; count = g.count }

abbrev pub due_of : (faults part : ℕ) → DueBlock
due_of faults part = record { faults = faults; part = part }

-- the check of groups of routes, of reports and of all that follows a block's opening
abbrev pub groups_in : Site → List ℕ → List Due.Group → Reached → Progress
groups_in t s gs r = Check.check_groups t.sound (links_of t.rows) s gs r.at r.carriages

abbrev pub reports_in : Site → List ℕ → List ℕ → Reached → Progress
reports_in t s ks r = Check.check_reports t.n t.f (links_of t.rows) t.fault s ks r.at r.carriages

abbrev pub rest_in : Site → List ℕ → (side quorum : ℕ) → Progress
rest_in t s side quorum =
    Check.and_then (Check.check_groups t.sound (links_of t.rows) s (Due.routes_due t.n t.f t.fault side quorum) 4 0)
    (λ (at carriages : ℕ). Check.check_reports t.n t.f (links_of t.rows) t.fault s (members t.fault) at carriages)

abbrev pub network_is : Read.Network → Network
network_is w = network w.n w.f w.links

-- the plan check's answer for a network
abbrev pub answered_of : Result Totals PlanGround → Check.Totals
answered_of (Ok t) = Check.totals t.blocks t.carriages
answered_of (Err g) = Check.turned (plan_refusal g)

abbrev pub checked_of : Result Totals Refusal → Check.Totals
checked_of (Ok t) = Check.totals t.blocks t.carriages
checked_of (Err r) = Check.turned (refusal_of r)
