-- The fault sets and the parts that are due, in order, and what an iterator over them has left.
--     parts W       == the parts by which the ways of cutting W are known
--     faults n f    == the fault sets of at most f of n servers
use Rattle.std.specs.Prelude.{List, ℕ, ◌+◌, ◌-◌, ◌^◌, leb}
use Rattle.sets.specs.Sets.{Set, size}
use Rattle.sets.specs.Members.{list_from}
use Rattle.plan.specs.Due.{is_part}
use Rattle.plan.specs.declared.scan.Cuts.{Cuts}
use Rattle.plan.specs.declared.due.FaultSets.{FaultSets}

-- the sets of at most f servers
abbrev pub few : ℕ → Set
few f F = leb (size F) f

-- each part is a number below W
abbrev pub parts : ℕ → List ℕ
parts W = list_from W 0 (is_part W)

abbrev pub faults : ℕ → ℕ → List ℕ
faults n f = list_from (2 ^ n) 0 (few f)

abbrev pub parts_left : Cuts → List ℕ
parts_left m = list_from (m.sound - m.next) m.next (is_part m.sound)

abbrev pub faults_left : FaultSets → List ℕ
faults_left m = list_from (m.servers + 1 - m.next) m.next (few m.f)
