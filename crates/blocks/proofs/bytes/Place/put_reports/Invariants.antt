-- `Place::put_reports` meets its contract. The invariant of its loop: the reports to the servers of F so far are put (`Going`). Assumes nothing.
use Rattle.sets.specs.Members.{members}
use Rattle.blocks.proofs.Putting.{Going}
use Rattle.blocks.proofs.Texts.{report_text}
use Rattle.blocks.proofs.bytes.Place.put_reports.Given as goal

abbrev pub invariant-loop-k : goal.invariant-loop-k
invariant-loop-k l = Going (report_text l.site.sources l.site.sound l.site.count) l.site.fault 3 l.yielded (members l.k-iterator.left) l.initial.self l.self
