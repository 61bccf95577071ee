use Rattle.std.proofs.Common.{ap, ◌∙◌}
use Rattle.plan.specs.Ahead.{faults_left}
use Rattle.writer.proofs.Faulting.{faulting_starts, faulting_ends, faulting_reach, faulting_set, faulting_room, faulting_turn}
use Rattle.writer.proofs.write.put_blocks.Goals as goal

pub loop-fault-init : goal.loop-fault-init
loop-fault-init c =
    faulting_starts _ _ _ _ _ c.args.network.now.proper.most (ap faults_left c.into_iter-fault-iterator.ensures.into_iter_gives ∙ c.faults-fault-items.ensures) c.requires.room

pub put_fault-at-requires-clause-few : goal.put_fault-at-requires-clause-few
put_fault-at-requires-clause-few c = faulting_set _ _ _ _ _ _ _ c.loop-fault.invariant _ _ c.in-Some.ensures.steps

pub put_fault-at-requires-clause-room : goal.put_fault-at-requires-clause-room
put_fault-at-requires-clause-room c = faulting_room _ _ _ _ _ _ _ c.loop-fault.invariant _ _ c.in-Some.ensures.steps

pub loop-fault-preserved : goal.loop-fault-preserved
loop-fault-preserved c = faulting_turn _ _ _ _ _ _ _ c.loop-fault.invariant _ _ c.in-Some.ensures.steps _ _ c.put_fault-at.ensures.bytes c.put_fault-at.ensures.after

pub returns-clause-bytes : goal.returns-clause-bytes
returns-clause-bytes c = faulting_ends _ _ _ _ _ _ _ c.loop-fault.invariant c.in-None.ensures.steps.0

pub returns-clause-after : goal.returns-clause-after
returns-clause-after c = faulting_reach _ _ _ _ _ _ _ c.loop-fault.invariant c.in-None.ensures.steps.0
