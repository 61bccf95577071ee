-- `run::call::run_blocks` meets its contract. The invariant of its loop, `Along`: the blocks that are left give the answer of the whole. Assumes nothing.
use Rattle.rules.specs.Blocks.{decode_blocks}
use Rattle.steps.specs.Steps.{run_blocks}
use Rattle.run.specs.Speaking.{bits_of, works_of}
use Rattle.run.specs.Answers.{values_of}
use Rattle.run.proofs.Blockwise.{Along}
use Rattle.run.proofs.call.run_blocks.Given as goal

abbrev pub invariant-loop-part : goal.invariant-loop-part
invariant-loop-part l =
    Along l.faults.servers l.faults.table.now (run_blocks l.plan.n l.faults.servers l.faults.table.now 0 (decode_blocks l.plan.n l.plan.f l.plan.rest.now l.plan.left) (values_of l.initial.values))
    l.part-iterator l.number (bits_of l.values.v) (works_of l.values.sure l.values.t)
