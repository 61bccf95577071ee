-- `run::call::check_call` meets its contract. Each answer is one ground of the call (refuse-..), or none of them (`passes`), a lemma of `Calls` whose
-- premises, the tests on the way to that return, `search` finds. Assumes nothing.
use native.Mathlib.Omega.{arith}
use Rattle.run.proofs.Calls.{refuse_length, refuse_bits, refuse_outside, standing, refuse_many, refuse_room, passes, passed_bits}
use Rattle.run.proofs.call.check_call.Goals as goal

-- not one input for each server
pub returns-then-inputs-count-clause-ground : goal.returns-then-inputs-count-clause-ground
returns-then-inputs-count-clause-ground c = λ answer. refuse_length _ _ _ _ _ answer c.if-inputs-count.true

-- more than f servers are faulty
pub returns-then-f-size-clause-ground : goal.returns-then-f-size-clause-ground
returns-then-f-size-clause-ground c = λ answer. refuse_many _ _ _ _ _ answer (search standing) (omega arith)

-- the lent buffer has no room for n bytes
pub returns-then-lent-count-clause-ground : goal.returns-then-lent-count-clause-ground
returns-then-lent-count-clause-ground c = λ answer. refuse_room _ _ _ _ _ answer (search standing) _ c.size.ensures (omega arith) (omega arith)

-- no ground is met
pub returns-then-within-clause-ground : goal.returns-then-within-clause-ground
returns-then-within-clause-ground c = λ answer. passes _ _ _ _ _ answer (search standing) _ c.size.ensures (omega arith) (omega arith)

-- a faulty server is none of V
pub returns-then-are_bits-clause-ground : goal.returns-then-are_bits-clause-ground
returns-then-are_bits-clause-ground c = search refuse_outside

-- an input is no bit
pub returns-clause-ground : goal.returns-clause-ground
returns-clause-ground c = λ answer. search refuse_bits

pub returns-then-within-clause-passed : goal.returns-then-within-clause-passed
returns-then-within-clause-passed c = (omega arith, passed_bits _ _ c.are_bits.ensures c.if-are_bits.true, omega arith)
