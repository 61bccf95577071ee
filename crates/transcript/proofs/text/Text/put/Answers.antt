use mathlib.Core.Path.{refl, ◌∙◌}
use native.Mathlib.Omega.{arith}
use Rattle.transcript.proofs.Laying.{put_none, laying_goes, laying_ends}
use Rattle.transcript.proofs.text.Text.put.Goals as goal

pub loop-byte-init : goal.loop-byte-init
loop-byte-init c = record { same = refl; laying = record { within = omega arith; before = put_none _ _ } }

pub put_byte-requires : goal.put_byte-requires
put_byte-requires c = let p = c.loop-byte.invariant.laying.before.place in let b = c.loop-byte.invariant.laying.before.bound in omega arith

pub loop-byte-preserved : goal.loop-byte-preserved
loop-byte-preserved c = let i = c.loop-byte.invariant in record { same = c.put_byte.ensures.same ∙ i.same; laying = laying_goes i.laying c.loop-byte-test.true c.put_byte.ensures.put }

pub returns-clause-put : goal.returns-clause-put
returns-clause-put c = laying_ends c.loop-byte.invariant.laying c.loop-byte-test.false
