use mathlib.Core.Path.{refl, ◌∙◌}
use native.Mathlib.Omega.{arith}
use Rattle.transcript.proofs.Lines.{served_starts, served_goes, served_ends}
use Rattle.transcript.proofs.text.Text.put_servers.Goals as goal

pub loop-server-init : goal.loop-server-init
loop-server-init c = record { same = refl; served = served_starts _ _ _ _ _ }

pub put_server-requires : goal.put_server-requires
put_server-requires c = let p = c.loop-server.invariant.served.before.place in let b = c.loop-server.invariant.served.before.bound in let w = c.loop-server.invariant.served.within in (omega arith, omega arith)

pub loop-server-preserved : goal.loop-server-preserved
loop-server-preserved c = let i = c.loop-server.invariant in record { same = c.put_server.ensures.same ∙ i.same; served = served_goes i.served c.loop-server-test.true c.put_server.ensures.put }

pub returns-clause-put : goal.returns-clause-put
returns-clause-put c = served_ends c.loop-server.invariant.served c.loop-server-test.false c.requires.1
