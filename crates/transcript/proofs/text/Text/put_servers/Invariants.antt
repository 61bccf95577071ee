-- `Text::put_servers` meets its contract. The invariant of its loop: the lines of the servers before this one are put (`Lines`). Assumes
-- nothing.
use mathlib.Core.Path.{◌≡◌}
use Rattle.transcript.proofs.Lines.{Served}
use Rattle.transcript.proofs.text.Text.put_servers.Given as goal

abbrev pub invariant-loop-server : goal.invariant-loop-server
invariant-loop-server l = record {
  same : l.self.out.ghost_name ≡ l.initial.self.out.ghost_name;
  served : Served l.initial.self.at l.n l.faulty l.decided l.initial.self.out.now l.self.out.now l.self.at l.server;
}
