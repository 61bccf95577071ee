-- `load::has_route` meets its contract. The commands with a route are those from 11 to 13. Assumes nothing.
use mathlib.Core.Path.{◌∙◌}
use borrow.Author.Tests.{lt-leb}
use Rattle.load.proofs.Counting.{route_no, route_range}
use Rattle.load.proofs.has_route.Goals as goal

pub returns-then-command-ge17 : goal.returns-then-command-ge17
returns-then-command-ge17 c = route_range _ c.if-command-ge17.true

pub returns-else-command-ge17 : goal.returns-else-command-ge17
returns-else-command-ge17 c = lt-leb _ _ c.if-command-ge17.false ∙ route_no _ c.if-command-ge17.false
