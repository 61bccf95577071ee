-- `two_way::by_rule` meets its contract. Assumes nothing.
use mathlib.Core.Path.{◌≡◌, sym, ◌∙◌}
use Rattle.two_way.specs.Separation.{one_way}
use Rattle.two_way.proofs.Returns.{unlike_is}
use Rattle.two_way.proofs.Ruled.{quick_one_way, quick_ruled}
use Rattle.two_way.proofs.by_rule.Goals as goal
use Rattle.two_way.proofs.by_rule.Goals.{After-unlike}

-- what is compared is whether some link has no return
compared : (c : After-unlike) → c.unlike.result ≡ one_way c.args.network.n c.args.network.links
compared c = c.unlike.ensures ∙ unlike_is _ _ _ c.args.network.proper _ _ c.rows-rows.ensures c.source_rows-sources.ensures

pub returns-then-unlike : goal.returns-then-unlike
returns-then-unlike c = quick_one_way _ _ _ (sym (compared (goal.at.returns-then-unlike c).After-unlike) ∙ c.if-unlike.true)

pub least_taken-least-requires : goal.least_taken-least-requires
least_taken-least-requires c = (sym (compared (goal.at.least_taken-least-requires c).After-unlike) ∙ c.if-unlike.false, c.source_rows-sources.ensures)

pub returns : goal.returns
returns c = quick_ruled _ _ _ (sym (compared (goal.at.returns c).After-unlike) ∙ c.if-unlike.false) _ c.least_taken-least.ensures _ c.older_rule-holds.ensures
