-- `two_way::older_rule` meets its contract. Assumes nothing.
use native.Mathlib.Omega.{arith}
use Rattle.two_way.specs.Quick.{servers_wanted, away_wanted}
use Rattle.two_way.proofs.Ruled.{rule_short, rule_enough}
use Rattle.two_way.proofs.older_rule.Goals as goal

pub returns-then-servers-wanted : goal.returns-then-servers-wanted
unfolding servers_wanted
returns-then-servers-wanted c = rule_short _ _ _ (omega arith)

pub returns : goal.returns
unfolding servers_wanted away_wanted
returns c = rule_enough _ _ _ (omega arith)
