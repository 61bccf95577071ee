-- The rule's answer, as the code puts it together.
--     rule-..     the two numbers
--     quick-..    the answer for a network
-- Assumes nothing.
use mathlib.Core.Path.{◌≡◌, sym, ap}
use mathlib.Core.Bool.{Bool, true, false}
use mathlib.Core.List.{List}
use Prim.Native.Nat.{ℕ, ◌≤◌, ◌<◌}
use lib.Dec.{leb}
use borrow.Author.Tests.{le-leb, lt-leb, leb-true}
use Rattle.facts.proofs.Bools.{and_left, and_right, both}
use Rattle.refusal.specs.Refused.{call}
use Rattle.network.specs.Links.{Links}
use Rattle.network.specs.Card.{network}
use Rattle.two_way.specs.Separation.{one_way, connectivity}
use Rattle.two_way.specs.Quick.{ruled, turned, servers_wanted, away_wanted, older_rule, quick_of}

module _ (n f least : ℕ) where
  pub rule_short : n < servers_wanted f → false ≡ older_rule n f least
  unfolding older_rule
  rule_short h = let e = lt-leb (servers_wanted f) n h in cc

  pub rule_enough : servers_wanted f ≤ n → leb (away_wanted f) least ≡ older_rule n f least
  unfolding older_rule
  rule_enough h = let e = le-leb (servers_wanted f) n h in cc

  pub rule_both : servers_wanted f ≤ n → away_wanted f ≤ least → older_rule n f least ≡ true
  unfolding older_rule
  rule_both h k = both (leb (servers_wanted f) n) (leb (away_wanted f) least) (le-leb (servers_wanted f) n h) (le-leb (away_wanted f) least k)

  pub rule_servers : older_rule n f least ≡ true → servers_wanted f ≤ n
  unfolding older_rule
  rule_servers e = leb-true (servers_wanted f) n (and_left (leb (servers_wanted f) n) (leb (away_wanted f) least) e)

  pub rule_away : older_rule n f least ≡ true → away_wanted f ≤ least
  unfolding older_rule
  rule_away e = leb-true (away_wanted f) least (and_right (leb (servers_wanted f) n) (leb (away_wanted f) least) e)

module _ (n f : ℕ) (links : Links) where
  pub quick_one_way : one_way n links ≡ true → turned (call 15) ≡ quick_of (network n f links)
  quick_one_way e = cc

  pub quick_ruled : one_way n links ≡ false → (least : ℕ) → least ≡ connectivity n links → (holds : Bool) → holds ≡ older_rule n f least → ruled holds n least ≡ quick_of (network n f links)
  quick_ruled e least l holds h = cc
