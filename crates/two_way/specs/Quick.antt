-- The quick test of docs/FORMATS.md, by the older rule for two_way sites.
--     quick_test s  == whether the rule holds of the network of card s, with its two numbers; or the one refusal, the card's first
use Rattle.std.specs.Prelude.{Bool, cond, ◌&&◌, List, ℕ, ◌+◌, ◌*◌, leb}
use Rattle.refusal.specs.Refused.{Refused, call}
use Rattle.network.specs.Card.{Network, network, refused, read_card}
use Rattle.two_way.specs.Separation.{one_way, connectivity}

pub data Quick : Type 0 where
  ruled : (holds : Bool) (n least : ℕ) → Quick
  turned : Refused → Quick

-- the two numbers that the rule asks for
unfoldable pub servers_wanted : ℕ → ℕ
servers_wanted f = 3 * f + 1

unfoldable pub away_wanted : ℕ → ℕ
away_wanted f = 2 * f + 1

-- n is at least 3f + 1, and at least 2f + 1 servers must be taken away before the rest falls apart
unfoldable pub older_rule : (n f least : ℕ) → Bool
older_rule n f least = leb (servers_wanted f) n && leb (away_wanted f) least

abbrev pub quick_of : Network → Quick
quick_of (network n f links) =
    cond (one_way n links) (turned (call 15)) (ruled (older_rule n f (connectivity n links)) n (connectivity n links))
quick_of (refused r) = turned r

unfoldable pub quick_test : List ℕ → Quick
quick_test s = quick_of (read_card s)
