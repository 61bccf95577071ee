-- What the reader's answer says of the split test: a refusal is handed on, and the network gives the first bad split.
-- Assumes nothing.
use mathlib.Core.Path.{◌≡◌, sym, ap}
use mathlib.Core.List.{List}
use Prim.Native.Nat.{ℕ}
use Rattle.refusal.specs.Refused.{Refused}
use Rattle.network.specs.Links.{Links}
use Rattle.network.specs.Card.{read_card, head, turned, head_of, links_after}
use Rattle.network.proofs.Heads.{network_is, refused_of}
use Rattle.split.specs.Split.{unread, first_bad, split_of, split_test}

pub refused_split : (s : List ℕ) (r : Refused) → head_of (read_card s) ≡ turned r → unread r ≡ split_test s
unfolding split_test
refused_split s r e = ap split_of (sym (refused_of (read_card s) r e))

pub network_split : (s : List ℕ) (n f : ℕ) (lent links : Links) → head_of (read_card s) ≡ head n f → links ≡ links_after (read_card s) lent → first_bad n f links ≡ split_test s
unfolding split_test
network_split s n f lent links e q = ap split_of (sym (network_is (read_card s) n f lent links e q))
