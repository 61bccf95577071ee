-- What a user of the network crate relies on: the card reader's network is proper, and its rows are its links. Theorem 1 is in `condition`.
--     card_proper   n is 2 to 8, f is 0 to 2, each link joins two different servers
--     rows_linked   row u has v exactly if there is a link from u to v
-- Assumes nothing.
use mathlib.Core.Path.{◌≡◌}
use mathlib.Core.List.{List}
use Prim.Native.Nat.{ℕ}
use lib.ListN.{get_or}
use Rattle.sets.specs.Sets.{has}
use Rattle.network.specs.Links.{Links, linked_in}
use Rattle.network.specs.Rows.{rows_of}
use Rattle.network.specs.Card.{network, read_card}
use Rattle.network.specs.Proper.{Proper}
use Rattle.network.proofs.Networks
use Rattle.network.proofs.LinkRows

pub card_proper : (s : List ℕ) (n f : ℕ) (links : Links) → read_card s ≡ network n f links → Proper n f links
card_proper = Networks.card_proper

pub rows_linked : (s : List ℕ) (n f : ℕ) (links : Links) → read_card s ≡ network n f links → (u v : ℕ) → has (get_or (rows_of (linked_in links)) u 0) v ≡ linked_in links u v
rows_linked s n f links e = LinkRows.rows_linked n f links (card_proper s n f links e)
