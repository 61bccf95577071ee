-- What a card says, with no reader: 01 n f, a list of links in any order and as often as one likes, 03, and no more than 1,024 bytes.
--     Joins n x            <-> link x joins two different servers of n
--     Marks links xs       <-> links are eight rows of eight marks, one for each link of xs and none beside them
--     Says s n f links     <-> card s says n, f and links
--     ReadAsSaid           <-> the card reader gives n, f and links for the cards that say them, and for no other
use Rattle.std.specs.Prelude.{◌≡◌, true, ℕ, ◌≤◌, ◌<◌, length, get_or}
use mathlib.Core.List.{List, [], Memᴰ}
use Rattle.facts.specs.Lists.{Each}
use Rattle.network.specs.Links.{Links, linked_in}
use Rattle.network.specs.Card.{network, read_card}
use Rattle.printer.specs.Print.{Link, whole_card}

abbrev pub Joins : ℕ → Link → Type 0
Joins n x = (x.0 < n) × (x.1 < n) × (x.0 ≡ x.1 → ⊥)

pub record Marks (links : Links) (xs : List Link) : Type 0 where
  pub rows : length links ≡ 8
  pub marks : (u : ℕ) → u < 8 → length (get_or links u []) ≡ 8
  pub only : (u v : ℕ) → linked_in links u v ≡ true → Memᴰ (u, v) xs
  pub all : (u v : ℕ) → Memᴰ (u, v) xs → linked_in links u v ≡ true

pub record Says (s : List ℕ) (n f : ℕ) (links : Links) : Type 0 where
  pub given : List Link
  pub bytes : s ≡ whole_card n f given
  pub short : length s ≤ 1024
  pub least : 2 ≤ n
  pub most : n ≤ 8
  pub bound : f ≤ 2
  pub proper : Each (Joins n) given
  pub marked : Marks links given

abbrev pub ReadAsSaid : Type 0
ReadAsSaid = (s : List ℕ) (n f : ℕ) (links : Links) → (read_card s ≡ network n f links → Says s n f links) × (Says s n f links → read_card s ≡ network n f links)
