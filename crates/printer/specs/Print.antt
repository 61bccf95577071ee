-- The clean card of a network: 01 n f, the links ascending by u, then by v, and 03. What is written of it into a lent buffer.
--     print_card n f links  == its bytes
--     clean_card s          == those of the network of card s
--     print_into s lent     == how many they are; or the one refusal, the card's before the buffer's
--     printed_in s lent     == the lent bytes after it: the clean card, then the later bytes as they were; refused, all as they were
use Rattle.std.specs.Prelude.{cond, List, [], ◌∷◌, ◌++◌, ℕ, zero, suc, ◌/◌, ◌%◌, ltb, length, drop}
use Rattle.refusal.specs.Refused.{Refused, call}
use Rattle.network.specs.Links.{Links, linked_in}
use Rattle.network.specs.Card.{Network, network, refused, read_card}

-- from u to v
abbrev pub Link : Type 0
Link = ℕ × ℕ

-- 02 u v for each link
unfoldable pub link_bytes : List Link → List ℕ
link_bytes [] = []
link_bytes (x ∷ xs) = 2 ∷ x.0 ∷ x.1 ∷ link_bytes xs

-- 01 n f, the links, and what follows them
unfoldable pub card_bytes : (n f : ℕ) → List Link → List ℕ → List ℕ
card_bytes n f xs rest = 1 ∷ n ∷ f ∷ (link_bytes xs ++ rest)

-- the same with the end and nothing more
abbrev pub whole_card : (n f : ℕ) → List Link → List ℕ
whole_card n f xs = card_bytes n f xs (3 ∷ [])

-- the links among the k pairs from pair i on; pair i is u = i / 8 and v = i % 8, so that pairs ascend by u, then by v
unfoldable pub links_among : (k i : ℕ) → Links → List Link
links_among zero i links = []
links_among (suc k) i links =
    let later = links_among k (suc i) links in
    cond (linked_in links (i / 8) (i % 8)) ((i / 8, i % 8) ∷ later) later

-- those among all pairs of the eight servers that there can be
unfoldable pub ascending : Links → List Link
ascending links = links_among 64 0 links

unfoldable pub print_card : (n f : ℕ) → Links → List ℕ
print_card n f links = whole_card n f (ascending links)

-- the clean card of what a card gives; nothing where it is refused
abbrev pub clean_of : Network → List ℕ
clean_of (network n f links) = print_card n f links
clean_of (refused r) = []

unfoldable pub clean_card : List ℕ → List ℕ
clean_card s = clean_of (read_card s)

pub data Print : Type 0 where
  wrote : (bytes : ℕ) → Print
  unwritten : Refused → Print

-- a lent buffer shorter than the card to be written is refused
unfoldable pub fitting : List ℕ → List ℕ → Print
fitting clean lent = cond (ltb (length lent) (length clean)) (unwritten (call 14)) (wrote (length clean))

abbrev pub print_of : Network → List ℕ → Print
print_of (network n f links) lent = fitting (print_card n f links) lent
print_of (refused r) lent = unwritten r

unfoldable pub print_into : List ℕ → List ℕ → Print
print_into s lent = print_of (read_card s) lent

abbrev pub after_print : Print → List ℕ → List ℕ → List ℕ
after_print (wrote bytes) clean lent = clean ++ drop bytes lent
after_print (unwritten r) clean lent = lent

unfoldable pub printed_in : List ℕ → List ℕ → List ℕ
printed_in s lent = after_print (print_into s lent) (clean_card s) lent
