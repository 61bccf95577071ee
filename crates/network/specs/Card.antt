-- What the bytes of a card give, command by command from the front, each tested in the order of the table of docs/FORMATS.md.
--     read_card s  == the network n, f, links of the card, or its one refusal
-- 01 stands first and only there, so a command is the first one exactly at place 0.
use Rattle.std.specs.Prelude.{Bool, cond, not, ◌&&◌, List, ℕ, zero, suc, ◌+◌, length, get_or, eqb, ltb}
use Rattle.refusal.specs.Refused.{Refused, card}
use Rattle.network.specs.Links.{Links, no_links, with_link}

pub data Network : Type 0 where
  network : (n f : ℕ) → Links → Network
  refused : Refused → Network

-- after a command: the next place with n, f and the links so far, or the end
pub data Step : Type 0 where
  more : (at n f : ℕ) → Links → Step
  done : Network → Step

abbrev pub turned_back : ℕ → ℕ → Step
turned_back number place = done (refused (card number place))

-- n is 2 to 8, f is 0 to 2
unfoldable pub head_fits : ℕ → ℕ → Bool
head_fits n f = not (ltb n 2) && (not (ltb 8 n) && not (ltb 2 f))

-- u and v are two different servers
unfoldable pub link_fits : ℕ → ℕ → ℕ → Bool
link_fits n u v = ltb u n && (ltb v n && not (eqb u v))

-- 01 n f
unfoldable pub head_at : List ℕ → ℕ → Links → Step
head_at s at links =
    cond (ltb (length s) (at + 3)) (turned_back 2 at)
    (cond (not (eqb at 0)) (turned_back 4 at)
    (cond (head_fits (get_or s (at + 1) 0) (get_or s (at + 2) 0)) (more (at + 3) (get_or s (at + 1) 0) (get_or s (at + 2) 0) links)
    (turned_back 5 at)))

-- 02 u v; a link given again is one link, as its mark is set already
unfoldable pub link_at : List ℕ → ℕ → ℕ → ℕ → Links → Step
link_at s at n f links =
    cond (ltb (length s) (at + 3)) (turned_back 2 at)
    (cond (eqb at 0) (turned_back 4 at)
    (cond (not (link_fits n (get_or s (at + 1) 0) (get_or s (at + 2) 0))) (turned_back 5 at)
    (more (at + 3) n f (with_link links (get_or s (at + 1) 0) (get_or s (at + 2) 0)))))

-- 03
unfoldable pub end_at : List ℕ → ℕ → ℕ → ℕ → Links → Step
end_at s at n f links =
    cond (eqb at 0) (turned_back 4 at)
    (cond (ltb (at + 1) (length s)) (turned_back 3 (at + 1))
    (done (network n f links)))

-- the command at a place
unfoldable pub step_at : List ℕ → ℕ → ℕ → ℕ → Links → Step
step_at s at n f links =
    cond (not (ltb at (length s))) (turned_back 2 at)
    (cond (eqb (get_or s at 0) 3) (end_at s at n f links)
    (cond (eqb (get_or s at 0) 1) (head_at s at links)
    (cond (eqb (get_or s at 0) 2) (link_at s at n f links)
    (turned_back 2 at))))

-- the commands from a step on, at most k of them; a card has fewer commands than bytes
unfoldable pub commands : ℕ → List ℕ → Step → Network
commands zero s (done answer) = answer
commands zero s (more at n f links) = refused (card 2 at)
commands (suc k) s (done answer) = answer
commands (suc k) s (more at n f links) = commands k s (step_at s at n f links)

unfoldable pub read_card : List ℕ → Network
read_card s = cond (ltb 1024 (length s)) (refused (card 1 0)) (commands (suc (length s)) s (more 0 0 0 no_links))

-- n and f with no links, or the refusal: what is left of a network where its links are handed on apart
pub data Head : Type 0 where
  head : (n f : ℕ) → Head
  turned : Refused → Head

abbrev pub head_of : Network → Head
head_of (network n f links) = head n f
head_of (refused r) = turned r

-- the answer again, with the links
abbrev pub with_links : Head → Links → Network
with_links (head n f) links = network n f links
with_links (turned r) links = refused r

-- the links; none for a refused card
abbrev pub links_of : Network → Links
links_of (network n f links) = links
links_of (refused r) = no_links

-- what the lent links hold after the card was read: a refused card leaves them as they were
abbrev pub links_after : Network → Links → Links
links_after (network n f links) before = links
links_after (refused r) before = before
