-- Cards of links and the end: one is read exactly if its head and all its links fit, as the network of their marks, and else refused 5.
-- Assumes nothing.
use mathlib.Core.Path.{◌≡◌, refl, sym, ap, ◌∙◌}
use mathlib.Core.Logic.{⊎_elim}
use mathlib.Core.Bool.{Bool, cond, true, false, ◌&&◌}
use mathlib.Core.List.Memᴰ
use mathlib.Core.List.{List, [], ◌∷◌, ◌++◌, Memᴰ}
use Prim.Native.Nat.{ℕ, ◌+◌, ◌≤◌}
use lib.ListN.{length}
use Rattle.facts.proofs.Bools.{cases, clash, and_left, and_right, both, same}
use Rattle.refusal.specs.Refused.{card}
use Rattle.network.specs.Links.{Links, no_links, with_link}
use Rattle.network.specs.Card.{Network, network, refused, head_fits, link_fits, read_card}
use Rattle.printer.specs.Print.{Link, link_bytes, card_bytes, whole_card}
use Rattle.cards.specs.Twins.{unplaced, SameLinks, SetAlone}
use Rattle.cards.proofs.Marking.{marks_of, marked_same}
use Rattle.cards.proofs.Front.{front, front_fits, front_range, card_fits, card_range}

unfoldable pub all_fit : ℕ → List Link → Bool
all_fit n [] = true
all_fit n (x ∷ xs) = link_fits n x.0 x.1 && all_fit n xs

pub each_fits : (n : ℕ) (xs : List Link) → all_fit n xs ≡ true → (x : Link) → Memᴰ x xs → link_fits n x.0 x.1 ≡ true
unfolding all_fit
each_fits n [] e x m = elim m [ ]
each_fits n (y ∷ ys) e x m =
    ⊎_elim
    (λ (z : x ≡ y). rw z (and_left (link_fits n y.0 y.1) (all_fit n ys) e))
    (λ w. each_fits n ys (and_right (link_fits n y.0 y.1) (all_fit n ys) e) x w)
    (Memᴰ.cases_cons m)

pub fit_all : (n : ℕ) (xs : List Link) → ((x : Link) → Memᴰ x xs → link_fits n x.0 x.1 ≡ true) → all_fit n xs ≡ true
unfolding all_fit
fit_all n [] h = refl
fit_all n (x ∷ xs) h =
    both (link_fits n x.0 x.1) (all_fit n xs) (h x (Memᴰ.head refl)) (fit_all n xs (λ y m. h y (Memᴰ.tail m)))

fit_same : (n : ℕ) (xs ys : List Link) → SameLinks xs ys → all_fit n xs ≡ all_fit n ys
fit_same n xs ys s =
    same (all_fit n xs) (all_fit n ys)
    (λ e. fit_all n ys (λ x m. each_fits n xs e x ((s x).1 m)))
    (λ e. fit_all n xs (λ x m. each_fits n ys e x ((s x).0 m)))

-- what a whole card gives
given : ℕ → ℕ → List Link → Network
given n f xs = cond (head_fits n f && all_fit n xs) (network n f (marks_of xs no_links)) (refused (card 5 0))

pub whole_read : (xs : List Link) (at n f : ℕ) (links : Links) → all_fit n xs ≡ true → front (link_bytes xs ++ 3 ∷ []) at n f links ≡ network n f (marks_of xs links)
unfolding link_bytes marks_of all_fit front
whole_read [] at n f links e = refl
whole_read (x ∷ xs) at n f links e =
    front_fits x.0 x.1 (link_bytes xs ++ 3 ∷ []) at n f links (and_left (link_fits n x.0 x.1) (all_fit n xs) e)
    ∙ whole_read xs (at + 3) n f (with_link links x.0 x.1) (and_right (link_fits n x.0 x.1) (all_fit n xs) e)

whole_range : (xs : List Link) (at n f : ℕ) (links : Links) → all_fit n xs ≡ false → unplaced (front (link_bytes xs ++ 3 ∷ []) at n f links) ≡ refused (card 5 0)
unfolding link_bytes all_fit
whole_range [] at n f links e = clash true refl e
whole_range (x ∷ xs) at n f links e =
    cases (link_fits n x.0 x.1)
    (λ q. ap unplaced (front_fits x.0 x.1 (link_bytes xs ++ 3 ∷ []) at n f links q) ∙ whole_range xs (at + 3) n f (with_link links x.0 x.1) (rw q at e))
    (λ q. ap unplaced (front_range x.0 x.1 (link_bytes xs ++ 3 ∷ []) at n f links q))

whole_gives : (n f : ℕ) (xs : List Link) → length (whole_card n f xs) ≤ 1024 → unplaced (read_card (whole_card n f xs)) ≡ given n f xs
unfolding card_bytes given
whole_gives n f xs h =
    let t = link_bytes xs ++ 3 ∷ [] in
    cases (head_fits n f)
    (λ q. ap unplaced (card_fits n f t h q) ∙ cases (all_fit n xs)
    (λ w. rw (q, w) (ap unplaced (whole_read xs 3 n f no_links w)))
    (λ w. rw (q, w) (whole_range xs 3 n f no_links w)))
    (λ q. rw q (ap unplaced (card_range n f t h q)))

given_same : (n f : ℕ) (xs ys : List Link) → SameLinks xs ys → given n f xs ≡ given n f ys
unfolding given
given_same n f xs ys s = rw (fit_same n xs ys s, marked_same xs ys no_links s) refl

pub whole_same : SetAlone
whole_same n f xs ys s h k = whole_gives n f xs h ∙ given_same n f xs ys s ∙ sym (whole_gives n f ys k)
