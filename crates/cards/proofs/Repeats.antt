-- A link given again finds its mark set, so that what follows it is read as it is without, three places later. Assumes nothing.
use mathlib.Core.Path.{◌≡◌, sym, ap, ◌∙◌}
use mathlib.Core.Logic.{◌⊎◌, inl, inr, ⊎_elim}
use mathlib.Core.Bool.{true}
use mathlib.Core.List.Memᴰ
use mathlib.Core.List.{List, [], ◌∷◌, ◌++◌, Memᴰ}
use Prim.Native.Nat.{ℕ, ◌+◌, ◌≤◌, ◌<◌}
use native.Mathlib.Omega.{arith}
use lib.ListN.{length, length-append}
use Rattle.facts.proofs.Bools.{cases}
use Rattle.refusal.specs.Refused.{card}
use Rattle.network.specs.Links.{Links, no_links, with_link}
use Rattle.network.specs.Card.{Network, refused, head_fits, link_fits}
use Rattle.printer.specs.Print.{Link, link_bytes, card_bytes}
use Rattle.printer.proofs.CleanCard.{bytes_three}
use Rattle.cards.specs.Twins.{behind, moved, Again}
use Rattle.cards.proofs.Marking.{with_twice, with_swap}
use Rattle.cards.proofs.Front.{front, front_fits, front_range, card_fits, card_range}
use Rattle.cards.proofs.Later.{before_stays, front_later}

-- a link that is read already: it fits, and its mark is set
abbrev Read : ℕ → Links → Link → Type 0
Read n links x = (link_fits n x.0 x.1 ≡ true) × (with_link links x.0 x.1 ≡ links)

-- before the links xs are read, x is read already, or is one of them
abbrev Due : ℕ → Links → Link → List Link → Type 0
Due n links x xs = Memᴰ x xs ⊎ Read n links x

-- and so it is once the first of them is read
due_on : (n : ℕ) (links : Links) (x y : Link) (ys : List Link) → link_fits n y.0 y.1 ≡ true → Due n links x (y ∷ ys) → Due n (with_link links y.0 y.1) x ys
due_on n links x y ys fits (inl m) =
    ⊎_elim (λ (e : x ≡ y). inr (rw e (fits, with_twice links y.0 y.1))) (λ later. inl later) (Memᴰ.cases_cons m)
due_on n links x y ys fits (inr r) =
    inr (r.0, with_swap links y.0 y.1 x.0 x.1 ∙ ap (λ (l : Links). with_link l y.0 y.1) r.1)

-- a refusal before the three bytes keeps its place
kept : (k place : ℕ) (a b : Network) → place < k → a ≡ refused (card 5 place) → b ≡ refused (card 5 place) → a ≡ moved (behind k) b
kept k place a b h p q = p ∙ ap (λ (at : ℕ). refused (card 5 at)) (sym (before_stays k place h)) ∙ ap (moved (behind k)) (sym q)

module _ (x : Link) (rest : List ℕ) (n f k : ℕ) where
  front_again : (xs : List Link) (at : ℕ) (links : Links) → k ≡ at + length (link_bytes xs) → Due n links x xs
      → front (link_bytes (xs ++ x ∷ []) ++ rest) at n f links ≡ moved (behind k) (front (link_bytes xs ++ rest) at n f links)
  unfolding link_bytes
  front_again [] at links e (inl m) = elim m [ ]
  front_again [] at links e (inr r) =
      front_fits x.0 x.1 rest at n f links r.0 ∙ ap (front rest (at + 3) n f) r.1 ∙ front_later rest at n f links k (omega arith)
  front_again (y ∷ ys) at links e due =
      let more = link_bytes (ys ++ x ∷ []) ++ rest in
      let less = link_bytes ys ++ rest in
      cases (link_fits n y.0 y.1)
      (λ q. front_fits y.0 y.1 more at n f links q
      ∙ front_again ys (at + 3) (with_link links y.0 y.1) (omega arith) (due_on n links x y ys q due)
      ∙ ap (moved (behind k)) (sym (front_fits y.0 y.1 less at n f links q)))
      (λ q. kept k at _ _ (omega arith) (front_range y.0 y.1 more at n f links q) (front_range y.0 y.1 less at n f links q))

bytes_more : (xs : List Link) (x : Link) → length (link_bytes (xs ++ x ∷ [])) ≡ length (link_bytes xs) + 3
bytes_more xs x =
    let a = bytes_three (xs ++ x ∷ []) in
    let b = bytes_three xs in
    let c = length-append xs (x ∷ []) in
    omega arith

-- how long the two cards are
lengths : (n f : ℕ) (xs : List Link) (x : Link) (rest : List ℕ) → length (card_bytes n f (xs ++ x ∷ []) rest) ≤ 1024
    → (length (card_bytes n f xs []) ≡ 3 + length (link_bytes xs)) × (length (card_bytes n f xs rest) ≤ 1024)
unfolding card_bytes
lengths n f xs x rest h =
    let a = bytes_more xs x in
    let b = length-append (link_bytes (xs ++ x ∷ [])) rest in
    let c = length-append (link_bytes xs) rest in
    let d = length-append (link_bytes xs) [] in
    (omega arith, omega arith)

pub card_again : Again
unfolding card_bytes
card_again n f xs x rest m h =
    let k = length (card_bytes n f xs []) in
    let more = link_bytes (xs ++ x ∷ []) ++ rest in
    let less = link_bytes xs ++ rest in
    let l = lengths n f xs x rest h in
    cases (head_fits n f)
    (λ q. card_fits n f more h q ∙ front_again x rest n f k xs 3 no_links l.0 (inl m) ∙ ap (moved (behind k)) (sym (card_fits n f less l.1 q)))
    (λ q. kept k 0 _ _ (omega arith) (card_range n f more h q) (card_range n f less l.1 q))
