-- The card reader from the front of the list: `front t at n f links` is what the bytes t give, which stand from `at` on behind the head.
--     front_is      the reader that comes to `at` gives what the bytes from there on give
--     card_fits     a card whose n and f fit gives what follows them, one whose n and f do not is refused 5 at place 0 (card_range)
-- Assumes nothing.
use mathlib.Core.Path.{◌≡◌, refl, sym, ap, ◌∙◌}
use mathlib.Core.Bool.{cond, true, false}
use mathlib.Core.List.{List, [], ◌∷◌}
use Prim.Native.Nat.{ℕ, ◌+◌, ◌-◌, ◌≤◌, ◌<◌}
use native.Mathlib.Nat.{add-zero}
use native.Mathlib.Omega.{arith}
use lib.ListN.{length, get_or, drop, length-drop}
use lib.Seq.{get_or-drop, drop-drop}
use lib.Dec.{eqb}
use borrow.Author.Tests.{eqb-true, eqb-false}
use Rattle.facts.proofs.Bools.{cases}
use Rattle.refusal.specs.Refused.{card}
use Rattle.network.specs.Links.{Links, no_links, with_link}
use Rattle.network.specs.Card.{Network, network, refused, head_fits, link_fits, turned_back, step_at, read_card}
use Rattle.network.specs.Places.{At}
use Rattle.network.proofs.Reading.{reading_starts, reading_answer, reading_goes, step_none, step_unknown, step_rest, whole_short, end_trailing, end_read, head_cut, head_again, head_goes, head_range, link_range, link_goes}

unfoldable pub front : List ℕ → (at n f : ℕ) → Links → Network
front [] at n f links = refused (card 2 at)
front (c ∷ []) at n f links = cond (eqb c 3) (network n f links) (refused (card 2 at))
front (c ∷ u ∷ []) at n f links = cond (eqb c 3) (refused (card 3 (at + 1))) (refused (card 2 at))
front (c ∷ u ∷ v ∷ t) at n f links =
    cond (eqb c 3) (refused (card 3 (at + 1)))
    (cond (eqb c 1) (refused (card 4 at))
    (cond (eqb c 2) (cond (link_fits n u v) (front t (at + 3) n f (with_link links u v)) (refused (card 5 at)))
    (refused (card 2 at))))

-- a link at the front, and what follows it
module _ (u v : ℕ) (t : List ℕ) (at n f : ℕ) (links : Links) where
  pub front_fits : link_fits n u v ≡ true → front (2 ∷ u ∷ v ∷ t) at n f links ≡ front t (at + 3) n f (with_link links u v)
  unfolding front
  front_fits q = simp q

  pub front_range : link_fits n u v ≡ false → front (2 ∷ u ∷ v ∷ t) at n f links ≡ refused (card 5 at)
  unfolding front
  front_range q = simp q

-- fewer than three bytes, and not the end
cut : (s : List ℕ) (at n f : ℕ) (links : Links) → at < length s → length s - at < 3 → (get_or s at 0 ≡ 3 → ⊥) → step_at s at n f links ≡ turned_back 2 at
cut s at n f links h k x =
    cases (eqb (get_or s at 0) 1)
    (λ e. head_cut s at n f links h (eqb-true (get_or s at 0) 1 e) k)
    (λ e. step_rest s at n f links h (sym (whole_short s at k)) x (eqb-false (get_or s at 0) 1 e))

-- the bytes from `at` on, one by one
module _ (s t : List ℕ) (at : ℕ) (e : drop at s ≡ t) where
  left : length s - at ≡ length t
  left = sym (length-drop at s) ∙ ap length e

  byte : (j : ℕ) → get_or s (at + j) 0 ≡ get_or t j 0
  byte j = sym (get_or-drop at s j 0) ∙ ap (λ (l : List ℕ). get_or l j 0) e

  first : get_or s at 0 ≡ get_or t 0 0
  first = ap (λ (i : ℕ). get_or s i 0) (sym (add-zero at)) ∙ byte 0

  past : drop (at + 3) s ≡ drop 3 t
  past = sym (drop-drop 3 at s) ∙ ap (drop 3) e

module _ {s : List ℕ} {at n f : ℕ} {links : Links} (r : At s at n f links) (z : 0 < at) where
  -- the reader ends here
  turns : (number place : ℕ) → step_at s at n f links ≡ turned_back number place → read_card s ≡ refused (card number place)
  turns number place q = sym (reading_answer r (refused (card number place)) q)

  -- a link, and what follows it
  links_on : (u v : ℕ) → get_or s at 0 ≡ 2 → get_or s (at + 1) 0 ≡ u → get_or s (at + 2) 0 ≡ v → 3 ≤ length s - at → link_fits n u v ≡ true → At s (at + 3) n f (with_link links u v)
  unfolding with_link
  links_on u v two is-u is-v room fits =
      reading_goes r (at + 3) n f (with_link links u v)
      (rw (is-u, is-v) at (link_goes s at n f links (omega arith) two room (omega arith) (rw (is-u, is-v) fits))) (omega arith) (omega arith)

  links_out : (u v : ℕ) → get_or s at 0 ≡ 2 → get_or s (at + 1) 0 ≡ u → get_or s (at + 2) 0 ≡ v → 3 ≤ length s - at → link_fits n u v ≡ false → read_card s ≡ refused (card 5 at)
  links_out u v two is-u is-v room fits = turns 5 at (link_range s at n f links (omega arith) two room (omega arith) (rw (is-u, is-v) fits))

pub front_is : (t s : List ℕ) (at n f : ℕ) (links : Links) → At s at n f links → 0 < at → drop at s ≡ t → read_card s ≡ front t at n f links
unfolding front
front_is [] s at n f links r z e = let l = left s [] at e in turns r z 2 at (step_none s at n f links (omega arith))
front_is (c ∷ []) s at n f links r z e =
    let l = left s (c ∷ []) at e in
    let b = first s (c ∷ []) at e in
    cases (eqb c 3)
    (λ q. rw q (sym (reading_answer r (network n f links) (end_read s at n f links (omega arith) (b ∙ eqb-true c 3 q) z (omega arith)))))
    (λ q. rw q (turns r z 2 at (cut s at n f links (omega arith) (omega arith) (λ w. eqb-false c 3 q (sym b ∙ w)))))
front_is (c ∷ u ∷ []) s at n f links r z e =
    let l = left s (c ∷ u ∷ []) at e in
    let b = first s (c ∷ u ∷ []) at e in
    cases (eqb c 3)
    (λ q. rw q (turns r z 3 (at + 1) (end_trailing s at n f links (omega arith) (b ∙ eqb-true c 3 q) z (omega arith))))
    (λ q. rw q (turns r z 2 at (cut s at n f links (omega arith) (omega arith) (λ w. eqb-false c 3 q (sym b ∙ w)))))
front_is (c ∷ u ∷ v ∷ t) s at n f links r z e =
    let l = left s (c ∷ u ∷ v ∷ t) at e in
    let b = first s (c ∷ u ∷ v ∷ t) at e in
    let b' = byte s (c ∷ u ∷ v ∷ t) at e 1 in
    let b'' = byte s (c ∷ u ∷ v ∷ t) at e 2 in
    let h : at < length s = omega arith in
    let k : 3 ≤ length s - at = omega arith in
    cases (eqb c 3)
    (λ q. rw q (turns r z 3 (at + 1) (end_trailing s at n f links h (b ∙ eqb-true c 3 q) z (omega arith))))
    λ q. cases (eqb c 1)
    (λ w. rw (q, w) (turns r z 4 at (head_again s at n f links h (b ∙ eqb-true c 1 w) k z)))
    λ w. cases (eqb c 2)
    (λ x. let two = b ∙ eqb-true c 2 x in cases (link_fits n u v)
    (λ y. rw (q, w, x, y) (front_is t s (at + 3) n f (with_link links u v) (links_on r z u v two b' b'' k y) (omega arith) (past s (c ∷ u ∷ v ∷ t) at e)))
    (λ y. rw (q, w, x, y) (links_out r z u v two b' b'' k y)))
    λ x. rw (q, w, x) (turns r z 2 at (step_unknown s at n f links h (λ o. eqb-false c 3 q (sym b ∙ o)) (λ o. eqb-false c 1 w (sym b ∙ o)) (λ o. eqb-false c 2 x (sym b ∙ o))))

-- a card from its head on
module _ (n f : ℕ) (t : List ℕ) (h : length (1 ∷ n ∷ f ∷ t) ≤ 1024) where
  pub card_fits : head_fits n f ≡ true → read_card (1 ∷ n ∷ f ∷ t) ≡ front t 3 n f no_links
  card_fits q =
      let s : List ℕ = 1 ∷ n ∷ f ∷ t in
      let r = reading_starts s h in
      front_is t s 3 n f no_links (reading_goes r 3 n f no_links (head_goes s 0 0 0 no_links (omega arith) refl (omega arith) refl true (sym q) refl) (omega arith) (omega arith)) (omega arith) refl

  pub card_range : head_fits n f ≡ false → read_card (1 ∷ n ∷ f ∷ t) ≡ refused (card 5 0)
  card_range q =
      let s : List ℕ = 1 ∷ n ∷ f ∷ t in
      sym (reading_answer (reading_starts s h) (refused (card 5 0)) (head_range s 0 0 0 no_links (omega arith) refl (omega arith) refl false (sym q) refl))
