-- The card reader gives what the card says, and nothing else is said: a card that is read is its head, whole links and the end, from the front on
-- (`front_said`), and a card of these is read (`Whole`). Assumes nothing.
use mathlib.Core.Path.{◌≡◌, refl, sym, ap, ◌∙◌}
use mathlib.Core.Logic.{◌⊎◌, inl, inr}
use mathlib.Core.Bool.{true, false}
use mathlib.Core.List.{List, [], ◌∷◌, ◌++◌}
use Prim.Native.Nat.{ℕ, ◌+◌, ◌≤◌}
use native.Mathlib.Omega.{arith}
use lib.ListN.{length, get_or}
use lib.Dec.{eqb, ltb}
use borrow.Author.Tests.{lt-ltb, le-ltb, ne_eqb, ltb-true, eqb-true, eqb-false}
use Rattle.facts.specs.Lists.{Each}
use Rattle.facts.proofs.Bools.{cases, both, bools}
use Rattle.network.specs.Links.{Links, no_links, with_link}
use Rattle.network.specs.Card.{network, head_fits, link_fits, read_card}
use Rattle.network.specs.Places.{At}
use Rattle.network.specs.Proper.{Proper}
use Rattle.network.proofs.Reading.{reading_starts}
use Rattle.network.proofs.Accepted.{Accepted, Headed, Linked, Ended, outcome, accepted_short}
use Rattle.network.proofs.Networks.{unread, network_accepted, card_proper}
use Rattle.printer.specs.Print.{Link, link_bytes, card_bytes}
use Rattle.cards.specs.Said.{Joins, Says, ReadAsSaid}
use Rattle.cards.proofs.Marking.{marks_of}
use Rattle.cards.proofs.Front.{front, card_fits}
use Rattle.cards.proofs.Whole.{all_fit, each_fits, fit_all, whole_read}
use Rattle.cards.proofs.Marked.{marked_is, marks_one}

-- what a link command asks of its operands
fits_joins : (n : ℕ) (x : Link) → link_fits n x.0 x.1 ≡ true → Joins n x
unfolding link_fits
fits_joins n x e =
    let a : ltb x.0 n ≡ true = search bools in
    let b : ltb x.1 n ≡ true = search bools in
    let c : eqb x.0 x.1 ≡ false = search bools in
    (ltb-true x.0 n a, ltb-true x.1 n b, eqb-false x.0 x.1 c)

joins_fits : (n : ℕ) (x : Link) → Joins n x → link_fits n x.0 x.1 ≡ true
unfolding link_fits
joins_fits n x (a, b, c) = simp (lt-ltb x.0 n a, lt-ltb x.1 n b, ne_eqb x.0 x.1 c)

head_fits_lem : (n f : ℕ) → 2 ≤ n → n ≤ 8 → f ≤ 2 → head_fits n f ≡ true
unfolding head_fits
head_fits_lem n f a b c = simp (le-ltb n 2 a, le-ltb 8 n b, le-ltb 2 f c)

-- the bytes t behind the head are whole links that fit, and the end
record Ends (t : List ℕ) (n f : ℕ) (links : Links) (m g : ℕ) (read : Links) : Type 0 where
  given : List Link
  bytes : t ≡ link_bytes given ++ 3 ∷ []
  fit : all_fit n given ≡ true
  is : network n f (marks_of given links) ≡ network m g read

-- a link that fits, put in front
ends_link : (c u v : ℕ) (t : List ℕ) (n f : ℕ) (links : Links) (m g : ℕ) (read : Links) → c ≡ 2 → link_fits n u v ≡ true
    → Ends t n f (with_link links u v) m g read → Ends (c ∷ u ∷ v ∷ t) n f links m g read
unfolding link_bytes marks_of all_fit
ends_link c u v t n f links m g read two fits r =
    let b = r.bytes in
    record { given = (u, v) ∷ r.given; bytes = cc; fit = both (link_fits n u v) (all_fit n r.given) fits r.fit; is = r.is }

front_said : (t : List ℕ) (at n f : ℕ) (links : Links) (m g : ℕ) (read : Links) → front t at n f links ≡ network m g read → Ends t n f links m g read
unfolding front link_bytes marks_of all_fit
front_said [] at n f links m g read e = unread _ m g read e
front_said (c ∷ []) at n f links m g read e =
    cases (eqb c 3)
    (λ q. record { given = []; bytes = ap (λ (b : ℕ). b ∷ []) (eqb-true c 3 q); fit = refl; is = rw q at e })
    (λ q. unread _ m g read (rw q at e))
front_said (c ∷ u ∷ []) at n f links m g read e =
    cases (eqb c 3) (λ q. unread _ m g read (rw q at e)) (λ q. unread _ m g read (rw q at e))
front_said (c ∷ u ∷ v ∷ t) at n f links m g read e =
    let on = front_said t (at + 3) n f (with_link links u v) m g read in
    cases (eqb c 3)
    (λ q. unread _ m g read (rw q at e))
    λ q. cases (eqb c 1)
    (λ w. unread _ m g read (rw (q, w) at e))
    λ w. cases (eqb c 2)
    (λ x. cases (link_fits n u v)
    (λ y. ends_link c u v t n f links m g read (eqb-true c 2 x) y (on (rw (q, w, x, y) at e)))
    (λ y. unread _ m g read (rw (q, w, x, y) at e)))
    λ x. unread _ m g read (rw (q, w, x) at e)

-- the head of a card that is read
record Heads (s : List ℕ) : Type 0 where
  n : ℕ
  f : ℕ
  rest : List ℕ
  bytes : s ≡ 1 ∷ n ∷ f ∷ rest
  fits : head_fits n f ≡ true

three : (s : List ℕ) → 3 ≤ length s → get_or s 0 0 ≡ 1 → head_fits (get_or s 1 0) (get_or s 2 0) ≡ true → Heads s
three [] h e q = absurd (omega arith)
three (a ∷ []) h e q = absurd (omega arith)
three (a ∷ b ∷ []) h e q = absurd (omega arith)
three (a ∷ b ∷ c ∷ t) h e q = record { n = b; f = c; rest = t; bytes = ap (λ (x : ℕ). x ∷ b ∷ c ∷ t) e; fits = q }

head_said : (s : List ℕ) → Accepted s → Heads s
head_said s ok = go (outcome start ok)
  where
    start : At s 0 0 0 no_links
    start = reading_starts s (accepted_short s ok)

    go : Headed start ok ⊎ (Linked start ok ⊎ Ended start ok) → Heads s
    go (inl w) = three s w.room w.command w.fits
    go (inr (inl w)) = absurd (w.later refl)
    go (inr (inr w)) = absurd (w.later refl)

-- head and rest together, where n, f and the links are those that were read
said : (s : List ℕ) (n f : ℕ) (links : Links) → length s ≤ 1024 → Proper n f links → (a c : ℕ) (t : List ℕ) → s ≡ 1 ∷ a ∷ c ∷ t → Ends t a c no_links n f links → Says s n f links
unfolding card_bytes
said s n f links short p a c t b r =
    let is = r.is in
    let en : a ≡ n = cc in
    let ef : c ≡ f = cc in
    let el : marks_of r.given no_links ≡ links = cc in
    let few = p.most in
    let rest = r.bytes in
    let fit = r.fit in
    let joins : Each (Joins n) r.given = λ x m. fits_joins n x (each_fits n r.given (rw en at fit) x m) in
    record {
      given = r.given;
      bytes = cc;
      short = omega arith;
      least = p.least;
      most = p.most;
      bound = p.bound;
      proper = joins;
      marked = rw (← el) (marked_is r.given (λ x m. let j = joins x m in (omega arith, omega arith)));
    }

-- what is read of a card is what its head, its links and its end say
read_said : (s : List ℕ) (n f : ℕ) (links : Links) → read_card s ≡ network n f links → Says s n f links
unfolding card_bytes
read_said s n f links e =
    let ok = network_accepted s n f links e in
    let short = accepted_short s ok in
    let h = head_said s ok in
    let b = h.bytes in
    said s n f links short (card_proper s n f links e) h.n h.f h.rest b
    (front_said h.rest 3 h.n h.f no_links n f links (sym (card_fits h.n h.f h.rest (rw b at short) h.fits) ∙ (rw b at e)))

said_read : (s : List ℕ) (n f : ℕ) (links : Links) → Says s n f links → read_card s ≡ network n f links
unfolding card_bytes
said_read s n f links w =
    let xs = w.given in
    let t = link_bytes xs ++ 3 ∷ [] in
    let fit = fit_all n xs (λ x m. joins_fits n x (w.proper x m)) in
    let few = w.most in
    let marks = marked_is xs (λ x m. let j = w.proper x m in (omega arith, omega arith)) in
    let short = w.short in
    let b = w.bytes in
    ap read_card b ∙ card_fits n f t (rw b at short) (head_fits_lem n f w.least w.most w.bound) ∙ whole_read xs 3 n f no_links fit ∙ ap (network n f) (marks_one xs (marks_of xs no_links) links marks w.marked)

pub read_as_said : ReadAsSaid
read_as_said s n f links = (read_said s n f links, said_read s n f links)
