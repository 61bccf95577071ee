-- The printed card: it says the network in ascending order, so it is read as that network, and printed again as itself; it is short, and stands in
-- front in the lent buffer. Assumes nothing.
use mathlib.Core.Path.{◌≡◌, refl, sym, ap, ◌∙◌}
use mathlib.Core.List.{List}
use Prim.Native.Nat.{ℕ, ◌+◌, ◌*◌, ◌≤◌}
use native.Mathlib.Omega.{arith}
use lib.ListN.{length, drop}
use lib.Seq.{take_at, drop_at}
use lib.Dec.{ltb}
use borrow.Author.Tests.{le-ltb}
use Rattle.facts.proofs.Bools.{cases}
use Rattle.network.specs.Links.{Links}
use Rattle.network.specs.Card.{Network, network, refused, read_card}
use Rattle.network.specs.Proper.{Proper}
use Rattle.network.proofs.Networks.{card_proper}
use Rattle.printer.specs.Print.{Link, whole_card, ascending, print_card, clean_of, clean_card, wrote, fitting, print_of, print_into, printed_in}
use Rattle.printer.proofs.CleanCard.{bytes_three, clean_long}
use Rattle.cards.specs.Twins.{SameLinks}
use Rattle.cards.specs.Said.{Marks, Says}
use Rattle.cards.specs.Clean.{Clean, PrintsClean, ReadsBack, PrintsAgain, PrintsShort, PrintsInFront}
use Rattle.cards.proofs.Ordered.{pairs_all, pairs_only, pairs_ascend, pairs_few, order_one}
use Rattle.cards.proofs.Said.{read_as_said}
use Rattle.cards.proofs.Seen.{read_alike}

-- head, end, and at most 56 links
print_short : (n f : ℕ) (links : Links) → Proper n f links → length (print_card n f links) ≤ 4 + 3 * 56
print_short n f links p =
    let a = clean_long n f links in
    let b = bytes_three (ascending links) in
    let c = pairs_few links p.other in
    omega arith

-- two lists with the same marks have the same links
marks_meet : (links : Links) (xs ys : List Link) → Marks links xs → Marks links ys → SameLinks xs ys
marks_meet links xs ys m k x = (λ i. k.only x.0 x.1 (m.all x.0 x.1 i), λ i. m.only x.0 x.1 (k.all x.0 x.1 i))

module _ (s : List ℕ) (n f : ℕ) (links : Links) (e : read_card s ≡ network n f links) where
  proper : Proper n f links
  proper = card_proper s n f links e

  says : Says s n f links
  says = (read_as_said s n f links).0 e

  -- the links given, each once and in order
  sorted : Marks links (ascending links)
  sorted =
      let m = says.marked in
      let few = proper.most in
      record {
        rows = m.rows;
        marks = m.marks;
        only = λ u v q. let a = proper.from u v q in let b = proper.to u v q in pairs_all links u v (omega arith) (omega arith) q;
        all = λ u v k. pairs_only links u v k;
      }

  print_says : Says (print_card n f links) n f links
  unfolding print_card
  print_says =
      let w = says in
      let l = print_short n f links proper in
      record {
        given = ascending links;
        bytes = refl;
        short = omega arith;
        least = w.least;
        most = w.most;
        bound = w.bound;
        proper = λ x m. let q = pairs_only links x.0 x.1 m in (proper.from x.0 x.1 q, proper.to x.0 x.1 q, proper.other x.0 x.1 q);
        marked = sorted;
      }

  one_clean : (t : List ℕ) → Clean t n f links → t ≡ print_card n f links
  unfolding print_card
  one_clean t c =
      let w = c.says in
      w.bytes ∙ ap (whole_card n f) (order_one w.given (ascending links) c.order (pairs_ascend links) (marks_meet links w.given (ascending links) w.marked sorted))

pub prints_clean : PrintsClean
unfolding print_says
prints_clean s n f links e = (record { says = print_says s n f links e; order = pairs_ascend links }, one_clean s n f links e)

pub reads_back : ReadsBack
reads_back s n f links e = (read_as_said (print_card n f links) n f links).1 (print_says s n f links e)

pub prints_again : PrintsAgain
unfolding clean_card
prints_again s n f links e = let b = reads_back s n f links e in (rw b refl, read_alike (print_card n f links) s (b ∙ sym e))

pub prints_short : PrintsShort
unfolding print_into fitting
prints_short s n f links e lent h =
    let l = print_short n f links (card_proper s n f links e) in
    let fits : length (print_card n f links) ≤ length lent = omega arith in
    rw (e, le-ltb (length lent) (length (print_card n f links)) fits) refl

-- as many bytes are said to be written as the clean card has
wrote_all : (a : Network) (lent : List ℕ) (bytes : ℕ) → print_of a lent ≡ wrote bytes → length (clean_of a) ≡ bytes
unfolding fitting
wrote_all (network n f links) lent bytes e =
    cases (ltb (length lent) (length (print_card n f links)))
    (λ q. let w = rw q at e in cc)
    (λ q. let w = rw q at e in cc)
wrote_all (refused r) lent bytes e = cc

pub prints_in_front : PrintsInFront
unfolding clean_card print_into printed_in
prints_in_front s lent = (
  λ bytes e. let l = wrote_all (read_card s) lent bytes e in rw e (l, take_at (clean_of (read_card s)) (drop bytes lent) bytes l, drop_at (clean_of (read_card s)) (drop bytes lent) bytes l),
  λ r e. rw e refl,
)
