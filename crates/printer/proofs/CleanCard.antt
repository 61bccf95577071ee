-- The clean card in the lent buffer, and what the answer says of it.
--     bytes_three      a link takes three bytes
--     clean_long       how many bytes the clean card has
--     laid_long        head and links written leave the buffer as long as it was
--     clean_refused    a buffer that is shorter is refused, any other takes the card (clean_fits)
--     clean_written    head, links and end laid one after another over the front of the buffer are the card, then the later bytes as they were
--     printed-..       what is said of n, f and links is said of the card that was read
-- Assumes nothing.
use mathlib.Core.Path.{◌≡◌, refl, sym, ap, ◌∙◌}
use mathlib.Core.List.{List, [], ◌∷◌, ◌++◌}
use Prim.Native.Nat.{ℕ, ◌+◌, ◌-◌, ◌*◌, ◌≤◌, ◌<◌}
use native.Mathlib.Omega.{arith}
use lib.ListN.{length, set, drop, length-append, length-set}
use borrow.Author.Tests.{lt-ltb, le-ltb}
use Rattle.std.specs.Prelude.{Result, Err}
use Rattle.facts.specs.Laid.{laid}
use Rattle.facts.proofs.Stores.{laid_append, length_laid, laid_whole}
use Rattle.refusal.specs.Refused.{refusal_of, call}
use Rattle.refusal.specs.declared.Refusal.{Refusal}
use Rattle.network.specs.Links.{Links}
use Rattle.network.specs.Card.{network, refused, read_card}
use Rattle.printer.specs.Print.{Link, link_bytes, card_bytes, ascending, print_card, clean_card, wrote, unwritten, fitting, print_into, after_print, printed_in}
use Rattle.printer.specs.Answers.{printed_of, Printing}

-- head and links laid leave the buffer as long as it was
pub laid_long : (old : List ℕ) (n f : ℕ) (xs lent : List ℕ) → lent ≡ laid 3 xs (set (set (set old 0 1) 1 n) 2 f) → length lent ≡ length old
laid_long old n f xs lent e = ap length e ∙ length_laid 3 xs (set (set (set old 0 1) 1 n) 2 f) ∙ simp length-set

pub bytes_three : (xs : List Link) → length (link_bytes xs) ≡ 3 * length xs
unfolding link_bytes
bytes_three [] = refl
bytes_three (x ∷ xs) = let ih = bytes_three xs in omega arith

module _ (n f : ℕ) (links : Links) where
  pub clean_long : length (print_card n f links) ≡ 4 + length (link_bytes (ascending links))
  unfolding print_card card_bytes
  clean_long = let a = length-append (link_bytes (ascending links)) (3 ∷ []) in omega arith

  clean_laid : (old : List ℕ) → set (laid 3 (link_bytes (ascending links)) (set (set (set old 0 1) 1 n) 2 f)) (3 + length (link_bytes (ascending links))) 3 ≡ laid 0 (print_card n f links) old
  unfolding print_card card_bytes laid
  clean_laid old = sym (laid_append 3 (link_bytes (ascending links)) (3 ∷ []) (set (set (set old 0 1) 1 n) 2 f))

  module _ (old : List ℕ) (bytes : ℕ) (long : bytes ≡ 4 + length (link_bytes (ascending links))) where
    pub clean_refused : length old < bytes → unwritten (call 14) ≡ fitting (print_card n f links) old
    unfolding fitting
    clean_refused h = let l = clean_long in sym (simp (lt-ltb (length old) (length (print_card n f links)) (omega arith)))

    module _ (room : bytes ≤ length old) where
      pub clean_fits : wrote bytes ≡ fitting (print_card n f links) old
      unfolding fitting
      clean_fits = ap wrote (long ∙ sym clean_long) ∙ (let l = clean_long in sym (simp (le-ltb (length old) (length (print_card n f links)) (omega arith))))

      pub clean_written : (lent : List ℕ) → lent ≡ laid 3 (link_bytes (ascending links)) (set (set (set old 0 1) 1 n) 2 f)
          → set lent (bytes - 1) 3 ≡ print_card n f links ++ drop bytes old
      clean_written lent e =
          let l = clean_long in
          let last : bytes - 1 ≡ 3 + length (link_bytes (ascending links)) = omega arith in
          let whole : bytes ≡ length (print_card n f links) = omega arith in
          rw (last, e, whole) (clean_laid old ∙ laid_whole (print_card n f links) old (omega arith))

module _ (s lent : List ℕ) where
  pub printed_refused : (r : Refusal) → refused (refusal_of r) ≡ read_card s → Printing s lent (Err r) lent
  unfolding print_into printed_in
  printed_refused r e = record { answer = rw (← e) refl; bytes = rw (← e) refl }

  pub printed_network : (n f : ℕ) (links : Links) → network n f links ≡ read_card s
      → (r : Result ℕ Refusal) (after : List ℕ) → (printed_of r ≡ fitting (print_card n f links) lent) × (after ≡ after_print (printed_of r) (print_card n f links) lent)
      → Printing s lent r after
  unfolding print_into printed_in clean_card
  printed_network n f links e r after (a, b) = record { answer = rw (← e) a; bytes = rw (← e, ← a) b }
