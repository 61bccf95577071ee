-- What a call may ask for, and the search that it starts.
--     both-..         a test, and then another one
--     fits_all        the tests of `Call::fits`, one after the other
--     fits_receiver   the receiver of a call that fits is a server
--     near_is         the servers with a link to r, taken from the sources or from the rows
--     search_is       the search of the code is the search of the definition
-- Assumes nothing.
use mathlib.Core.Path.{◌≡◌, sym, ◌∙◌}
use mathlib.Core.Bool.{Bool, true, false, ◌&&◌}
use mathlib.Core.List.{List}
use Prim.Native.Nat.{ℕ, ◌+◌, ◌≤◌, ◌<◌, min}
use native.Mathlib.Omega.{arith}
use lib.ListN.{get_or}
use lib.Dec.{ltb, leb}
use borrow.Author.Tests.{ltb-true}
use Rattle.facts.proofs.Bools.{cases, and_right}
use Rattle.sets.specs.Sets.{minus, within, full, size}
use Rattle.network.specs.Links.{Links, linked_in}
use Rattle.network.specs.Rows.{rows_of}
use Rattle.network.specs.Proper.{Proper}
use Rattle.network.proofs.LinkRows.{rows_linked}
use Rattle.split.specs.Sources.{sources_to, SourceRows}
use Rattle.flow.specs.Search.{Sought, linking, flow_by, flow_to}
use Rattle.routes.specs.Routing.{call_fits}

servers_are : (n all : ℕ) → n ≤ 8 → all ≡ full (min n 8) → all ≡ full n
servers_are n all h e = let m : min n 8 ≡ n = omega arith in rw m at e

-- a test, and then another one
pub both_then : {a b v x : Bool} → a ≡ true → v ≡ x → x ≡ b → v ≡ (a && b)
both_then e f g = cc

pub both_else : {a v : Bool} (b : Bool) → a ≡ false → v ≡ false → v ≡ (a && b)
both_else b e f = cc

-- the four tests, one after the other
pub fits_all : (n f F sources r k all : ℕ) → k ≡ size F → n ≤ 8 → all ≡ full (min n 8) → (a b : Bool) → a ≡ (leb k f && within F all) → b ≡ (a && within sources all)
    → (b && ltb r n) ≡ call_fits n f F sources r
unfolding call_fits
fits_all n f F sources r k all e most v a b p q =
    let l = servers_are n all most v in
    rw (q, p, e, l) (sym (apart (leb (size F) f) (within F (full n)) (within sources (full n)) (ltb r n)))
  where
    apart : (a b c d : Bool) → (a && (b && (c && d))) ≡ ((a && b) && c) && d
    apart a b c d = cases a (λ x. cases b (λ y. cases c (λ z. cc) (λ z. cc)) (λ y. cc)) (λ x. cc)

pub fits_receiver : (n f F sources r : ℕ) → call_fits n f F sources r ≡ true → r < n
unfolding call_fits
fits_receiver n f F sources r e =
    ltb-true r n (and_right (within sources (full n)) (ltb r n) (and_right (within F (full n)) (within sources (full n) && ltb r n) (and_right (leb (size F) f) (within F (full n) && (within sources (full n) && ltb r n)) e)))

module _ (n f : ℕ) (links : Links) (p : Proper n f links) where
  near_is : (r : ℕ) → sources_to links r ≡ linking (rows_of (linked_in links)) r
  unfolding sources_to linking
  near_is r = simp (rows_linked n f links p)

  pub search_is : (F sources r : ℕ) → r < n
      → (rows into : List ℕ) → rows ≡ rows_of (linked_in links) → SourceRows links into
      → (all W : ℕ) → all ≡ full (min n 8) → W ≡ minus all F
      → (s : Sought) → s ≡ flow_by rows (get_or into r 0) W sources r (f + 1) → s ≡ flow_to (rows_of (linked_in links)) (minus (full n) F) sources r (f + 1)
  search_is F sources r h rows into a b all W v w s e =
      let m = p.most in
      let near = b r (omega arith) ∙ near_is r in
      let l = servers_are n all m v in
      e ∙ cc
