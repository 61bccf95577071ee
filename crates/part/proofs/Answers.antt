-- The calls of a server that stands where a turn or the end is: none is refused. `standing` is such a state, with the values o and no ask open.
--     site_is_lem    the site of an accepted plan
--     starts     where a server starts; asks: what it gives in a kind; commits: where it stands after the kind
--     ends       at the end an ask gives v, and leaves the state as it was
-- Assumes nothing.
use mathlib.Core.Path.{◌≡◌, refl}
use mathlib.Core.Bool.{true, false, cond}
use mathlib.Core.List.{List, [], ◌∷◌}
use Prim.Native.Nat.{ℕ, suc, ◌≤◌, ◌<◌}
use native.Mathlib.Omega.{arith}
use lib.Dec.{eqb, ltb}
use lib.ListN.{length}
use borrow.Author.Tests.{lt-ltb, le-ltb, eq-eqb}
use Rattle.network.specs.Links.{Links}
use Rattle.network.specs.Card.{network, read_card}
use Rattle.plan.specs.Check.{totals, check_plan}
use Rattle.part.specs.Own.{carriages_of, sent, given, Own, committed}
use Rattle.part.specs.State.{State, first, is_end, placed, stands, opened, next_block, next_kind, next}
use Rattle.part.specs.Calls.{site, site_of, block_of, Stepped, Asked, start_on, values_due, ask_on, commit_on, start_call, ask_call, commit_call}
use Rattle.part.proofs.Committed.{Small}

abbrev pub standing : ℕ → ℕ → Own → State
standing j kind o = record { block = j; kind = kind; v = o.v; t = o.t; asked = 0 }

-- one of the four kinds
abbrev pub IsKind : ℕ → Type 0
IsKind kind = (ltb 0x10 kind ≡ true) × (ltb kind 0x15 ≡ true) × (eqb kind 0x15 ≡ false)

-- where a server stands after a kind
abbrev pub block_after : ℕ → ℕ → ℕ
block_after j kind = cond (ltb kind 0x14) j (suc j)

abbrev pub kind_after : ℕ → ℕ → ℕ → ℕ
kind_after blocks j kind = cond (ltb kind 0x14) (suc kind) (cond (ltb (suc j) blocks) 0x11 0x15)

pub site_is_lem : (card plan : List ℕ) (n f : ℕ) (links : Links) → read_card card ≡ network n f links
    → (blocks carriages : ℕ) → check_plan card plan ≡ totals blocks carriages → site_of card plan ≡ site n f blocks
unfolding site_of
site_is_lem card plan n f links e blocks carriages q = rw (e, q) refl

module _ (card plan : List ℕ) (n f blocks : ℕ) (is : site_of card plan ≡ site n f blocks) (i : ℕ) (below : i < n) where
  pub starts : (x : ℕ) → x < 2 → start_call card plan i x ≡ Stepped.at (first x)
  unfolding start_call start_on
  starts x h =
      let a = le-ltb 1 x (omega arith) in
      let b = lt-ltb i n below in
      rw is (rw (a, b) refl)

  pub asks : (j kind : ℕ) (o : Own) (lent : List ℕ) → j < blocks → IsKind kind → Small o
      → length (given (sent kind o.v o.t) i (carriages_of kind (block_of n f plan j))) ≤ length lent
      → ask_call card plan i (standing j kind o) lent
      ≡ Asked.sends (opened (standing j kind o)) (given (sent kind o.v o.t) i (carriages_of kind (block_of n f plan j)))
  unfolding ask_call ask_on values_due is_end stands placed
  asks j kind o lent h (low, high, kind-is) (v, t) room =
      let a = lt-ltb i n below in
      let b = lt-ltb j blocks h in
      let c = lt-ltb o.v 2 v in
      let d = lt-ltb o.t 3 t in
      let r = le-ltb (length lent) (length (given (sent kind o.v o.t) i (carriages_of kind (block_of n f plan j)))) room in
      rw is (rw (kind-is, a, b, low, high, c, d, r) refl)

  pub commits : (j kind : ℕ) (o : Own) (arrived : List ℕ) → j < blocks → IsKind kind → Small o
      → commit_call card plan i (opened (standing j kind o)) arrived
      ≡ Stepped.at (standing (block_after j kind) (kind_after blocks j kind) (committed n kind (block_of n f plan j) i arrived o))
  unfolding commit_call commit_on is_end stands placed opened next next_block next_kind
  commits j kind o arrived h (low, high, kind-is) (v, t) =
      let a = lt-ltb i n below in
      let b = lt-ltb j blocks h in
      let c = lt-ltb o.v 2 v in
      let d = lt-ltb o.t 3 t in
      rw is (rw (kind-is, a, b, low, high, c, d) refl)

  pub ends : (o : Own) (lent : List ℕ) → Small o → 1 ≤ length lent
      → ask_call card plan i (standing blocks 0x15 o) lent ≡ Asked.sends (standing blocks 0x15 o) (o.v ∷ [])
  unfolding ask_call ask_on values_due is_end stands placed opened
  ends o lent (v, t) room =
      let a = lt-ltb i n below in
      let b = eq-eqb blocks blocks refl in
      let c = lt-ltb o.v 2 v in
      let d = lt-ltb o.t 3 t in
      let r = le-ltb (length lent) 1 room in
      rw is (rw (a, b, c, d, r) refl)
