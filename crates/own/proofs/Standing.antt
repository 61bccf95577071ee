-- Where a server stands, as the code tests and moves it.
--     placed-..   each way through the test of block, kind and ask
--     stands-..   each way through the whole test
--     opened-..   the ask is opened, or at the end none is
--     next-..     the next kind, the next block, the end; moved_next ties them to `next`
-- Assumes nothing.
use mathlib.Core.Path.{◌≡◌, refl, sym, ◌∙◌}
use mathlib.Core.Bool.{Bool, true, false, ◌&&◌}
use Prim.Native.Nat.{ℕ, suc, ◌+◌, ◌≤◌, ◌<◌}
use native.Mathlib.Numerals.{add-one}
use native.Mathlib.Omega.{arith}
use lib.Dec.{eqb, ltb}
use borrow.Author.Tests.{lt-ltb, le-ltb, ltb-false, eq-eqb, ne_eqb}
use Rattle.facts.proofs.Bools.{cases}
use Rattle.part.specs.Own.{Own}
use Rattle.own.specs.States.{moved_on}
use Rattle.part.specs.State.{State, is_end, placed, stands, opened, next_block, next_kind, next}

module _ (blocks : ℕ) (s : State) where
  module _ (e : s.kind ≡ 0x15) where
    pub placed_end : s.block ≡ blocks → eqb s.asked 0 ≡ placed blocks s
    unfolding placed is_end
    placed_end b = sym (simp (eq-eqb _ _ e, eq-eqb _ _ b))

    pub placed_no_end : (s.block ≡ blocks → ⊥) → false ≡ placed blocks s
    unfolding placed is_end
    placed_no_end b = sym (simp (eq-eqb _ _ e, ne_eqb _ _ b))

  module _ (e : s.kind ≡ 0x15 → ⊥) where
    pub placed_past : blocks ≤ s.block → false ≡ placed blocks s
    unfolding placed is_end
    placed_past b = sym (simp (ne_eqb _ _ e, le-ltb _ _ b))

    module _ (b : s.block < blocks) where
      pub placed_low : s.kind ≤ 0x10 → false ≡ placed blocks s
      unfolding placed is_end
      placed_low k = sym (simp (ne_eqb _ _ e, lt-ltb _ _ b, le-ltb _ _ k))

      pub placed_high : 0x10 < s.kind → 0x15 ≤ s.kind → false ≡ placed blocks s
      unfolding placed is_end
      placed_high k h = sym (simp (ne_eqb _ _ e, lt-ltb _ _ b, lt-ltb _ _ k, le-ltb _ _ h))

      pub placed_kind : 0x10 < s.kind → s.kind < 0x15 → ltb s.asked 2 ≡ placed blocks s
      unfolding placed is_end
      placed_kind k h = sym (simp (ne_eqb _ _ e, lt-ltb _ _ b, lt-ltb _ _ k, lt-ltb _ _ h))

module _ (n blocks i : ℕ) (s : State) where
  pub stands_none : n ≤ i → false ≡ (ltb i n && stands blocks s)
  stands_none l = sym (simp (le-ltb _ _ l))

  module _ (l : i < n) (b : Bool) (p : b ≡ placed blocks s) where
    pub stands_nowhere : b ≡ false → false ≡ (ltb i n && stands blocks s)
    unfolding stands
    stands_nowhere q = sym (simp (lt-ltb _ _ l, sym p ∙ q))

    module _ (q : b ≡ true) where
      pub stands_no_bit : 2 ≤ s.v → false ≡ (ltb i n && stands blocks s)
      unfolding stands
      stands_no_bit v = sym (simp (lt-ltb _ _ l, sym p ∙ q, le-ltb _ _ v))

      pub stands_bit : s.v < 2 → ltb s.t 3 ≡ (ltb i n && stands blocks s)
      unfolding stands
      stands_bit v = sym (simp (lt-ltb _ _ l, sym p ∙ q, lt-ltb _ _ v))

module _ (s : State) where
  pub opened_end : s.kind ≡ 0x15 → record { block = s.block; kind = s.kind; v = s.v; t = s.t; asked = 0 } ≡ opened s
  unfolding opened is_end
  opened_end e = sym (simp (eq-eqb _ _ e))

  pub opened_kind : (s.kind ≡ 0x15 → ⊥) → record { block = s.block; kind = s.kind; v = s.v; t = s.t; asked = 1 } ≡ opened s
  unfolding opened is_end
  opened_kind e = sym (simp (ne_eqb _ _ e))

module _ (blocks : ℕ) (s : State) (o : Own) where
  pub next_kind_lem : s.kind < 0x14 → record { block = s.block; kind = s.kind + 1; v = o.v; t = o.t; asked = 0 } ≡ moved_on blocks s o
  unfolding moved_on
  next_kind_lem k = sym (simp (lt-ltb _ _ k, add-one s.kind))

  module _ (k : 0x14 ≤ s.kind) where
    pub next_block_lem : s.block + 1 < blocks → record { block = s.block + 1; kind = 0x11; v = o.v; t = o.t; asked = 0 } ≡ moved_on blocks s o
    unfolding moved_on
    next_block_lem b = let l : suc s.block < blocks = rw (add-one s.block) at b in sym (simp (le-ltb _ _ k, lt-ltb _ _ l, add-one s.block))

    pub next_end : blocks ≤ s.block + 1 → record { block = blocks; kind = 0x15; v = o.v; t = o.t; asked = 0 } ≡ moved_on blocks s o
    unfolding moved_on
    next_end b = let l : blocks ≤ suc s.block = rw (add-one s.block) at b in sym (simp (le-ltb _ _ k, le-ltb _ _ l))

  -- at a block of the plan it is the definition's next state
  pub moved_next : s.block < blocks → moved_on blocks s o ≡ next blocks s o
  unfolding moved_on next next_block next_kind
  moved_next h =
      cases (ltb s.kind 0x14) (λ e. rw e refl)
      (λ e. cases (ltb (suc s.block) blocks) (λ l. rw (e, l) refl)
      (λ l. let b = ltb-false (suc s.block) blocks l in let last : suc s.block ≡ blocks = omega arith in rw (e, l, last) refl))
