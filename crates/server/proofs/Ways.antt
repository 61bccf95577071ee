-- The way to a block of the plan.
--     past         what is left after some blocks are passed over
--     way_some     a block that the plan has is reached
--     way_block    it is that block
-- Assumes nothing.
use mathlib.Core.Path.{◌≡◌, refl, ◌∙◌}
use mathlib.Core.List.{List, [], ◌∷◌}
use Prim.Native.Nat.{ℕ, ◌+◌, ◌<◌}
use native.Mathlib.Omega.{arith}
use lib.ListN.{length}
use Rattle.std.specs.Prelude.{Option, Some, None, IsSome}
use Rattle.std.specs.Iterator.{Yields, SkipsThenYields}
use Rattle.carriage.specs.declared.ready_block.Block as Code
use Rattle.carriage.specs.declared.ready_blocks.Blocks.{Blocks}
use Rattle.carriage.specs.Openings.{block_at}
use Rattle.carriage.specs.Passing.{Passing}
use Rattle.part.specs.Calls.{from_block, block_of}

-- so many blocks are passed over
record Past (s : Blocks) (k : ℕ) (t : Blocks) : Type 0 where
  left : s.left ≡ k + t.left
  servers : t.n ≡ s.n
  bound : t.f ≡ s.f
  from : from_block s.n s.f s.rest.now k ≡ t.rest.now

past : (xs : List Code.Block) (s t : Blocks) → Yields Passing s xs t → Past s (length xs) t
unfolding from_block
past [] s t e = rw (← e) record { left = omega arith; servers = refl; bound = refl; from = refl }
past (x ∷ xs) s t (j, p, q) =
    let ih = past xs j t q in
    record {
      left = let a = p.left in let b = ih.left in omega arith;
      servers = ih.servers ∙ p.servers;
      bound = ih.bound ∙ p.bound;
      from = let e = ih.from in rw (p.servers, p.bound, p.rest) at e;
    }

module _ (s : Blocks) (j : ℕ) (h : j < s.left) (u : Blocks) where
  pub way_some : (r : Option Code.Block) → SkipsThenYields Passing s j r u → IsSome r
  way_some None (xs, (t, y, e), l) = absurd (let p = (past xs s t y).left in let z = e.0 in omega arith)
  way_some (Some b) w = refl

  pub way_block : (b : Code.Block) → SkipsThenYields Passing s j (Some b) u
      → (b.opening.n ≡ s.n) × (block_at b.opening b.bytes.now ≡ block_of s.n s.f s.rest.now j)
  unfolding block_of
  way_block b (xs, (t, y, e), l) =
      let p = past xs s t y in
      let f = p.from in
      (e.opened_n ∙ p.servers, e.block ∙ rw (p.servers, p.bound, ← f, l) refl)
