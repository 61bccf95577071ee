-- The block at the front of the plan's bytes, once its opening command is read.
--     block_ready   the block is ready to be gone through
--     block_is      it is the decoded one
--     bytes_fit     it ends inside the plan
--     after_whole   the blocks after it are whole
-- Assumes nothing.
use mathlib.Core.Path.{◌≡◌, refl, sym, ap, ◌∙◌}
use mathlib.Core.List.{List}
use Prim.Native.Nat.{ℕ, zero, suc, ◌-◌, ◌≤◌, ◌<◌}
use native.Mathlib.Omega.{arith}
use lib.ListN.{length, take, drop, length-drop}
use Rattle.sets.specs.Sets.{size, TableOf}
use Rattle.plan.proofs.Groups.{part_rest}
use Rattle.rules.specs.Blocks.{decode_block, length_of}
use Rattle.carriage.specs.declared.opening.Opening.{Opening}
use Rattle.carriage.specs.Openings.{OpensBy, Opens, Readable, Runnable, Ready, block_at, Opened}
use Rattle.carriage.proofs.Opened.{opens_by}
use Rattle.carriage.proofs.Placed.{block_bytes}

-- the block at the front, and the others
front_of : (n f : ℕ) (s : List ℕ) (left : ℕ) → Runnable n f s left → (left ≡ 0 → ⊥) → Readable n f s × Runnable n f (drop (length_of (decode_block n f s)) s) (left - 1)
front_of n f s zero r o = absurd (o refl)
front_of n f s (suc k) r o = let z : suc k - 1 ≡ k = omega arith in rw z r

module _ (n f : ℕ) (s : List ℕ) (left : ℕ) (w : Opened n f s left) (some' : left ≡ 0 → ⊥)
    (sizes : List ℕ) (table : TableOf size sizes) (o : Opening) (by : OpensBy sizes n f s o) (u : o.fault < 256) (q : o.quorum < 256) where
  opens : Opens n f s o
  opens = opens_by sizes table n f w.few s o by u q

  pub block_ready : Ready o s
  block_ready =
      let h = opens in
      record {
        few = rw h.servers w.few;
        bound = rw h.bound w.bound;
        short = w.short;
        opens = record { servers = refl; bound = refl; fault = h.fault; side = h.side; quorum = h.quorum; inward = h.inward; among = h.among; outward = h.outward; reports = h.reports; bytes = h.bytes; carriages = h.carriages };
        readable = rw (h.servers, h.bound) (front_of n f s left w.runs some').0;
      }

  pub block_is : block_at o s ≡ decode_block n f s
  block_is = rw (opens.servers, opens.bound) refl

  pub bytes_are : o.bytes ≡ length_of (decode_block n f s)
  bytes_are = opens.bytes ∙ sym (block_bytes o s block_ready) ∙ ap length_of block_is

  pub bytes_fit : o.bytes ≤ length s
  bytes_fit = let a = bytes_are in let b = (front_of n f s left w.runs some').0.fits in omega arith

  -- the bytes after the block
  pub after_is : take (length s - o.bytes) (drop o.bytes s) ≡ drop (length_of (decode_block n f s)) s
  after_is = part_rest s o.bytes ∙ ap (λ (k : ℕ). drop k s) bytes_are

  pub after_whole : Opened n f (take (length s - o.bytes) (drop o.bytes s)) (left - 1)
  after_whole =
      let short : length (drop (length_of (decode_block n f s)) s) ≤ 1048576 = let d = length-drop (length_of (decode_block n f s)) s in let c = w.short in omega arith in
      rw after_is record { few = w.few; bound = w.bound; short = short; runs = (front_of n f s left w.runs some').1 }
