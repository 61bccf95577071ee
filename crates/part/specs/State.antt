-- Where a server stands between two calls, as five words of any size: the block, counted from 0; the kind, 11 to 14, or 15 with the number of blocks as the
-- block at the end; v and t; and 1 while an ask is open, else 0.
--     first x            == where a server with input x starts
--     stands blocks s   <-> s is at a kind of a block or at the end of a plan with so many blocks, at the end with no ask open, v at most 1, t at most 2
--     opened s           == s with its ask open; at the end none opens
--     next blocks s o    == the state at the kind after that of s, with the values o and no ask open
use Rattle.std.specs.Prelude.{Bool, cond, ◌&&◌, ℕ, suc, eqb, ltb}
use Rattle.part.specs.Own.{Own}

pub record State : Type 0 where
  pub block : ℕ
  pub kind : ℕ
  pub v : ℕ
  pub t : ℕ
  pub asked : ℕ

unfoldable pub first : ℕ → State
first x = record { block = 0; kind = 0x11; v = x; t = 2; asked = 0 }

unfoldable pub is_end : State → Bool
is_end s = eqb s.kind 0x15

unfoldable pub placed : ℕ → State → Bool
placed blocks s =
    cond (is_end s) (eqb s.block blocks && eqb s.asked 0)
    (ltb s.block blocks && (ltb 0x10 s.kind && (ltb s.kind 0x15 && ltb s.asked 2)))

unfoldable pub stands : ℕ → State → Bool
stands blocks s = placed blocks s && (ltb s.v 2 && ltb s.t 3)

unfoldable pub opened : State → State
opened s = record { block = s.block; kind = s.kind; v = s.v; t = s.t; asked = cond (is_end s) 0 1 }

unfoldable pub next_block : State → ℕ
next_block s = cond (ltb s.kind 0x14) s.block (suc s.block)

unfoldable pub next_kind : ℕ → State → ℕ
next_kind blocks s = cond (ltb s.kind 0x14) (suc s.kind) (cond (ltb (suc s.block) blocks) 0x11 0x15)

unfoldable pub next : ℕ → State → Own → State
next blocks s o = record { block = next_block s; kind = next_kind blocks s; v = o.v; t = o.t; asked = 0 }
