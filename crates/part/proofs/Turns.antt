-- The turns of an accepted plan stand in the order in which a server goes from kind to kind and from block to block, and the last one leads to the end.
--     from_next      the plan from block j + 1 on is what follows block j
--     some_block     an accepted plan has a block
--     decode_chained the turns of the blocks from block j on are in order
--     plan_chained   so those of the whole plan, from the first kind of block 0
-- Assumes nothing.
use mathlib.Core.Path.{◌≡◌, refl, sym, ap, ◌∙◌, subst}
use mathlib.Core.Bool.{cond}
use mathlib.Core.List.Memᴰ
use mathlib.Core.List.{List, [], ◌∷◌, Memᴰ}
use Prim.Native.Nat.{ℕ, zero, suc, ◌+◌, ◌≤◌, ◌<◌}
use native.Mathlib.Omega.{arith}
use lib.Dec.{eqb, ltb}
use lib.ListN.{length, drop}
use lib.Pow.{pow_pos}
use borrow.Author.Tests.{lt-ltb, le-ltb}
use Rattle.facts.specs.Lists.{Each}
use Rattle.sets.proofs.Members.{has_empty}
use Rattle.sets.proofs.Counts.{size_empty}
use Rattle.network.specs.Links.{Links}
use Rattle.network.specs.Card.{network, read_card}
use Rattle.network.proofs.Main.{card_proper}
use Rattle.plan.specs.Due.{DueBlock, due}
use Rattle.plan.specs.Check.{totals, check_plan}
use Rattle.rules.specs.Blocks.{Block, decode_block, length_of, decode_blocks, decode_plan}
use Rattle.rules.specs.Rules.{InBlock, InOrder}
use Rattle.rules.proofs.Order.{order_of}
use Rattle.rules.proofs.Whole.{decode_length}
use Rattle.rules.proofs.Main.{decodes, totalled}
use Rattle.bc.specs.Algorithm.{Choice}
use Rattle.steps.specs.Choices.{choices_of}
use Rattle.steps.proofs.Planned.{planned_covers}
use Rattle.part.specs.Calls.{from_block, block_of}
use Rattle.part.specs.Beside.{Turn, turns}
use Rattle.part.proofs.Committed.{AsRun, inward_kind, among_kind, outward_kind, reports_kind}
use Rattle.part.proofs.Answers.{IsKind, block_after, kind_after}

from_next : (n f : ℕ) (s : List ℕ) (j : ℕ) → from_block n f s (suc j) ≡ drop (length_of (block_of n f s j)) (from_block n f s j)
unfolding from_block block_of
from_next n f s zero = refl
from_next n f s (suc j) = from_next n f (drop (length_of (decode_block n f s)) s) j

-- the cut of server 0 from the others has a block
some_block : (n f : ℕ) (links : Links) (bs : List Block) → 2 ≤ n → n ≤ 8 → InOrder n f links (due n f) bs → 0 < length bs
unfolding choices_of
some_block n f links [] two few order =
    let z = size_empty in
    let (pre, mid, post, e, v) = planned_covers n f 0 links [] few order (pow_pos n) (omega arith) [] 0 in
    let (c, m, q) = v.cut (λ (i : ℕ). eqb i 0) 0 (omega arith) (has_empty 0) refl 1 (omega arith) (has_empty 1) refl in
    none c (subst (λ (l : List Choice). Memᴰ c l) (sym e) (Memᴰ.append_left post (Memᴰ.append_right pre m)))
  where
    none : (c : Choice) → Memᴰ c [] → 0 < length {A = Block} []
    none c m = elim m [ ]
some_block n f links (b ∷ bs) two few order = omega arith

-- X is the faulty set, `blocks` the number of the plan's blocks
module _ (n f : ℕ) (plan : List ℕ) (blocks X : ℕ) (table : List ℕ) where
  -- the turn is that of a kind of block j, and each server's commit of it gives the run's values
  pub record Due (j kind : ℕ) (turn : Turn) : Type 0 where
    pub inside : j < blocks
    pub is : IsKind kind
    pub same : turn.kind ≡ kind
    pub block : turn.block ≡ block_of n f plan j
    pub steps : AsRun n X table turn

  -- the turns from a kind of block j on, to the end
  abbrev pub Chained : ℕ → ℕ → List Turn → Type 0
  Chained j kind [] = (j ≡ blocks) × (kind ≡ 0x15)
  Chained j kind (turn ∷ later) = Due j kind turn × Chained (block_after j kind) (kind_after blocks j kind) later

  abbrev InRules : Links → Block → Type 0
  InRules links b = (d : DueBlock) × InBlock n f links d b

  -- the k blocks from block j on
  decode_chained : (links : Links) → n ≤ 8 → (k j : ℕ) (s : List ℕ) (number : ℕ) → from_block n f plan j ≡ s → j + k ≡ blocks
      → Each (InRules links) (decode_blocks n f s k) → Chained j (cond (ltb j blocks) 0x11 0x15) (turns number (decode_blocks n f s k))
  unfolding decode_blocks turns block_of
  decode_chained links few zero j s number e sum rules = (omega arith, (let l = le-ltb j blocks (omega arith) in rw l refl))
  decode_chained links few (suc k) j s number e sum rules =
      let b = decode_block n f s in
      let l = lt-ltb j blocks (omega arith) in
      let (d, g) = rules b (Memᴰ.head refl) in
      let next = from_next n f plan j ∙ ap (λ (r : List ℕ). drop (length_of (decode_block n f r)) r) e in
      rw l (
        due_turn 0x11 _ (refl, refl, refl) (inward_kind n f links few d b g X table _),
        (
          due_turn 0x12 _ (refl, refl, refl) (among_kind n f links few d b g X table _),
          (
            due_turn 0x13 _ (refl, refl, refl) (outward_kind n f links few d b g X table _),
            (
              due_turn 0x14 _ (refl, refl, refl) (reports_kind n f links few d b g X table _),
              decode_chained links few k (suc j) (drop (length_of b) s) _ next (omega arith) (λ c m. rules c (Memᴰ.tail m)),
            ),
          ),
        ),
      )
    where
      -- a turn of block j
      due_turn : (kind number : ℕ) → IsKind kind → AsRun n X table (record { number = number; kind = kind; block = decode_block n f s })
          → Due j kind (record { number = number; kind = kind; block = decode_block n f s })
      due_turn kind number is steps =
          record { inside = omega arith; is = is; same = refl; block = ap (decode_block n f) (sym e); steps = steps }

  pub plan_chained : (card : List ℕ) (links : Links) → read_card card ≡ network n f links → (carriages : ℕ) → check_plan card plan ≡ totals blocks carriages
      → Chained 0 0x11 (turns 0 (decode_plan n f plan))
  unfolding decode_plan from_block
  plan_chained card links e carriages q =
      let proper = card_proper card n f links e in
      let order = (decodes card plan n f links e (blocks, carriages, q)).0 in
      let many = (totalled card plan n f links e blocks carriages q).0 in
      let due-many = decode_length n f plan (length (due n f)) in
      let one = some_block n f links (decode_plan n f plan) proper.least proper.most order in
      let l = lt-ltb 0 blocks (omega arith) in
      rw l at (decode_chained links proper.most (length (due n f)) 0 plan 0 refl (omega arith)
      (λ b m. let (d, i, g) = order_of n f links (due n f) (decode_plan n f plan) order b m in (d, g)))
