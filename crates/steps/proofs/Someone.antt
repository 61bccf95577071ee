-- A server that is not in X, from a plan for two servers or more.
--     clear_source  f + 1 paths that are apart have one whose source is below n and not in X, if X has at most f
--     side_sound    a sound choice with a server outside F and A has such a server
--     some_sound    if blocks are the due ones, in order and within the rules, and X has at most f servers, some server is not in X
-- Assumes nothing.
use mathlib.Core.Path.{refl, sym, ◌∙◌, subst}
use mathlib.Core.Logic.{⊎_elim}
use mathlib.Core.List.Memᴰ
use mathlib.Core.List.{List, [], Memᴰ}
use Prim.Native.Nat.{ℕ, ◌≤◌, ◌<◌}
use native.Mathlib.Omega.{arith}
use lib.Dec.{eqb}
use lib.Pow.{pow_pos}
use Rattle.facts.proofs.Bools.{cases}
use Rattle.sets.specs.Sets.{Set, Out, has, count}
use Rattle.sets.proofs.Members.{has_empty}
use Rattle.sets.proofs.Counts.{size_empty}
use Rattle.network.specs.Links.{Links}
use Rattle.plan.specs.Due.{due}
use Rattle.rules.specs.Blocks.{Block}
use Rattle.rules.specs.Rules.{InOrder}
use Rattle.bc.specs.Algorithm.{Path, Choice}
use Rattle.bc.specs.Allowed.{Separate, Sound}
use Rattle.bc.proofs.Paths.{clear_one, source_out}
use Rattle.steps.proofs.Planned.{planned_sound, planned_covers}

pub clear_source : (n f : ℕ) (X F P : Set) (ps : List Path) → count n X ≤ f → Separate n f F P ps → (s : ℕ) × (s < n) × Out X s
clear_source n f X F P ps h d =
    let (p, m, e) = clear_one n f X F P ps h d in
    (p.source, (d.paths p m).servers p.source (Memᴰ.head refl), source_out X p e)

-- the server is in S, and has the paths from A, or it is not, and has those from S
pub side_sound : (n f : ℕ) (X : Set) (c : Choice) → count n X ≤ f → Sound n f c → (i : ℕ) → i < n → Out c.F i → Out c.A i
    → (s : ℕ) × (s < n) × Out X s
side_sound n f X c h r i k o a =
    cases (c.S i)
    (λ e. clear_source n f X c.F c.A (c.inward i) h (r.inward i k e a))
    (λ e. clear_source n f X c.F c.S (c.outward i) h (r.outward i k o e))

-- the block with F empty that cuts server 0 from the others
pub some_sound : (n f X : ℕ) (links : Links) (bs : List Block) → 2 ≤ n → n ≤ 8 → InOrder n f links (due n f) bs → count n (has X) ≤ f
    → (s : ℕ) × (s < n) × Out (has X) s
some_sound n f X links bs two eight o h =
    let z = size_empty in
    let (pre, mid, post, e, v) = planned_covers n f 0 links bs eight o (pow_pos n) (omega arith) [] 0 in
    let (c, m, q) = v.cut (λ (i : ℕ). eqb i 0) 0 (omega arith) (has_empty 0) refl 1 (omega arith) (has_empty 1) refl in
    let r = planned_sound n f links bs eight o [] 0 c (subst (λ (l : List Choice). Memᴰ c l) (sym e) (Memᴰ.append_left post (Memᴰ.append_right pre m))) in
    ⊎_elim
    (λ a. side_sound n f (has X) c h r 1 (omega arith) (v.theirs c m 1 (omega arith) ∙ has_empty 1) (a 1 (omega arith) (has_empty 1)))
    (λ a. side_sound n f (has X) c h r 0 (omega arith) (v.theirs c m 0 (omega arith) ∙ has_empty 0) (a 0 (omega arith) (has_empty 0)))
    q
