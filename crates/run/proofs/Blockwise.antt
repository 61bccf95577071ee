-- The steps of a block, one after the other, and the blocks of a plan, as the code takes them.
--     Half            what holds after three steps; half_runs: the three steps' results make it up
--     block_runs      with it the other three steps' results make up the block's
--     block_numbers   how many carriages the block has
--     Along           how far the blocks are run; blocks_start, blocks_end, and blocks_turn for one block more
--     blocks_room     the numbers of the carriages stay small
-- Assumes nothing.
use mathlib.Core.Path.{◌≡◌, refl, sym, ap, ◌∙◌}
use mathlib.Core.List.Memᴰ
use mathlib.Core.List.{List, [], ◌∷◌, ◌++◌, map}
use Prim.Native.Nat.{ℕ, zero, suc, ◌+◌, ◌*◌, ◌≤◌, ◌<◌, min}
use native.Mathlib.Omega.{arith}
use lib.ListN.{length, length-append, length-map, length-drop}
use Rattle.sets.specs.Sets.{minus, meet, full}
use Rattle.sets.specs.Members.{members}
use Rattle.plan.proofs.Cuts.{full_few}
use Rattle.rules.specs.Blocks.{Report, Block, carriage_of, report_from, report_carriages, carriages_of, decode_block, length_of, decode_blocks}
use Rattle.facts.specs.Lists.{Each}
use Rattle.rules.proofs.Lists.{length_members}
use Rattle.steps.specs.Steps.{Values, step1, gather, compare, step5, step6, run_block, run_blocks}
use Rattle.run.specs.Speaking.{bits_of, works_of}
use Rattle.carriage.specs.Openings.{ReportOf, Runnable, Ready, block_at}
use Rattle.carriage.specs.Passing.{Passed}
use Rattle.carriage.specs.declared.opening.Opening.{Opening}
use Rattle.carriage.specs.declared.ready_block.Block as Code
use Rattle.carriage.specs.declared.ready_blocks.Blocks.{Blocks}
use Rattle.carriage.proofs.Placed.{fault_is, side_is, quorum_is, inward_long, among_long, outward_long, reports_are, block_bytes}

-- the six steps

-- v, w and t are the servers with v = 1, those that are sure and those of them with t = 1; the number is that of the step just taken
module _ (o : Opening) (s : List ℕ) (X : ℕ) (table : List ℕ) (number v w t : ℕ) where
  -- three steps are taken, and V without F is made
  pub record Half (sound v3 w3 t3 : ℕ) : Type 0 where
    pub ready : Ready o s
    pub sound_is : sound ≡ minus (full o.n) o.fault
    pub values_are : v3 ≡ v
    pub works_are : works_of w3 t3 ≡ compare X table (number + o.inward) (map carriage_of (block_at o s).among) o.quorum (gather X table number (map carriage_of (block_at o s).inward) (minus o.quorum o.side) (step1 o.side (bits_of v) (works_of w t)))

  pub half_runs : (sound v3 w3 t3 : ℕ) → Ready o s → (fl : ℕ) → fl ≡ full (min o.n 8) → sound ≡ minus fl o.fault
      → (v2 w2 t2 : ℕ) → v3 ≡ v2
      → works_of w3 t3 ≡ compare X table (number + o.inward) (map carriage_of (block_at o s).among) o.quorum (works_of w2 t2)
      → (v1 w1 t1 : ℕ) → v2 ≡ v1
      → works_of w2 t2 ≡ gather X table number (map carriage_of (block_at o s).inward) (minus o.quorum o.side) (works_of w1 t1)
      → v1 ≡ v → works_of w1 t1 ≡ step1 o.side (bits_of v) (works_of w t)
      → Half sound v3 w3 t3
  half_runs sound v3 w3 t3 ready fl e1 e2 v2 w2 t2 a3 b3 v1 w1 t1 a2 b2 a1 b1 =
      record {
        ready = ready;
        sound_is = e2 ∙ ap (λ (x : ℕ). minus x o.fault) (full_few o.n fl ready.few e1).0;
        values_are = a3 ∙ a2 ∙ a1;
        works_are = cc;
      }

  pub block_runs : (v6 w6 t6 v5 w5 t5 : ℕ)
      → bits_of v6 ≡ step6 X table (number + o.inward + o.among + o.outward) (report_carriages (block_at o s).reports) o.fault (bits_of v5)
      → w6 ≡ w5 → t6 ≡ t5
      → (sound kept v4 w4 t4 : ℕ) → bits_of v5 ≡ step5 sound kept (works_of w4 t4) (bits_of v4) → w5 ≡ w4 → t5 ≡ t4 → kept ≡ meet o.side o.quorum
      → (v3 w3 t3 : ℕ) → Half sound v3 w3 t3 → v4 ≡ v3
      → works_of w4 t4 ≡ gather X table (number + o.inward + o.among) (map carriage_of (block_at o s).outward) (minus (minus (full o.n) o.fault) o.quorum) (works_of w3 t3)
      → ◌≡◌ {A = Values} (record { v = bits_of v6; t = works_of w6 t6 }) (run_block o.n X table number (block_at o s) (record { v = bits_of v; t = works_of w t }))
  unfolding run_block
  block_runs v6 w6 t6 v5 w5 t5 a6 b6 c6 sound kept v4 w4 t4 a5 b5 c5 e v3 w3 t3 half a4 b4 =
      let ready = half.ready in
      let h = ready.opens in
      let i = length-map (block_at o s).inward carriage_of ∙ inward_long o s ready in
      let a = length-map (block_at o s).among carriage_of ∙ among_long o s ready in
      let u = length-map (block_at o s).outward carriage_of ∙ outward_long o s ready in
      let x = fault_is o s h in
      let y = side_is o s h in
      let z = quorum_is o s h in
      let d = half.sound_is in
      let f = half.values_are in
      let g = half.works_are in
      cc

-- the reports of f + 1 servers each
report_long : (k : ℕ) (ms : List ℕ) → length (report_from k ms) ≡ length ms
report_long k [] = refl
report_long k (m ∷ ms) = ap suc (report_long k ms)

told_long : (f : ℕ) (rs : List Report) → Each (ReportOf (f + 1)) rs → length (report_carriages rs) ≡ length rs * (f + 1)
unfolding report_carriages
told_long f [] h = omega arith
told_long f (r ∷ rs) h =
    let first = report_from r.receiver (members r.reporters) in
    let a = length-append first (report_carriages rs) in
    let b = report_long r.receiver (members r.reporters) ∙ length_members r.reporters ∙ (h r (Memᴰ.head refl)).exact in
    let c = told_long f rs (λ q m. h q (Memᴰ.tail m)) in
    omega arith

pub block_numbers : (o : Opening) (s : List ℕ) → Ready o s → length (carriages_of (block_at o s)) ≡ o.carriages
unfolding carriages_of
block_numbers o s ready =
    let h = ready.opens in
    let b = block_at o s in
    let inward = map carriage_of b.inward in
    let among = map carriage_of b.among in
    let outward = map carriage_of b.outward in
    let reports = report_carriages b.reports in
    let i = length-map b.inward carriage_of ∙ inward_long o s ready in
    let a = length-map b.among carriage_of ∙ among_long o s ready in
    let u = length-map b.outward carriage_of ∙ outward_long o s ready in
    let r = told_long o.f b.reports ready.readable.reports ∙ ap (λ (k : ℕ). k * (o.f + 1)) (reports_are o s ready) in
    let x = length-append (inward ++ among ++ outward) reports in
    let y = length-append (inward ++ among) outward in
    let z = length-append inward among in
    let q = h.carriages in
    omega arith

-- the blocks of a plan

thrice : (x f : ℕ) → f ≤ 2 → x * (f + 1) ≤ 3 * x
thrice x zero h = omega arith
thrice x (suc zero) h = omega arith
thrice x (suc (suc zero)) h = omega arith
thrice x (suc (suc (suc f))) h = absurd (omega arith)

fits_front : (n f : ℕ) (s : List ℕ) (k m : ℕ) → k ≡ suc m → Runnable n f s k → length_of (decode_block n f s) ≤ length s
fits_front n f s k m e r = let q = rw e at r in q.0.fits

-- the blocks that are left give the answer of the whole; so far there are no more carriages than bytes
pub record Along (X : ℕ) (table : List ℕ) (whole : Values) (s : Blocks) (number : ℕ) (v t : List ℕ) : Type 0 where
  pub behind : number + length s.rest.now ≤ 1048576
  pub same : run_blocks s.n X table number (decode_blocks s.n s.f s.rest.now s.left) (record { v = v; t = t }) ≡ whole

pub blocks_start : (X : ℕ) (table : List ℕ) (s : Blocks) (v t : List ℕ)
    → Along X table (run_blocks s.n X table 0 (decode_blocks s.n s.f s.rest.now s.left) (record { v = v; t = t })) s 0 v t
blocks_start X table s v t = record { behind = let w = s.whole.short in omega arith; same = refl }

pub blocks_end : (X : ℕ) (table : List ℕ) (whole : Values) (s : Blocks) (number : ℕ) (v t : List ℕ) → Along X table whole s number v t → s.left ≡ 0
    → ◌≡◌ {A = Values} (record { v = v; t = t }) whole
unfolding run_blocks decode_blocks
blocks_end X table whole s number v t a l = rw l at a.same

module _ (X : ℕ) (table : List ℕ) (whole : Values) (s : Blocks) (number : ℕ) (v t : List ℕ) (along : Along X table whole s number v t)
    (b : Code.Block) (later : Blocks) (p : Passed s b later) where
  front : length_of (decode_block s.n s.f s.rest.now) ≤ length s.rest.now
  front = fits_front s.n s.f s.rest.now s.left later.left p.left s.whole.runs

  -- the carriages of the block are no more than its bytes
  carried : b.opening.carriages ≤ length_of (decode_block s.n s.f s.rest.now)
  carried =
      let h = b.ready.opens in
      let a = thrice b.opening.reports b.opening.f b.ready.bound in
      let c = h.bytes in
      let d = h.carriages in
      let e = block_bytes b.opening b.bytes.now b.ready in
      let g = ap length_of p.block in
      omega arith

  behind : number + b.opening.carriages + length later.rest.now ≤ 1048576
  behind =
      let a = along.behind in
      let c = carried in
      let d = length-drop (length_of (decode_block s.n s.f s.rest.now)) s.rest.now in
      let e = ap length p.rest in
      let g = front in
      omega arith

  pub blocks_room : (number ≤ 1048576) × (number + b.opening.carriages < 18446744073709551616)
  blocks_room = let a = behind in (omega arith, omega arith)

  pub blocks_turn : (v' t' : List ℕ) → ◌≡◌ {A = Values} (record { v = v'; t = t' }) (run_block b.opening.n X table number (block_at b.opening b.bytes.now) (record { v = v; t = t }))
      → Along X table whole later (number + b.opening.carriages) v' t'
  unfolding run_blocks decode_blocks
  blocks_turn v' t' ran =
      let many : length (carriages_of (decode_block s.n s.f s.rest.now)) ≡ b.opening.carriages = sym (ap (λ (x : Block). length (carriages_of x)) p.block) ∙ block_numbers b.opening b.bytes.now b.ready in
      let now : ◌≡◌ {A = Values} (record { v = v'; t = t' }) (run_block s.n X table number (decode_block s.n s.f s.rest.now) (record { v = v; t = t })) = ran ∙ (λ j. run_block (p.opened_n j) X table number (p.block j) (record { v = v; t = t })) in
      let old = rw p.left at along.same in
      record { behind = behind; same = rw (p.servers, p.bound, p.rest, now, ← many) old }
