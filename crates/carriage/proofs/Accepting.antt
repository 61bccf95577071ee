-- What an accepted plan is to code that goes through its blocks: every read is in range.
--     runnable            blocks that are within the rules and encode to the bytes can be gone through
--     accepted_blocks     so can those of an accepted plan
--     accepted_whole      the same as the code keeps it
-- Assumes nothing.
use mathlib.Core.Path.{◌≡◌, sym, ap, ◌∙◌, subst}
use mathlib.Core.List.Memᴰ
use mathlib.Core.List.{List, [], ◌∷◌, ◌++◌, append_assoc, Memᴰ}
use Prim.Native.Nat.{ℕ, ◌+◌, ◌≤◌}
use native.Mathlib.Omega.{arith}
use lib.ListN.{length, drop, length-append}
use lib.Seq.{drop-append_seam}
use Rattle.network.specs.Links.{Links}
use Rattle.network.specs.Card.{network, read_card}
use Rattle.network.proofs.Main.{card_proper}
use Rattle.plan.specs.Due.{DueBlock, due}
use Rattle.plan.specs.Check.{totals, check_plan}
use Rattle.rules.specs.Blocks.{Route, Block, encode_routes, encode_reports, encode_block, encode_blocks, encode_plan, decode_block, length_of, decode_blocks, decode_plan}
use Rattle.facts.specs.Lists.{Each}
use Rattle.rules.specs.Rules.{IsRoute, reports_to, InBlock, InOrder}
use Rattle.rules.specs.Theorems.{Accepted}
use Rattle.rules.proofs.Lists.{members_in}
use Rattle.rules.proofs.Groups.{encode_long}
use Rattle.rules.proofs.Reports.{reports_long}
use Rattle.rules.proofs.Whole.{decode_length}
use Rattle.rules.proofs.Main.{exact, decodes, totalled}
use Rattle.carriage.specs.Openings.{Servers, ReportOf, Readable, Runnable, Opened}

servers_of_lem : (n : ℕ) (links : Links) (F : ℕ) → n ≤ 8 → (ps : List Route) → Each (IsRoute n links F) ps → Each Servers ps
servers_of_lem n links F few ps h = λ p m. let r = h p m in record { two = r.two; eight = λ i l. let b = r.servers i l in omega arith }

module _ (n f : ℕ) (links : Links) (few : n ≤ 8) where
  block_long : (d : DueBlock) (b : Block) → InBlock n f links d b → length (encode_block b) ≡ length_of b
  unfolding encode_block length_of
  block_long d b h =
      let inward = encode_routes 0x11 b.inward in
      let among = encode_routes 0x12 b.among in
      let outward = encode_routes 0x13 b.outward in
      let reports = encode_reports b.reports in
      let i = encode_long n links b.faults few 0x11 b.inward h.inward.routes in
      let a = encode_long n links b.faults few 0x12 b.among h.among.routes in
      let o = encode_long n links b.faults few 0x13 b.outward h.outward.routes in
      let r = reports_long b.reports in
      let x = length-append (inward ++ among ++ outward) reports in
      let y = length-append (inward ++ among) outward in
      let z = length-append inward among in
      omega arith

  told_of : (d : DueBlock) (b : Block) → InBlock n f links d b → Each (ReportOf (f + 1)) b.reports
  told_of d b h =
      λ r m. record {
        eight = (members_in b.faults r.receiver (subst (λ (l : List ℕ). Memᴰ r.receiver l) h.told (Memᴰ.map reports_to m))).1;
        exact = (h.reports r m).exact;
      }

  readable : (d : DueBlock) (s : List ℕ) → InBlock n f links d (decode_block n f s) → length_of (decode_block n f s) ≤ length s → Readable n f s
  readable d s h fits =
      let b = decode_block n f s in
      record {
        fits = fits;
        inward = servers_of_lem n links b.faults few b.inward h.inward.routes;
        among = servers_of_lem n links b.faults few b.among h.among.routes;
        outward = servers_of_lem n links b.faults few b.outward h.outward.routes;
        reports = told_of d b h;
      }

  pub runnable : (ds : List DueBlock) (s rest : List ℕ) → InOrder n f links ds (decode_blocks n f s (length ds))
      → encode_blocks (decode_blocks n f s (length ds)) ++ rest ≡ s → Runnable n f s (length ds)
  unfolding decode_blocks encode_blocks
  runnable [] s rest o e = tt
  runnable (d ∷ ds) s rest o e =
      let b = decode_block n f s in
      let later = encode_blocks (decode_blocks n f (drop (length_of b) s) (length ds)) ++ rest in
      let long = block_long d b o.0 in
      let whole : encode_block b ++ later ≡ s = sym (append_assoc (encode_block b) _ rest) ∙ e in
      let all = ap length whole in
      let parts = length-append (encode_block b) later in
      let left : drop (length_of b) s ≡ later = ap (λ (l : List ℕ). drop (length_of b) l) (sym whole) ∙ ap (λ (k : ℕ). drop k (encode_block b ++ later)) (sym long) ∙ drop-append_seam (encode_block b) later in
      (readable d s o.0 (omega arith), runnable ds (drop (length_of b) s) rest o.1 (sym left))

accepted_runnable : (card s : List ℕ) (n f : ℕ) (links : Links) → read_card card ≡ network n f links → Accepted card s
    → (length s ≤ 1048576) × Runnable n f s (length (due n f))
unfolding decode_plan encode_plan
accepted_runnable card s n f links e a =
    let (o, p) = decodes card s n f links e a in
    let (short, bs, q, r) = (exact card s n f links e).0 a in
    (short, runnable n f links (card_proper card n f links e).most (due n f) s (0x15 ∷ []) o p)

-- the same for as many blocks as the plan check tells
pub accepted_blocks : (card s : List ℕ) (n f : ℕ) (links : Links) → read_card card ≡ network n f links → (blocks carriages : ℕ) → check_plan card s ≡ totals blocks carriages
    → (blocks ≡ length (due n f)) × (length s ≤ 1048576) × Runnable n f s blocks
unfolding decode_plan
accepted_blocks card s n f links e blocks carriages q =
    let (short, runs) = accepted_runnable card s n f links e (blocks, carriages, q) in
    let many = (totalled card s n f links e blocks carriages q).0 ∙ decode_length n f s (length (due n f)) in
    (many, short, rw many runs)

-- and so the code can go through them
pub accepted_whole : (card s : List ℕ) (n f : ℕ) (links : Links) → network n f links ≡ read_card card → (blocks carriages : ℕ) → totals blocks carriages ≡ check_plan card s → Opened n f s blocks
accepted_whole card s n f links e blocks carriages q =
    let p = card_proper card n f links (sym e) in
    let (many, short, runs) = accepted_blocks card s n f links (sym e) blocks carriages (sym q) in
    record { few = p.most; bound = p.bound; short = short; runs = runs }
