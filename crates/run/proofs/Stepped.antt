-- The steps of a block on sets of servers, from what the code's parts give.
--     has_replaced   the members of a set that is replaced inside another; has_alike: of the servers whose arrivals are alike
--     step1_is       step 1 as its contract has it; step2_is, step3_is, step4_is, step5_is, step6_is
--     gathered_is    the common values taken by all receivers, as the contract has it; gathered_by: steps 2 and 4 over any carriages
--     compares       step 3 over any carriages; learns: step 6
--     outside_is     the receivers of step 4
-- Assumes nothing.
use mathlib.Core.Path.{◌≡◌, refl, ap, ◌∙◌}
use mathlib.Core.Bool.{Bool, true, false, cond, not, ◌&&◌, ◌||◌}
use mathlib.Core.List.{List, map}
use Prim.Native.Nat.{ℕ, min, ◌+◌, ◌*◌, ◌≤◌}
use native.Mathlib.Omega.{arith}
use lib.Dec.{ltb}
use Rattle.facts.proofs.Bools.{cases}
use Rattle.sets.specs.Sets.{has, union, meet, minus, full}
use Rattle.sets.proofs.Members.{has_union, has_meet, has_minus}
use Rattle.rules.specs.Blocks.{Carriage, routes_at, reports_at, carriage_of, report_carriages}
use Rattle.steps.specs.Hearing.{heard, all, common}
use Rattle.steps.specs.Steps.{held, values, step1, gather, compare, step5, step6}
use Rattle.run.specs.Speaking.{bit_of, work_of, bits_of, works_of, replaced, alike, settled, Speaks, against}
use Rattle.run.specs.declared.hearing.Against.{Against}
use Rattle.carriage.specs.declared.opening.Opening.{Opening}
use Rattle.carriage.specs.Openings.{Ready, block_at}
use Rattle.steps.proofs.Eight.{values_at, values_ext}
use Rattle.run.proofs.Arrivals.{common_settled, heard_small, bits_small, works_small}
use Rattle.carriage.proofs.Placed.{block_inward, block_among, block_outward, block_reports}

-- membership of one server

pub has_replaced : (old s new i : ℕ) → has (replaced old s new) i ≡ cond (has s i) (has new i) (has old i)
unfolding replaced
has_replaced old s new i =
    rw (has_union (minus old s) (meet new s) i, has_minus old s i, has_meet new s i) (either (has old i) (has s i) (has new i))
  where
    either : (o s n : Bool) → ((o && not s) || (n && s)) ≡ cond s n o
    either true true true = refl
    either true true false = refl
    either true false true = refl
    either true false false = refl
    either false true true = refl
    either false true false = refl
    either false false true = refl
    either false false false = refl

pub has_alike : (z o i : ℕ) → has (alike z o) i ≡ ltb (settled (has z i) (has o i)) 2
unfolding alike settled
has_alike z o i =
    rw (has_minus (union z o) (meet z o) i, has_union z o i, has_meet z o i) (one (has z i) (has o i))
  where
    one : (z o : Bool) → ((z || o) && not (z && o)) ≡ ltb (settled z o) 2
    one true true = refl
    one true false = refl
    one false true = refl
    one false false = refl

-- the steps that do not hear

pub step1_is : (side v sure t : ℕ) → (sure' : ℕ) → sure' ≡ union sure side → (t' : ℕ) → t' ≡ replaced t side v
    → works_of sure' t' ≡ step1 side (bits_of v) (works_of sure t)
unfolding step1 work_of bit_of
step1_is side v sure t sure' p t' q =
    values_ext (work_of sure' t') (λ (i : ℕ). cond (has side i) (held (bits_of v) i) (held (works_of sure t) i))
    (λ i h.
    rw (p, q, values_at (bit_of v) i h, values_at (work_of sure t) i h, has_union sure side i, has_replaced t side v i)
    (set (has side i) (has sure i) (has v i) (has t i)))
  where
    set : (a s v t : Bool) → ◌≡◌ {A = ℕ} (cond (s || a) (cond (cond a v t) 1 0) 2) (cond a (cond v 1 0) (cond s (cond t 1 0) 2))
    set true true v t = refl
    set true false v t = refl
    set false true v t = refl
    set false false v t = refl

pub step5_is : (sound kept sure t v : ℕ) → (others : ℕ) → others ≡ minus sound kept → (changing : ℕ) → changing ≡ meet others sure → (v' : ℕ) → v' ≡ replaced v changing t
    → bits_of v' ≡ step5 sound kept (works_of sure t) (bits_of v)
unfolding step5 work_of bit_of
step5_is sound kept sure t v others o changing p v' q =
    values_ext (bit_of v') (λ (i : ℕ). cond (has sound i && (not (has kept i) && ltb (held (works_of sure t) i) 2)) (held (works_of sure t) i) (held (bits_of v) i))
    (λ i h.
    rw (q, has_replaced v changing t i, p, has_meet others sure i, o, has_minus sound kept i, values_at (bit_of v) i h, values_at (work_of sure t) i h)
    (takes (has sound i) (has kept i) (has sure i) (has t i) (has v i)))
  where
    takes : (b k s t v : Bool)
        → ◌≡◌ {A = ℕ} (cond (cond ((b && not k) && s) t v) 1 0) (cond (b && (not k && ltb (cond s (cond t 1 0) 2) 2)) (cond s (cond t 1 0) 2) (cond v 1 0))
    takes true true s t v = refl
    takes true false true true v = refl
    takes true false true false v = refl
    takes true false false t v = refl
    takes false k s t v = refl

-- the steps that hear

pub gathered_is : (receivers : ℕ) (a : Against) (sure t : ℕ) → (like : ℕ) → like ≡ alike a.zero a.one
    → (sure' : ℕ) → sure' ≡ replaced sure receivers like → (t' : ℕ) → t' ≡ replaced t receivers a.zero
    → works_of sure' t' ≡ values (λ (i : ℕ). cond (has receivers i) (settled (has a.zero i) (has a.one i)) (work_of sure t i))
unfolding work_of bit_of settled
gathered_is receivers a sure t like e sure' p t' q =
    values_ext (work_of sure' t') (λ (i : ℕ). cond (has receivers i) (settled (has a.zero i) (has a.one i)) (work_of sure t i))
    (λ i h.
    rw (p, q, has_replaced sure receivers like i, has_replaced t receivers a.zero i, e, has_alike a.zero a.one i)
    (gets (has receivers i) (has a.zero i) (has a.one i) (has sure i) (has t i)))
  where
    gets : (r z o s t : Bool) → cond (cond r (ltb (settled z o) 2) s) (cond (cond r z t) 1 0) 2 ≡ cond r (settled z o) (cond s (cond t 1 0) 2)
    gets true true true s t = refl
    gets true true false s t = refl
    gets true false true s t = refl
    gets true false false s t = refl
    gets false z o s t = refl

module _ (X : ℕ) (table : List ℕ) (number : ℕ) (cs : List Carriage) (a : Against) where
  gathers : (receivers sure t : ℕ) → Speaks (heard X table number (held (works_of sure t)) cs) a
      → values (λ (i : ℕ). cond (has receivers i) (settled (has a.zero i) (has a.one i)) (work_of sure t i)) ≡ gather X table number cs receivers (works_of sure t)
  unfolding gather
  gathers receivers sure t p =
      values_ext (λ (i : ℕ). cond (has receivers i) (settled (has a.zero i) (has a.one i)) (work_of sure t i))
      (λ (i : ℕ). cond (has receivers i) (common (heard X table number (held (works_of sure t)) cs i)) (held (works_of sure t) i))
      (λ i h.
      let heards = heard X table number (held (works_of sure t)) cs i in
      let c = common_settled heards (heard_small X table number (held (works_of sure t)) (works_small sure t) cs i) in
      rw (p.zero i, p.one i, values_at (work_of sure t) i h, c) refl)

  pub compares : (S sure t : ℕ) → Speaks (heard X table number (held (works_of sure t)) cs) a
      → (differs : ℕ) → differs ≡ replaced a.zero t a.one → (leaving : ℕ) → leaving ≡ meet S differs → (sure' : ℕ) → sure' ≡ minus sure leaving
      → works_of sure' t ≡ compare X table number cs S (works_of sure t)
  unfolding compare work_of bit_of against
  compares S sure t p differs d leaving l sure' e =
      values_ext (work_of sure' t) (λ (i : ℕ). cond (has S i && not (all (held (works_of sure t) i) (heard X table number (held (works_of sure t)) cs i))) 2 (held (works_of sure t) i))
      (λ i h.
      let heards = heard X table number (held (works_of sure t)) cs i in
      rw (e, has_minus sure leaving i, l, has_meet S differs i, d, has_replaced a.zero t a.one i, p.zero i, p.one i, values_at (work_of sure t) i h)
      (keeps (has S i) (has sure i) (has t i) heards))
    where
      keeps : (q s t : Bool) (l : List ℕ)
          → ◌≡◌ {A = ℕ} (cond (s && not (q && cond t (against 1 l) (against 0 l))) (cond t 1 0) 2) (cond (q && not (all (cond s (cond t 1 0) 2) l)) 2 (cond s (cond t 1 0) 2))
      keeps true true true l = cases (all 1 l) (λ e. rw e refl) (λ e. rw e refl)
      keeps true true false l = cases (all 0 l) (λ e. rw e refl) (λ e. rw e refl)
      keeps true false t l = cases (all 2 l) (λ e. rw e refl) (λ e. rw e refl)
      keeps false true t l = refl
      keeps false false t l = refl

  pub learns : (F v : ℕ) → Speaks (heard X table number (held (bits_of v)) cs) a
      → (like : ℕ) → like ≡ alike a.zero a.one → (told : ℕ) → told ≡ meet F like → (v' : ℕ) → v' ≡ replaced v told a.zero
      → bits_of v' ≡ step6 X table number cs F (bits_of v)
  unfolding step6 bit_of settled
  learns F v p like s told l v' e =
      values_ext (bit_of v')
      (λ (i : ℕ). cond (has F i && ltb (common (heard X table number (held (bits_of v)) cs i)) 2) (common (heard X table number (held (bits_of v)) cs i)) (held (bits_of v) i))
      (λ i h.
      let heards = heard X table number (held (bits_of v)) cs i in
      let c = common_settled heards (heard_small X table number (held (bits_of v)) (bits_small v) cs i) in
      rw (e, has_replaced v told a.zero i, l, has_meet F like i, s, has_alike a.zero a.one i, p.zero i, p.one i, values_at (bit_of v) i h, c)
      (takes (has F i) (against 0 heards) (against 1 heards) (has v i)))
    where
      takes : (f z o v : Bool) → cond (cond (f && ltb (settled z o) 2) z v) 1 0 ≡ cond (f && ltb (settled z o) 2) (settled z o) (cond v 1 0)
      takes true true true v = refl
      takes true true false v = refl
      takes true false true v = refl
      takes true false false v = refl
      takes false z o v = refl

-- the common value is taken by these receivers
pub gathered_by : (X : ℕ) (table : List ℕ) (number : ℕ) (cs : List Carriage) (a : Against) (receivers sure t : ℕ) → Speaks (heard X table number (held (works_of sure t)) cs) a
    → (after : List ℕ) → after ≡ values (λ (i : ℕ). cond (has receivers i) (settled (has a.zero i) (has a.one i)) (work_of sure t i))
    → (R : ℕ) → receivers ≡ R → after ≡ gather X table number cs R (works_of sure t)
gathered_by X table number cs a receivers sure t p after e R q = e ∙ gathers X table number cs a receivers sure t p ∙ ap (λ (z : ℕ). gather X table number cs z (works_of sure t)) q

-- the receivers of 13 are V−F−S
pub outside_is : (n F S : ℕ) → n ≤ 8 → (servers : ℕ) → servers ≡ full (min n 8) → (sound : ℕ) → sound ≡ minus servers F → (receivers : ℕ) → receivers ≡ minus sound S
    → receivers ≡ minus (minus (full n) F) S
outside_is n F S few servers u sound v receivers q =
    let m : min n 8 ≡ n = omega arith in
    q ∙ ap (λ (z : ℕ). minus z S) (v ∙ ap (λ (z : ℕ). minus z F) (u ∙ ap full m))

-- the same in a block

module _ (o : Opening) (s : List ℕ) (r : Ready o s) (X : ℕ) (table : List ℕ) (number sure t : ℕ) (a : Against) where
  pub step2_is : Speaks (heard X table number (held (works_of sure t)) (map carriage_of (routes_at s 4 o.inward))) a
      → (receivers : ℕ) → receivers ≡ minus o.quorum o.side
      → (after : List ℕ) → after ≡ values (λ (i : ℕ). cond (has receivers i) (settled (has a.zero i) (has a.one i)) (work_of sure t i))
      → after ≡ gather X table number (map carriage_of (block_at o s).inward) (minus o.quorum o.side) (works_of sure t)
  step2_is p receivers q after e =
      let cs = map carriage_of (block_at o s).inward in
      let p' : Speaks (heard X table number (held (works_of sure t)) cs) a = rw (block_inward o s r) p in
      gathered_by X table number cs a receivers sure t p' after e (minus o.quorum o.side) q

  pub step4_is : Speaks (heard X table (number + (o.inward + o.among)) (held (works_of sure t)) (map carriage_of (routes_at s (4 + 9 * (o.inward + o.among)) o.outward))) a
      → (servers : ℕ) → servers ≡ full (min o.n 8) → (sound : ℕ) → sound ≡ minus servers o.fault → (receivers : ℕ) → receivers ≡ minus sound o.quorum
      → (after : List ℕ) → after ≡ values (λ (i : ℕ). cond (has receivers i) (settled (has a.zero i) (has a.one i)) (work_of sure t i))
      → after ≡ gather X table (number + o.inward + o.among) (map carriage_of (block_at o s).outward) (minus (minus (full o.n) o.fault) o.quorum) (works_of sure t)
  step4_is p servers u sound u' receivers q after e =
      let cs = map carriage_of (block_at o s).outward in
      let k : number + (o.inward + o.among) ≡ number + o.inward + o.among = omega arith in
      let p' : Speaks (heard X table (number + o.inward + o.among) (held (works_of sure t)) cs) a = rw (block_outward o s r, ← k) p in
      gathered_by X table (number + o.inward + o.among) cs a receivers sure t p' after e _ (outside_is o.n o.fault o.quorum r.few servers u sound u' receivers q)

  pub step3_is : Speaks (heard X table (number + o.inward) (held (works_of sure t)) (map carriage_of (routes_at s (4 + 9 * o.inward) o.among))) a
      → (differs : ℕ) → differs ≡ replaced a.zero t a.one → (leaving : ℕ) → leaving ≡ meet o.quorum differs → (sure' : ℕ) → sure' ≡ minus sure leaving
      → works_of sure' t ≡ compare X table (number + o.inward) (map carriage_of (block_at o s).among) o.quorum (works_of sure t)
  step3_is p =
      let cs = map carriage_of (block_at o s).among in
      compares X table (number + o.inward) cs a o.quorum sure t (rw (block_among o s r) p)

module _ (o : Opening) (s : List ℕ) (r : Ready o s) (X : ℕ) (table : List ℕ) (number v : ℕ) (a : Against) where
  pub step6_is : Speaks (heard X table (number + (o.inward + o.among + o.outward)) (held (bits_of v)) (report_carriages (reports_at s (4 + 9 * (o.inward + o.among + o.outward)) o.reports))) a
      → (like : ℕ) → like ≡ alike a.zero a.one → (told : ℕ) → told ≡ meet o.fault like → (v' : ℕ) → v' ≡ replaced v told a.zero
      → bits_of v' ≡ step6 X table (number + o.inward + o.among + o.outward) (report_carriages (block_at o s).reports) o.fault (bits_of v)
  step6_is p =
      let cs = report_carriages (block_at o s).reports in
      let k : number + (o.inward + o.among + o.outward) ≡ number + o.inward + o.among + o.outward = omega arith in
      learns X table (number + o.inward + o.among + o.outward) cs a o.fault v (rw (block_reports o s r, ← k) p)
