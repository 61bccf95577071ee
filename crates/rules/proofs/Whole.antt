-- The check of one block, and of the blocks of a list of due ones.
--     block_forward    what passes the check of a due block is the encoding of a block within the rules; block_backward the other way
--     block_long       how many bytes a block's encoding has
--     decode_length    how many blocks are decoded
--     blocks_forward   the same for the due blocks of a list; blocks_backward the other way
-- Assumes nothing.
use mathlib.Core.Path.{◌≡◌, refl, sym, ap, ◌∙◌}
use mathlib.Core.Logic.{◌⊎◌, inl, inr, ⊎_elim}
use mathlib.Core.Bool.{true, false, not, ◌&&◌, ◌||◌}
use mathlib.Core.List.{List, [], ◌∷◌, ◌++◌, map}
use Prim.Native.Nat.{ℕ, zero, suc, ◌+◌, ◌*◌, ◌≤◌}
use native.Mathlib.Omega.{arith}
use lib.Dec.{eqb}
use lib.ListN.{length, get_or, drop, length-append, length-map}
use lib.Seq.{drop-drop}
use borrow.Author.Tests.{eq-eqb, ne_eqb, eqb-true, eqb-false}
use Rattle.facts.proofs.Bools.{cases, and_left, and_right, not_true, or_cases}
use Rattle.sets.specs.Sets.{minus, within, full, size}
use Rattle.network.specs.Links.{Links}
use Rattle.sets.specs.Members.{members}
use Rattle.plan.specs.Due.{DueBlock, Group, fan, pairs, routes_due}
use Rattle.route.specs.Commands.{width, is_cut}
use Rattle.plan.specs.Check.{Progress, reached, and_then, onward, check_groups, check_reports, check_block, check_blocks}
use Rattle.plan.proofs.Groups.{whole_command}
use Rattle.plan.proofs.Joins.{groups_append}
use Rattle.rules.specs.Blocks.{Route, Report, Block, encode_routes, encode_reports, encode_block, encode_blocks, routes_at, reports_at, inward_due, among_due, outward_due, decode_block, decode_blocks, length_of, carriage_of, report_carriages, carriages_of, plan_carriages}
use Rattle.facts.specs.Lists.{Each}
use Rattle.rules.specs.Rules.{Fan, Mesh, IsReport, reports_to, InBlock, InOrder}
use Rattle.rules.proofs.Spans.{Span, span_append, span_left, span_right}
use Rattle.rules.proofs.Groups.{routes_length, encode_long}
use Rattle.rules.proofs.Fans.{fan_forward, fan_backward}
use Rattle.rules.proofs.Meshes.{mesh_forward, mesh_backward}
use Rattle.rules.proofs.Bytes.{span_cons, span_head, span_empty, span_in, span_out, span_four, four_spans}
use Rattle.rules.proofs.Progress.{reached_same, cond_true, due_forward, due_backward, then_forward, onward_forward, cut_backward}
use Rattle.rules.proofs.Reports.{reports_length, reports_long, reports_forward, reports_backward, report_carriages_lem}

-- the first command of a block, and what follows
front : (s : List ℕ) (command : ℕ) (rest : List ℕ) → 4 ≤ length s → get_or s 0 0 ≡ command → Span s 4 rest
    → Span s 0 (command ∷ get_or s 1 0 ∷ get_or s 2 0 ∷ get_or s 3 0 ∷ rest)
front s command rest long is p =
    let p3 = span_cons s 3 (get_or s 3 0) rest (omega arith) refl p in
    let p2 = span_cons s 2 (get_or s 2 0) (get_or s 3 0 ∷ rest) (omega arith) refl p3 in
    let p1 = span_cons s 1 (get_or s 1 0) (get_or s 2 0 ∷ get_or s 3 0 ∷ rest) (omega arith) refl p2 in
    span_cons s 0 command (get_or s 1 0 ∷ get_or s 2 0 ∷ get_or s 3 0 ∷ rest) (omega arith) is p1

front_parts : (s : List ℕ) (command F A S : ℕ) (rest : List ℕ) → Span s 0 (command ∷ F ∷ A ∷ S ∷ rest)
    → (4 ≤ length s) × (get_or s 0 0 ≡ command) × (get_or s 1 0 ≡ F) × (get_or s 2 0 ≡ A) × (get_or s 3 0 ≡ S) × Span s 4 rest
front_parts s command F A S rest p =
    let (l0, e0, p1) = span_head s 0 command (F ∷ A ∷ S ∷ rest) p in
    let (l1, e1, p2) = span_head s 1 F (A ∷ S ∷ rest) p1 in
    let (l2, e2, p3) = span_head s 2 A (S ∷ rest) p2 in
    let (l3, e3, p4) = span_head s 3 S rest p3 in
    (omega arith, e0, e1, e2, e3, p4)

module _ (n f : ℕ) (links : Links) (few : n ≤ 8) where
  -- lengths

  module _ (d : DueBlock) (b : Block) (g : InBlock n f links d b) where
    inward_long : length (encode_routes 0x11 b.inward) ≡ 9 * length b.inward
    inward_long = encode_long n links b.faults few 0x11 b.inward g.inward.routes

    among_long : length (encode_routes 0x12 b.among) ≡ 9 * length b.among
    among_long = encode_long n links b.faults few 0x12 b.among g.among.routes

    outward_long : length (encode_routes 0x13 b.outward) ≡ 9 * length b.outward
    outward_long = encode_long n links b.faults few 0x13 b.outward g.outward.routes

    pub block_long : length (encode_block b) ≡ length_of b
    unfolding encode_block length_of
    block_long =
        let i = encode_routes 0x11 b.inward in
        let m = encode_routes 0x12 b.among in
        let o = encode_routes 0x13 b.outward in
        let r = encode_reports b.reports in
        let p1 = length-append (i ++ m ++ o) r in
        let p2 = length-append (i ++ m) o in
        let p3 = length-append i m in
        let q1 = inward_long in
        let q2 = among_long in
        let q3 = outward_long in
        let q4 = reports_long b.reports in
        omega arith

    -- one carriage for each route, and those of the reports
    carriages_long : length (carriages_of b) ≡ length b.inward + length b.among + length b.outward + length b.reports * (f + 1)
    unfolding carriages_of
    carriages_long =
        let i = map carriage_of b.inward in
        let m = map carriage_of b.among in
        let o = map carriage_of b.outward in
        let r = report_carriages b.reports in
        let p1 = length-append (i ++ m ++ o) r in
        let p2 = length-append (i ++ m) o in
        let p3 = length-append i m in
        let q1 = length-map b.inward carriage_of in
        let q2 = length-map b.among carriage_of in
        let q3 = length-map b.outward carriage_of in
        let q4 = report_carriages_lem n f links b.faults few [] b.reports g.reports in
        omega arith

  -- the routes of a block, from its place 4 on
  module _ (s : List ℕ) (F A S : ℕ) where
    abbrev ins : ℕ
    ins = inward_due f A S

    abbrev mids : ℕ
    mids = among_due S

    abbrev outs : ℕ
    outs = outward_due n f F S

    abbrev inward : List Group
    inward = fan f 0x11 A (members (minus S A))

    abbrev among : List Group
    among = pairs (members S) (members S)

    abbrev outward : List Group
    outward = fan f 0x13 S (members (minus (minus (full n) F) S))

    -- the three kinds in a row
    routes_row : (at c : ℕ)
        → check_groups (minus (full n) F) links s (routes_due n f F A S) at c
        ≡ and_then (and_then (check_groups (minus (full n) F) links s inward at c) (λ (a c : ℕ). check_groups (minus (full n) F) links s among a c)) (λ (a c : ℕ). check_groups (minus (full n) F) links s outward a c)
    unfolding routes_due
    routes_row at c =
        groups_append (minus (full n) F) links s (inward ++ among) outward at c
        ∙ ap (λ (p : Progress). and_then p (λ (a c : ℕ). check_groups (minus (full n) F) links s outward a c)) (groups_append (minus (full n) F) links s inward among at c)

    -- where each kind ends
    routes_parts : (a c : ℕ) → check_groups (minus (full n) F) links s (routes_due n f F A S) 4 0 ≡ reached a c
        → (a1 c1 a2 c2 : ℕ) × (check_groups (minus (full n) F) links s inward 4 0 ≡ reached a1 c1) × (check_groups (minus (full n) F) links s among a1 c1 ≡ reached a2 c2)
        × (check_groups (minus (full n) F) links s outward a2 c2 ≡ reached a c)
    routes_parts a c e =
        let (a2, c2, e2, e3) = then_forward (and_then (check_groups (minus (full n) F) links s inward 4 0) (λ (a c : ℕ). check_groups (minus (full n) F) links s among a c)) (λ (a c : ℕ). check_groups (minus (full n) F) links s outward a c) a c (sym (routes_row 4 0) ∙ e) in
        let (a1, c1, e0, e1) = then_forward (check_groups (minus (full n) F) links s inward 4 0) (λ (a c : ℕ). check_groups (minus (full n) F) links s among a c) a2 c2 e2 in
        (a1, c1, a2, c2, e0, e1, e3)

    abbrev RoutesFrom : (a c : ℕ) → Type 0
    RoutesFrom a c =
        (a ≡ 4 + 9 * ins + 9 * mids + 9 * outs) × (c ≡ ins + mids + outs)
        × Span s 4 (encode_routes 0x11 (routes_at s 4 ins)) × Fan n f links F A (minus S A) (routes_at s 4 ins)
        × Span s (4 + 9 * ins) (encode_routes 0x12 (routes_at s (4 + 9 * ins) mids)) × Mesh n links F S (routes_at s (4 + 9 * ins) mids)
        × Span s (4 + 9 * ins + 9 * mids) (encode_routes 0x13 (routes_at s (4 + 9 * ins + 9 * mids) outs))
        × Fan n f links F S (minus (minus (full n) F) S) (routes_at s (4 + 9 * ins + 9 * mids) outs)

    routes_from : (a1 c1 a2 c2 a c : ℕ) → check_groups (minus (full n) F) links s inward 4 0 ≡ reached a1 c1 → check_groups (minus (full n) F) links s among a1 c1 ≡ reached a2 c2
        → check_groups (minus (full n) F) links s outward a2 c2 ≡ reached a c → RoutesFrom a c
    unfolding inward_due outward_due width
    routes_from a1 c1 a2 c2 a c e0 e1 e3 =
        let (p1, q1, s1, f1) = fan_forward n f links F few s 0x11 A (minus S A) 4 0 a1 c1 refl e0 in
        let (p2, q2, s2, f2) = mesh_forward n f links F few s S (4 + 9 * ins) c1 a2 c2 (rw p1 at e1) in
        let (p3, q3, s3, f3) = fan_forward n f links F few s 0x13 S (minus (minus (full n) F) S) (4 + 9 * ins + 9 * mids) c2 a c refl (rw p2 at e3) in
        (p3, omega arith, s1, f1, s2, f2, s3, f3)

    routes_forward : (a c : ℕ) → check_groups (minus (full n) F) links s (routes_due n f F A S) 4 0 ≡ reached a c → RoutesFrom a c
    routes_forward a c e = let (a1, c1, a2, c2, e0, e1, e3) = routes_parts a c e in routes_from a1 c1 a2 c2 a c e0 e1 e3

    routes_backward : (is ms os : List Route)
        → Fan n f links F A (minus S A) is → Mesh n links F S ms → Fan n f links F S (minus (minus (full n) F) S) os
        → Span s 4 (encode_routes 0x11 is) → Span s (4 + 9 * length is) (encode_routes 0x12 ms)
        → Span s (4 + 9 * length is + 9 * length ms) (encode_routes 0x13 os)
        → check_groups (minus (full n) F) links s (routes_due n f F A S) 4 0
        ≡ reached (4 + 9 * length is + 9 * length ms + 9 * length os) (0 + length is + length ms + length os)
    unfolding width
    routes_backward is ms os f1 f2 f3 s1 s2 s3 =
        let e0 = fan_backward n f links F few s 0x11 A (minus S A) 4 0 is refl f1 s1 in
        let e1 = mesh_backward n f links F few s S (4 + 9 * length is) (0 + length is) ms f2 s2 in
        let e2 = fan_backward n f links F few s 0x13 S (minus (minus (full n) F) S) (4 + 9 * length is + 9 * length ms) (0 + length is + length ms) os refl f3 s3 in
        routes_row 4 0 ∙ rw (e0, e1) e2

  -- what the check of a block says

  module _ (s : List ℕ) (d : DueBlock) where
    abbrev F : ℕ
    F = get_or s 1 0

    abbrev A : ℕ
    A = get_or s 2 0

    abbrev S : ℕ
    S = get_or s 3 0

    abbrev W : ℕ
    W = minus (full n) d.faults

    block_parts : (a c : ℕ) → check_block n f links s d ≡ reached a c
        → (a3 c3 : ℕ) × (is_cut s 0 ≡ false) × (get_or s 0 0 ≡ 0x10) × (F ≡ d.faults) × ((A ≡ d.part) ⊎ (A ≡ minus W d.part))
        × (S ≡ 0 → ⊥) × (within S W ≡ true) × (check_groups (minus (full n) F) links s (routes_due n f F A S) 4 0 ≡ reached a3 c3)
        × (check_reports n f links F s (members F) a3 c3 ≡ reached a c)
    unfolding check_block
    block_parts a c e =
        let sides = eqb A d.part || eqb A (minus W d.part) in
        let (cut, is, e1) = due_forward s 0 0x10 _ a c e in
        let (t1, e2) = cond_true (eqb F d.faults && sides) _ 7 0 a c e1 in
        let (t2, e3) = cond_true (not (eqb S 0) && within S W) _ 8 0 a c e2 in
        let (a3, c3, e4, e5) = then_forward (check_groups (minus (full n) F) links s (routes_due n f F A S) 4 0) (λ (a c : ℕ). check_reports n f links F s (members F) a c) a c e3 in
        let side = ⊎_elim (λ q. inl (eqb-true A d.part q)) (λ q. inr (eqb-true A (minus W d.part) q)) (or_cases (eqb A d.part) _ (and_right (eqb F d.faults) sides t1)) in
        let some = eqb-false S 0 (not_true (eqb S 0) (and_left (not (eqb S 0)) _ t2)) in
        (a3, c3, cut, is, eqb-true F d.faults (and_left (eqb F d.faults) sides t1), side, some, and_right (not (eqb S 0)) (within S W) t2, e4, e5)

    -- the decoded block
    module _ (a3 c3 a c : ℕ) (cut : is_cut s 0 ≡ false) (is : get_or s 0 0 ≡ 0x10) (faults : F ≡ d.faults) (side : (A ≡ d.part) ⊎ (A ≡ minus W d.part))
        (some : S ≡ 0 → ⊥) (inside : within S W ≡ true) (routes : RoutesFrom s F A S a3 c3) (last : check_reports n f links F s (members F) a3 c3 ≡ reached a c) where
      abbrev end : ℕ
      end = 4 + 9 * ins s F A S + 9 * mids s F A S + 9 * outs s F A S

      abbrev told : List Report
      told = reports_at s end (size F)

      reports_from : (a ≡ end + 3 * size F) × (c ≡ c3 + size F * (f + 1)) × Span s end (encode_reports told)
          × (map reports_to told ≡ members F) × Each (IsReport n f links F) told
      reports_from = reports_forward n f links F few s end c3 a c (rw routes.0 at last)

      decoded_in : InBlock n f links d (decode_block n f s)
      unfolding decode_block
      decoded_in = record {
        faults = faults;
        side = side;
        some = some;
        inside = rw faults inside;
        inward = routes.3;
        among = routes.5;
        outward = routes.7;
        told = reports_from.3;
        reports = reports_from.4;
      }

      decoded_span : Span s 0 (encode_block (decode_block n f s))
      unfolding decode_block encode_block width
      decoded_span =
          let b = decode_block n f s in
          let i = encode_routes 0x11 b.inward in
          let m = encode_routes 0x12 b.among in
          let o = encode_routes 0x13 b.outward in
          let r = encode_reports b.reports in
          let x = ap (λ (k : ℕ). 9 * k) (routes_length s 4 (ins s F A S)) in
          let y = ap (λ (k : ℕ). 9 * k) (routes_length s (4 + 9 * ins s F A S) (mids s F A S)) in
          let z = ap (λ (k : ℕ). 9 * k) (routes_length s (4 + 9 * ins s F A S + 9 * mids s F A S) (outs s F A S)) in
          let p4 = span_four s 4 i m o r (9 * ins s F A S) (9 * mids s F A S) (9 * outs s F A S) (inward_long d b decoded_in ∙ x) (among_long d b decoded_in ∙ y) (outward_long d b decoded_in ∙ z) routes.2 routes.4 routes.6 reports_from.2 in
          let w = whole_command s 0 4 cut (ap width is) in
          front s 0x10 (i ++ m ++ o ++ r) (omega arith) is p4

      decoded_end : a ≡ length_of (decode_block n f s)
      unfolding decode_block length_of
      decoded_end =
          let x = routes_length s 4 (ins s F A S) in
          let y = routes_length s (4 + 9 * ins s F A S) (mids s F A S) in
          let z = routes_length s (4 + 9 * ins s F A S + 9 * mids s F A S) (outs s F A S) in
          let w = reports_length s end (size F) in
          let e = reports_from.0 in
          omega arith

      decoded_carriages : c ≡ length (carriages_of (decode_block n f s))
      unfolding decode_block
      decoded_carriages =
          let x = routes_length s 4 (ins s F A S) in
          let y = routes_length s (4 + 9 * ins s F A S) (mids s F A S) in
          let z = routes_length s (4 + 9 * ins s F A S + 9 * mids s F A S) (outs s F A S) in
          let w = ap (λ (k : ℕ). k * (f + 1)) (reports_length s end (size F)) in
          let l = carriages_long d (decode_block n f s) decoded_in in
          let e = reports_from.1 in
          omega arith

  pub block_forward : (s : List ℕ) (d : DueBlock) (a c : ℕ) → check_block n f links s d ≡ reached a c
      → InBlock n f links d (decode_block n f s) × Span s 0 (encode_block (decode_block n f s))
      × (a ≡ length_of (decode_block n f s)) × (c ≡ length (carriages_of (decode_block n f s)))
  block_forward s d a c e =
      let (a3, c3, cut, is, faults, side, some, inside, groups, last) = block_parts s d a c e in
      let routes = routes_forward s (get_or s 1 0) (get_or s 2 0) (get_or s 3 0) a3 c3 groups in (
        decoded_in s d a3 c3 a c cut is faults side some inside routes last,
        decoded_span s d a3 c3 a c cut is faults side some inside routes last,
        decoded_end s d a3 c3 a c cut is faults side some inside routes last,
        decoded_carriages s d a3 c3 a c cut is faults side some inside routes last,
      )

  -- a block within the rules passes the check
  module _ (s : List ℕ) (d : DueBlock) (b : Block) (g : InBlock n f links d b) where
    head_test : eqb b.faults d.faults && (eqb b.side d.part || eqb b.side (minus (minus (full n) d.faults) d.part)) ≡ true
    head_test =
        let x = eq-eqb b.faults d.faults g.faults in
        ⊎_elim
        (λ e. let y = eq-eqb b.side d.part e in cc)
        (λ e. let y = eq-eqb b.side (minus (minus (full n) d.faults) d.part) e in cases (eqb b.side d.part) (λ z. cc) (λ z. cc))
        g.side

    quorum_test : not (eqb b.quorum 0) && within b.quorum (minus (full n) d.faults) ≡ true
    quorum_test =
        let x = ne_eqb b.quorum 0 g.some in
        let y : within b.quorum (minus (full n) d.faults) ≡ true = rw g.faults at g.inside in
        cc

    rest_backward : Span s 4 (encode_routes 0x11 b.inward ++ encode_routes 0x12 b.among ++ encode_routes 0x13 b.outward ++ encode_reports b.reports)
        → and_then (check_groups (minus (full n) b.faults) links s (routes_due n f b.faults b.side b.quorum) 4 0) (λ (a c : ℕ). check_reports n f links b.faults s (members b.faults) a c)
        ≡ reached (length_of b) (length (carriages_of b))
    unfolding length_of
    rest_backward p =
        let li = length b.inward in
        let lm = length b.among in
        let lo = length b.outward in
        let lr = length b.reports in
        let (p1, p2, p3, p4) = four_spans s 4 (encode_routes 0x11 b.inward) (encode_routes 0x12 b.among) (encode_routes 0x13 b.outward) (encode_reports b.reports) (9 * li) (9 * lm) (9 * lo) (inward_long d b g) (among_long d b g) (outward_long d b g) p in
        let e = routes_backward s b.faults b.side b.quorum b.inward b.among b.outward g.inward g.among g.outward p1 p2 p3 in
        let r = reports_backward n f links b.faults few s (4 + 9 * li + 9 * lm + 9 * lo) (0 + li + lm + lo) b.reports g.told g.reports p4 in
        let x : 4 + 9 * li + 9 * lm + 9 * lo + 3 * lr ≡ 4 + 9 * (li + lm + lo) + 3 * lr = omega arith in
        let l = carriages_long d b g in
        let y : 0 + li + lm + lo + lr * (f + 1) ≡ length (carriages_of b) = omega arith in
        rw e (rw (x, y) at r)

    pub block_backward : Span s 0 (encode_block b) → check_block n f links s d ≡ reached (length_of b) (length (carriages_of b))
    unfolding encode_block check_block width
    block_backward p =
        let rest = encode_routes 0x11 b.inward ++ encode_routes 0x12 b.among ++ encode_routes 0x13 b.outward ++ encode_reports b.reports in
        let (long, is, eF, eA, eS, p4) = front_parts s 0x10 b.faults b.side b.quorum rest p in
        let cut = cut_backward s 0 4 (ap width is) (omega arith) (omega arith) in
        let e = rest_backward p4 in
        let x = head_test in
        let y = quorum_test in
        due_backward s 0 0x10 _ cut is ∙ rw (eF, eA, eS) (rw (x, y) e)

  -- the blocks of a list of due ones

  module _ (s : List ℕ) where
    abbrev Reach : (ds : List DueBlock) (bs : List Block) (at c a c' : ℕ) → Type 0
    Reach ds bs at c a c' =
        InOrder n f links ds bs × Span s at (encode_blocks bs) × (a ≡ at + length (encode_blocks bs)) × (c' ≡ c + length (plan_carriages bs))

    -- one block more
    reach_more : (d : DueBlock) (ds : List DueBlock) (b : Block) (bs : List Block) (at c a c' : ℕ)
        → InBlock n f links d b → Span (drop at s) 0 (encode_block b) → Reach ds bs (at + length_of b) (c + length (carriages_of b)) a c'
        → Reach (d ∷ ds) (b ∷ bs) at c a c'
    unfolding encode_blocks plan_carriages
    reach_more d ds b bs at c a c' g p (o, q, x, y) =
        let l = block_long d b g in
        let z : at + length_of b ≡ at + length (encode_block b) = omega arith in
        let m = length-append (encode_block b) (encode_blocks bs) in
        let k = length-append (carriages_of b) (plan_carriages bs) in
        ((g, o), span_append s at (encode_block b) (encode_blocks bs) (span_out s at (encode_block b) p) (rw z at q), omega arith, omega arith)

    reach_of : (ds : List DueBlock) (at c a c' : ℕ) → check_blocks n f links s ds at c ≡ reached a c'
        → Reach ds (decode_blocks n f (drop at s) (length ds)) at c a c'
    unfolding check_blocks decode_blocks encode_blocks plan_carriages
    reach_of [] at c a c' e = let (x, y) = reached_same at c a c' e in (tt, span_empty s at, omega arith, omega arith)
    reach_of (d ∷ ds) at c a c' e =
        let b = decode_block n f (drop at s) in
        let (a1, c1, e1, e2) = then_forward (onward at c (check_block n f links (drop at s) d)) (λ (a c : ℕ). check_blocks n f links s ds a c) a c' e in
        let (a0, c0, e0, x, y) = onward_forward at c (check_block n f links (drop at s) d) a1 c1 e1 in
        let (g, p, u, v) = block_forward (drop at s) d a0 c0 e0 in
        let x2 : a1 ≡ at + length_of b = x ∙ ap (λ (k : ℕ). at + k) u in
        let y2 : c1 ≡ c + length (carriages_of b) = y ∙ ap (λ (k : ℕ). c + k) v in
        let e3 : check_blocks n f links s ds (at + length_of b) (c + length (carriages_of b)) ≡ reached a c' = rw (x2, y2) at e2 in
        let ih = reach_of ds (at + length_of b) (c + length (carriages_of b)) a c' e3 in
        reach_more d ds b (decode_blocks n f (drop (length_of b) (drop at s)) (length ds)) at c a c' g p (rw (drop-drop (length_of b) at s) ih)

  pub blocks_forward : (s : List ℕ) (ds : List DueBlock) (at c a c' : ℕ) → check_blocks n f links s ds at c ≡ reached a c'
      → InOrder n f links ds (decode_blocks n f (drop at s) (length ds)) × Span s at (encode_blocks (decode_blocks n f (drop at s) (length ds)))
      × (a ≡ at + length (encode_blocks (decode_blocks n f (drop at s) (length ds)))) × (c' ≡ c + length (plan_carriages (decode_blocks n f (drop at s) (length ds))))
  blocks_forward s ds at c a c' e = reach_of s ds at c a c' e

  pub blocks_backward : (s : List ℕ) (ds : List DueBlock) (bs : List Block) (at c : ℕ) → InOrder n f links ds bs → Span s at (encode_blocks bs)
      → check_blocks n f links s ds at c ≡ reached (at + length (encode_blocks bs)) (c + length (plan_carriages bs))
  unfolding check_blocks encode_blocks plan_carriages
  blocks_backward s [] [] at c o p = let x : at + 0 ≡ at = omega arith in let y : c + 0 ≡ c = omega arith in rw (x, y) refl
  blocks_backward s [] (b ∷ bs) at c o p = absurd o
  blocks_backward s (d ∷ ds) [] at c o p = absurd o
  blocks_backward s (d ∷ ds) (b ∷ bs) at c o p =
      let g = o.0 in
      let l = block_long d b g in
      let z : at + length (encode_block b) ≡ at + length_of b = omega arith in
      let e = block_backward (drop at s) d b g (span_in s at (encode_block b) (span_left s at (encode_block b) (encode_blocks bs) p)) in
      let ih = blocks_backward s ds bs (at + length_of b) (c + length (carriages_of b)) o.1 (rw z at (span_right s at (encode_block b) (encode_blocks bs) p)) in
      let m = length-append (encode_block b) (encode_blocks bs) in
      let k = length-append (carriages_of b) (plan_carriages bs) in
      let x : at + length_of b + length (encode_blocks bs) ≡ at + length (encode_block b ++ encode_blocks bs) = omega arith in
      let y : c + length (carriages_of b) + length (plan_carriages bs) ≡ c + length (carriages_of b ++ plan_carriages bs) = omega arith in
      rw e (rw (x, y) at ih)

pub decode_length : (n f : ℕ) (s : List ℕ) (k : ℕ) → length (decode_blocks n f s k) ≡ k
unfolding decode_blocks
decode_length n f s zero = refl
decode_length n f s (suc k) = ap suc (decode_length n f (drop (length_of (decode_block n f s)) s) k)
