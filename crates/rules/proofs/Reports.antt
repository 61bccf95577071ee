-- The reports of a block: the check of the commands 14, one for each server of F.
--     reports_forward   what passes the check is the encoding of reports within the rules; reports_backward the other way
--     reports_length    as many reports are read as are asked for
--     reports_long      three bytes for each report
--     report_carriages_lem  f + 1 carriages for each report
-- Assumes nothing.
use mathlib.Core.Path.{◌≡◌, refl, ap, ◌∙◌}
use mathlib.Core.Logic.{⊎_elim}
use mathlib.Core.Bool.{true, ◌&&◌}
use mathlib.Core.List.Memᴰ
use mathlib.Core.List.{List, [], ◌∷◌, map}
use Prim.Native.Nat.{ℕ, zero, suc, ◌+◌, ◌*◌, ◌≤◌, ◌<◌}
use native.Mathlib.Nat.{suc-mul}
use native.Mathlib.Omega.{arith}
use lib.Dec.{eqb, ltb}
use lib.ListN.{length, get_or, length-append}
use borrow.Author.Tests.{eq-eqb, eqb-true, ltb-true}
use Rattle.facts.proofs.Bools.{cases, and_left, and_right, both}
use Rattle.sets.specs.Sets.{has, minus, within, full, size}
use Rattle.sets.proofs.Members.{has_minus, has_full, within_in}
use Rattle.network.specs.Links.{Links, linked_in}
use Rattle.sets.specs.Members.{members}
use Rattle.route.specs.Commands.{width}
use Rattle.plan.specs.Check.{reached, all_linked, is_report, check_reports}
use Rattle.plan.proofs.Groups.{whole_command}
use Rattle.rules.specs.Blocks.{Report, encode_reports, reports_at, report_from, report_carriages}
use Rattle.facts.specs.Lists.{Each}
use Rattle.rules.specs.Rules.{IsReport, reports_to}
use Rattle.rules.proofs.Lists.{length_members, members_in, in_members}
use Rattle.rules.proofs.Spans.{Span}
use Rattle.rules.proofs.Bytes.{span_cons, span_head, span_empty}
use Rattle.rules.proofs.Progress.{reached_same, cond_true, due_forward, due_backward, cut_backward}

-- links to k from each of a list

linked_each : (links : Links) (k : ℕ) (ms : List ℕ) → all_linked links k ms ≡ true → Each (λ m. linked_in links m k ≡ true) ms
unfolding all_linked
linked_each links k [] e = λ a m. elim m [ ]
linked_each links k (x ∷ xs) e =
    let ih = linked_each links k xs (and_right (linked_in links x k) (all_linked links k xs) e) in
    let h = and_left (linked_in links x k) (all_linked links k xs) e in
    λ a m. ⊎_elim (λ q. rw q h) (λ t. ih a t) (Memᴰ.cases_cons m)

each_linked : (links : Links) (k : ℕ) (ms : List ℕ) → Each (λ m. linked_in links m k ≡ true) ms → all_linked links k ms ≡ true
unfolding all_linked
each_linked links k [] h = refl
each_linked links k (x ∷ xs) h =
    both (linked_in links x k) (all_linked links k xs) (h x (Memᴰ.head refl)) (each_linked links k xs (λ a m. h a (Memᴰ.tail m)))

-- lengths

pub reports_length : (s : List ℕ) (at k : ℕ) → length (reports_at s at k) ≡ k
unfolding reports_at
reports_length s at zero = refl
reports_length s at (suc k) = ap suc (reports_length s (at + 3) k)

pub reports_long : (rs : List Report) → length (encode_reports rs) ≡ 3 * length rs
unfolding encode_reports
reports_long [] = refl
reports_long (r ∷ rs) = let ih = reports_long rs in omega arith

module _ (n f : ℕ) (links : Links) (F : ℕ) (few : n ≤ 8) where
  -- a server of V−F is below 8
  sound_low : (N i : ℕ) → within N (minus (full n) F) ≡ true → has N i ≡ true → i < 8
  sound_low N i w e =
      let a = within_in N (minus (full n) F) w i e in
      let b = has_minus (full n) F i in
      let c = has_full n i in
      let d : ltb i n ≡ true = cases (ltb i n) (λ q. q) (λ q. cc) in
      let l = ltb-true i n d in
      omega arith

  report_rules : (k N : ℕ) → is_report n f links F k N ≡ true → IsReport n f links F (record { receiver = k; reporters = N })
  unfolding is_report
  report_rules k N e =
      let w = and_left (within N (minus (full n) F)) _ e in
      let e1 = and_right (within N (minus (full n) F)) _ e in
      let l = linked_each links k (members N) (and_right (eqb (size N) (f + 1)) _ e1) in
      record {
        sound = w;
        exact = eqb-true (size N) (f + 1) (and_left _ _ e1);
        linked = λ i h. l i (in_members N i h (sound_low N i w h));
      }

  rules_report : (r : Report) → IsReport n f links F r → is_report n f links F r.receiver r.reporters ≡ true
  unfolding is_report
  rules_report r g =
      let w = g.sound in
      let x = eq-eqb (size r.reporters) (f + 1) g.exact in
      let l = each_linked links r.receiver (members r.reporters) (λ i m. g.linked i (members_in r.reporters i m).0) in
      both _ _ w (both _ _ x l)

  -- carriages

  from_length : (k : ℕ) (ms : List ℕ) → length (report_from k ms) ≡ length ms
  from_length k [] = refl
  from_length k (m ∷ ms) = ap suc (from_length k ms)

  carriages_length : (rs : List Report) → Each (IsReport n f links F) rs → length (report_carriages rs) ≡ length rs * (f + 1)
  unfolding report_carriages
  carriages_length [] h = omega arith
  carriages_length (r ∷ rs) h =
      let ih = carriages_length rs (λ a m. h a (Memᴰ.tail m)) in
      let a = length-append (report_from r.receiver (members r.reporters)) (report_carriages rs) in
      let b = from_length r.receiver (members r.reporters) in
      let c = length_members r.reporters in
      let d = (h r (Memᴰ.head refl)).exact in
      let e : suc (length rs) * (f + 1) ≡ length rs * (f + 1) + (f + 1) = suc-mul (length rs) (f + 1) in
      omega arith

  module _ (s : List ℕ) where
    -- the check of the reports to a list of servers
    forward : (ks : List ℕ) (at c a c' : ℕ) → check_reports n f links F s ks at c ≡ reached a c'
        → (a ≡ at + 3 * length ks) × (c' ≡ c + length ks * (f + 1)) × Span s at (encode_reports (reports_at s at (length ks)))
        × (map reports_to (reports_at s at (length ks)) ≡ ks) × Each (IsReport n f links F) (reports_at s at (length ks))
    unfolding check_reports reports_at encode_reports width
    forward [] at c a c' e = let (p, q) = reached_same at c a c' e in (omega arith, omega arith, span_empty s at, refl, λ r m. elim m [ ])
    forward (k ∷ ks) at c a c' e =
        let test = eqb (get_or s (at + 1) 0) k && is_report n f links F k (get_or s (at + 2) 0) in
        let (cut, is, e1) = due_forward s at 0x14 _ a c' e in
        let (sound, e2) = cond_true test _ 11 at a c' e1 in
        let (p, q, span, told, each) = forward ks (at + 3) (c + (f + 1)) a c' e2 in
        let to = eqb-true (get_or s (at + 1) 0) k (and_left (eqb (get_or s (at + 1) 0) k) _ sound) in
        let rules = report_rules k (get_or s (at + 2) 0) (and_right (eqb (get_or s (at + 1) 0) k) _ sound) in
        let w = whole_command s at 3 cut (ap width is) in
        let m = suc-mul (length ks) (f + 1) in
        let y : at + 1 + 1 ≡ at + 2 = omega arith in
        let z : at + 2 + 1 ≡ at + 3 = omega arith in
        let rest = encode_reports (reports_at s (at + 3) (length ks)) in
        let s2 = span_cons s (at + 2) (get_or s (at + 2) 0) rest (omega arith) refl (rw z span) in
        let s1 = span_cons s (at + 1) (get_or s (at + 1) 0) (get_or s (at + 2) 0 ∷ rest) (omega arith) refl (rw y s2) in (
          omega arith,
          omega arith,
          span_cons s at 0x14 (get_or s (at + 1) 0 ∷ get_or s (at + 2) 0 ∷ rest) (omega arith) is s1,
          (λ i. to i ∷ told i),
          λ r i. ⊎_elim (λ t. rw t (rw to rules)) (λ t. each r t) (Memᴰ.cases_cons i),
        )

    backward : (at c : ℕ) (rs : List Report) → Each (IsReport n f links F) rs → Span s at (encode_reports rs)
        → check_reports n f links F s (map reports_to rs) at c ≡ reached (at + 3 * length rs) (c + length rs * (f + 1))
    unfolding check_reports encode_reports width
    backward at c [] h p = let y : at + 3 * 0 ≡ at = omega arith in let z : c + 0 * (f + 1) ≡ c = omega arith in rw (y, z) refl
    backward at c (r ∷ rs) h p =
        let (l, is, p1) = span_head s at 0x14 (r.receiver ∷ r.reporters ∷ encode_reports rs) p in
        let (l1, is1, p2) = span_head s (at + 1) r.receiver (r.reporters ∷ encode_reports rs) p1 in
        let y : at + 1 + 1 ≡ at + 2 = omega arith in
        let (l2, is2, p3) = span_head s (at + 2) r.reporters (encode_reports rs) (rw y at p2) in
        let z : at + 2 + 1 ≡ at + 3 = omega arith in
        let ih = backward (at + 3) (c + (f + 1)) rs (λ a m. h a (Memᴰ.tail m)) (rw z at p3) in
        let cut = cut_backward s at 3 (ap width is) (omega arith) (omega arith) in
        let to = eq-eqb (get_or s (at + 1) 0) r.receiver is1 in
        let sound : is_report n f links F r.receiver (get_or s (at + 2) 0) ≡ true = rw is2 (rules_report r (h r (Memᴰ.head refl))) in
        let m = suc-mul (length rs) (f + 1) in
        let u : at + 3 * suc (length rs) ≡ at + 3 + 3 * length rs = omega arith in
        let v : c + suc (length rs) * (f + 1) ≡ c + (f + 1) + length rs * (f + 1) = omega arith in
        due_backward s at 0x14 _ cut is ∙ rw (to, sound, u, v) ih

module _ (n f : ℕ) (links : Links) (F : ℕ) (few : n ≤ 8) (s : List ℕ) where
  pub reports_forward : (at c a c' : ℕ) → check_reports n f links F s (members F) at c ≡ reached a c'
      → (a ≡ at + 3 * size F) × (c' ≡ c + size F * (f + 1)) × Span s at (encode_reports (reports_at s at (size F)))
      × (map reports_to (reports_at s at (size F)) ≡ members F) × Each (IsReport n f links F) (reports_at s at (size F))
  reports_forward at c a c' e = rw (← length_members F) (forward n f links F few s (members F) at c a c' e)

  pub reports_backward : (at c : ℕ) (rs : List Report) → map reports_to rs ≡ members F → Each (IsReport n f links F) rs → Span s at (encode_reports rs)
      → check_reports n f links F s (members F) at c ≡ reached (at + 3 * length rs) (c + length rs * (f + 1))
  reports_backward at c rs told each span = rw (← told) (backward n f links F few s at c rs each span)

  pub report_carriages_lem : (rs : List Report) → Each (IsReport n f links F) rs → length (report_carriages rs) ≡ length rs * (f + 1)
  report_carriages_lem rs each = carriages_length n f links F few rs each
