-- The carriages of a kind of a block, as the code counts them.
--     sent_routes, ..   those that a server sends on, over routes or as reports; due_routes, ..: those that come to it
--     kind_counts       a word that counts as a kind has its carriages
-- Assumes nothing.
use mathlib.Core.Path.{◌≡◌, refl, sym, ap, ◌∙◌}
use mathlib.Core.List.{List, [], map}
use Prim.Native.Nat.{ℕ, ◌*◌, ◌≤◌, ◌<◌}
use native.Mathlib.Nat.{mul-le-mul}
use native.Mathlib.Omega.{arith}
use Rattle.std.proofs.lemmas.List.Sums.{count_by-le-length}
use lib.Dec.{eqb}
use lib.ListN.{length}
use borrow.Author.Tests.{ne_eqb}
use Rattle.std.specs.Prelude.{count_by}
use Rattle.facts.specs.Lists.{Each}
use Rattle.sets.specs.Sets.{has}
use Rattle.rules.specs.Blocks.{Route, Report, Block, carriage_of, report_carriages, reports_at}
use Rattle.rules.proofs.Reports.{reports_length}
use Rattle.carriage.specs.Openings.{ReportOf, ReportsThere}
use Rattle.part.specs.Own.{source, given, received, carriages_of}
use Rattle.own.specs.declared.kind.Kind.{Kind}
use Rattle.own.specs.Kinds.{Counts, word_of}
use Rattle.server.proofs.Tallies.{given_routes, received_routes, given_reports, received_reports}

module _ (i x : ℕ) where
  module _ (ps qs : List Route) (e : ps ≡ qs) where
    pub sent_routes : x ≡ count_by (λ (p : Route). eqb (source (carriage_of p)) i) ps → x ≡ length (given 0 i (map carriage_of qs))
    sent_routes h = h ∙ sym (given_routes i ps) ∙ ap (λ (l : List Route). length (given 0 i (map carriage_of l))) e

    pub due_routes : x ≡ count_by (λ (p : Route). eqb (carriage_of p).receiver i) ps → x ≡ length (received [] 0 i (map carriage_of qs))
    due_routes h = h ∙ sym (received_routes i ps) ∙ ap (λ (l : List Route). length (received [] 0 i (map carriage_of l))) e

  module _ (rs ss : List Report) (e : rs ≡ ss) where
    pub sent_reports : i < 8 → x ≡ count_by (λ (r : Report). has r.reporters i) rs → x ≡ length (given 0 i (report_carriages ss))
    sent_reports l h = h ∙ sym (given_reports i l rs) ∙ ap (λ (l : List Report). length (given 0 i (report_carriages l))) e

    pub due_reports : (each : ℕ) → Each (ReportOf each) rs → x ≡ count_by (λ (r : Report). eqb r.receiver i) rs → x * each ≡ length (received [] 0 i (report_carriages ss))
    due_reports each t h = ap (λ (k : ℕ). k * each) h ∙ sym (received_reports i each rs t) ∙ ap (λ (l : List Report). length (received [] 0 i (report_carriages l))) e

-- at most as many commands as there are bytes, of at most eight reports each
pub due_fits : (s : List ℕ) (at count each i x : ℕ) → ReportsThere s at count each → x ≡ count_by (λ (r : Report). eqb r.receiver i) (reports_at s at count) → x * each < 18446744073709551616
due_fits s at count each i x there e =
    let few = count_by-le-length (λ (r : Report). eqb r.receiver i) (reports_at s at count) in
    let l = reports_length s at count in
    let f = there.fits in
    let g = there.short in
    let h : x ≤ 1048576 = omega arith in
    let p = mul-le-mul h there.few in
    omega arith

pub kind_counts : (w : ℕ) (k : Kind) (b : Block) → Counts w k → carriages_of (word_of k) b ≡ carriages_of w b
unfolding carriages_of
kind_counts w Kind.Inward b c = rw c refl
kind_counts w Kind.Among b c = rw c refl
kind_counts w Kind.Outward b c = rw c refl
kind_counts w Kind.Reports b c = sym (simp (ne_eqb _ _ c.0, ne_eqb _ _ c.1, ne_eqb _ _ c.2))
