-- How many carriages of a list a server sends on, and how many come to it, each as the number of routes or reports that pass a test.
--     tally              how many of a list pass a test
--     given_routes       the carriages over routes that a server sends on; received_routes: that come to it
--     given_reports      the reports that it gives: one for each command that has it among the reporters
--     received_reports   the reports that come to it: as many as a command has reporters, for each that has it as receiver
-- Assumes nothing.
use mathlib.Core.Path.{◌≡◌, refl, sym, ap, ◌∙◌}
use mathlib.Core.Bool.{Bool, true, false, cond, ◌&&◌}
use mathlib.Core.List.Memᴰ
use mathlib.Core.List.{List, [], ◌∷◌, ◌++◌, map}
use Prim.Native.Nat.{ℕ, zero, suc, ◌+◌, ◌*◌, ◌≤◌, ◌<◌}
use native.Mathlib.Nat.{add-mul}
use native.Mathlib.Omega.{arith}
use lib.ListN.{length}
use lib.Dec.{eqb, ltb}
use borrow.Author.Tests.{lt-ltb, le-ltb, ne_eqb, eqb-true, eqb-false}
use Rattle.std.specs.Prelude.{count_by}
use Rattle.std.proofs.lemmas.List.Sums.{sum_by-cons}
use Rattle.facts.specs.Lists.{Each}
use Rattle.facts.proofs.Bools.{cases}
use Rattle.sets.specs.Sets.{Set, has}
use Rattle.sets.specs.Members.{list_from, members}
use Rattle.rules.specs.Blocks.{Route, Report, Carriage, carriage_of, report_from, report_carriages}
use Rattle.rules.proofs.Lists.{length_members}
use Rattle.carriage.specs.Openings.{ReportOf}
use Rattle.part.specs.Own.{source, given, received}

unfoldable tally : {A : Type 0} → (A → Bool) → List A → ℕ
tally p [] = 0
tally p (x ∷ xs) = cond (p x) 1 0 + tally p xs

-- the count of the library is the same
count_tally : {A : Type 0} (p : A → Bool) (xs : List A) → tally p xs ≡ count_by p xs
unfolding tally
count_tally {A = A} p [] = refl
count_tally {A = A} p (x ∷ xs) = let ih = count_tally p xs in let e = sum_by-cons (λ (y : A). cond (p y) 1 0) x xs in omega arith

-- the tests

unfoldable starts_at : ℕ → Carriage → Bool
starts_at i c = eqb (source c) i

unfoldable ends_at : ℕ → Carriage → Bool
ends_at i c = eqb c.receiver i

unfoldable route_from : ℕ → Route → Bool
route_from i p = starts_at i (carriage_of p)

unfoldable route_to : ℕ → Route → Bool
route_to i p = ends_at i (carriage_of p)

-- a reporter is one of the eight servers that there can be
unfoldable report_by : ℕ → Report → Bool
report_by i r = ltb i 8 && has r.reporters i

unfoldable report_to : ℕ → Report → Bool
report_to i r = eqb r.receiver i

-- any carriages

given_tally : (x i : ℕ) (cs : List Carriage) → length (given x i cs) ≡ tally (starts_at i) cs
unfolding given tally starts_at
given_tally x i [] = refl
given_tally x i (c ∷ cs) = let ih = given_tally x i cs in cases (eqb (source c) i) (λ e. rw e (omega arith)) (λ e. rw e (omega arith))

received_tally : (arrived : List ℕ) (j i : ℕ) (cs : List Carriage) → length (received arrived j i cs) ≡ tally (ends_at i) cs
unfolding received tally ends_at
received_tally arrived j i [] = refl
received_tally arrived j i (c ∷ cs) =
    let mine = received_tally arrived (suc j) i cs in
    let other = received_tally arrived j i cs in
    cases (eqb c.receiver i) (λ e. rw e (omega arith)) (λ e. rw e (omega arith))

tally_append : {A : Type 0} (p : A → Bool) (xs ys : List A) → tally p (xs ++ ys) ≡ tally p xs + tally p ys
unfolding tally
tally_append p [] ys = omega arith
tally_append p (x ∷ xs) ys = let ih = tally_append p xs ys in omega arith

-- over routes

from_routes : (i : ℕ) (ps : List Route) → tally (starts_at i) (map carriage_of ps) ≡ tally (route_from i) ps
unfolding tally route_from
from_routes i [] = refl
from_routes i (p ∷ ps) = ap (λ (x : ℕ). cond (starts_at i (carriage_of p)) 1 0 + x) (from_routes i ps)

to_routes : (i : ℕ) (ps : List Route) → tally (ends_at i) (map carriage_of ps) ≡ tally (route_to i) ps
unfolding tally route_to
to_routes i [] = refl
to_routes i (p ∷ ps) = ap (λ (x : ℕ). cond (ends_at i (carriage_of p)) 1 0 + x) (to_routes i ps)

pub given_routes : (i : ℕ) (ps : List Route) → length (given 0 i (map carriage_of ps)) ≡ count_by (λ (p : Route). eqb (source (carriage_of p)) i) ps
unfolding route_from starts_at
given_routes i ps = given_tally 0 i (map carriage_of ps) ∙ from_routes i ps ∙ count_tally (route_from i) ps

pub received_routes : (i : ℕ) (ps : List Route) → length (received [] 0 i (map carriage_of ps)) ≡ count_by (λ (p : Route). eqb (carriage_of p).receiver i) ps
unfolding route_to ends_at
received_routes i ps = received_tally [] 0 i (map carriage_of ps) ∙ to_routes i ps ∙ count_tally (route_to i) ps

-- reports: the reporters of a command are listed in order, each once

module _ (r i : ℕ) where
  from_before : (k lo : ℕ) (p : Set) → i < lo → tally (starts_at i) (report_from r (list_from k lo p)) ≡ 0
  unfolding tally starts_at list_from
  from_before zero lo p h = refl
  from_before (suc k) lo p h =
      let ih = from_before k (suc lo) p (omega arith) in
      let e = ne_eqb lo i (λ z. omega arith) in
      cases (p lo) (λ x. rw (x, e) (omega arith)) (λ x. rw x ih)

  from_listed : (k lo : ℕ) (p : Set) → lo ≤ i → tally (starts_at i) (report_from r (list_from k lo p)) ≡ cond (ltb i (lo + k) && p i) 1 0
  unfolding tally starts_at list_from
  from_listed zero lo p h = let e = le-ltb i (lo + 0) (omega arith) in rw e refl
  from_listed (suc k) lo p h =
      let z : lo + suc k ≡ suc lo + k = omega arith in
      cases (eqb lo i)
      (λ e. let same = eqb-true lo i e in
      let none = from_before k (suc lo) p (omega arith) in
      let within = lt-ltb i (lo + suc k) (omega arith) in
      let here : p lo ≡ p i = ap p same in
      cases (p lo)
      (λ x. let y : p i ≡ true = sym here ∙ x in rw (x, e, none, within, y) refl)
      (λ x. let y : p i ≡ false = sym here ∙ x in rw (x, none, within, y) refl))
      (λ e. let other = eqb-false lo i e in
      let ih = from_listed k (suc lo) p (omega arith) in
      cases (p lo) (λ x. rw (x, e, z, ih) (omega arith)) (λ x. rw (x, z, ih) refl))

  to_listed : (ms : List ℕ) → tally (ends_at i) (report_from r ms) ≡ cond (eqb r i) 1 0 * length ms
  unfolding tally ends_at
  to_listed [] = omega arith
  to_listed (m ∷ ms) = let ih = to_listed ms in cases (eqb r i) (λ e. let h = rw e at ih in rw e (omega arith)) (λ e. let h = rw e at ih in rw e (omega arith))

module _ (i : ℕ) where
  from_reports : (rs : List Report) → tally (starts_at i) (report_carriages rs) ≡ tally (report_by i) rs
  unfolding tally report_by report_carriages members
  from_reports [] = refl
  from_reports (r ∷ rs) =
      let ih = from_reports rs in
      let one = from_listed r.receiver i 8 0 (has r.reporters) (omega arith) in
      tally_append (starts_at i) (report_from r.receiver (members r.reporters)) (report_carriages rs) ∙ rw (one, ih) refl

  given_counted : (rs : List Report) → length (given 0 i (report_carriages rs)) ≡ count_by (λ (r : Report). ltb i 8 && has r.reporters i) rs
  unfolding report_by
  given_counted rs = given_tally 0 i (report_carriages rs) ∙ from_reports rs ∙ count_tally (report_by i) rs

  pub given_reports : i < 8 → (rs : List Report) → length (given 0 i (report_carriages rs)) ≡ count_by (λ (r : Report). has r.reporters i) rs
  given_reports h rs = let e = lt-ltb i 8 h in rw e at (given_counted rs)

  to_reports : (each : ℕ) (rs : List Report) → Each (ReportOf each) rs → tally (ends_at i) (report_carriages rs) ≡ tally (report_to i) rs * each
  unfolding tally report_to report_carriages
  to_reports each [] h = omega arith
  to_reports each (r ∷ rs) h =
      let ih = to_reports each rs (λ x m. h x (Memᴰ.tail m)) in
      let one = to_listed r.receiver i (members r.reporters) in
      let size = length_members r.reporters ∙ (h r (Memᴰ.head refl)).exact in
      let all = add-mul (cond (eqb r.receiver i) 1 0) (tally (report_to i) rs) each in
      tally_append (ends_at i) (report_from r.receiver (members r.reporters)) (report_carriages rs) ∙ rw (one, size, ih) (sym all)

  pub received_reports : (each : ℕ) (rs : List Report) → Each (ReportOf each) rs → length (received [] 0 i (report_carriages rs)) ≡ count_by (λ (r : Report). eqb r.receiver i) rs * each
  unfolding report_to
  received_reports each rs h = received_tally [] 0 i (report_carriages rs) ∙ to_reports each rs h ∙ ap (λ (k : ℕ). k * each) (count_tally (report_to i) rs)
