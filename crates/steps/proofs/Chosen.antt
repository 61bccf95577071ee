-- The choices of a block within the rules are such as Algorithm BC allows.
--     to_each         what holds of the path of each carriage to r holds of each path to r
--     to_apart        the paths to r are apart if the carriages to r share no server before r
--     to_length       there are as many paths to r as carriages to r
--     chosen_fan      the routes of a fan to one of its receivers are f + 1 disjoint paths
--     chosen_mesh     a mesh has a path from each server of S to each other
--     chosen_few      F has at most f servers; chosen_side: A has a server and so has B, and those of A are of V − F; chosen_quorum likewise for S
--     chosen_inward   the paths of Propagate(A, S − A); chosen_outward those of Propagate(S, V − F − S)
--     chosen_between  the paths of Equality(S); chosen_reports the members of N_k
--     chosen_allowed  the choices of the block are such as the algorithm allows
-- Assumes nothing.
use mathlib.Core.Path.{◌≡◌, refl, sym, ap, ◌∙◌, subst}
use mathlib.Core.Logic.{⊎_elim}
use mathlib.Core.Bool.{true, false, cond, not, ◌&&◌}
use mathlib.Core.List.{List, [], ◌∷◌, ◌++◌, map, Memᴰ}
use Prim.Native.Nat.{ℕ, zero, suc, ◌+◌, ◌^◌, ◌≤◌, ◌<◌}
use native.Mathlib.Omega.{arith}
use lib.Bits.{bit_and, and_comm, and_le_l}
use lib.Pow.{pow_mono}
use lib.Dec.{eqb}
use lib.ListN.{length, get_or, replicate}
use borrow.Author.Tests.{lt-ltb, ltb-true, ne_eqb, eq-eqb, eqb-true, eqb-false}
use Rattle.facts.proofs.Bools.{cases, by_cond, is_false, and_left, and_right, not_true, both}
use Rattle.sets.specs.Sets.{In, Out, has, minus, within, full, size, count, lowest}
use Rattle.sets.proofs.Members.{has_minus, has_full, has_empty, within_in, minus_small, full_small, same_members}
use Rattle.sets.proofs.Counts.{size_count}
use Rattle.sets.proofs.LowestMember.{lowest_in}
use Rattle.network.specs.Links.{Links, linked_in}
use Rattle.sets.specs.Members.{members}
use Rattle.plan.specs.Due.{DueBlock, is_part}
use Rattle.rules.specs.Blocks.{Route, receiver_of, Report, Block, Carriage, carriage_of, report_from, report_carriages}
use Rattle.facts.specs.Lists.{Each}
use Rattle.rules.specs.Rules.{IsRoute, AllSeparate, repeated, Fan, sources_for, pairs_of, ends_of, Mesh, reports_to, InBlock}
use Rattle.rules.proofs.Lists.{members_in, in_members, length_members}
use Rattle.rules.proofs.Order.{part_back}
use Rattle.rules.proofs.Groups.{each_cons, each_append}
use Rattle.rules.proofs.Fans.{Different, members_different, map_join}
use Rattle.bc.specs.Algorithm.{Path}
use Rattle.bc.specs.Allowed.{PathTo, Apart, AllApart, Disjoint, Propagates, Connected, Neighbours, Inside, Allowed}
use Rattle.steps.specs.Choices.{path_of, paths_to, from, choice_of}
use Rattle.steps.proofs.Ways.{way, way_at, route_source, route_path, route_apart}

-- the paths to one receiver

pub to_each : (table : List ℕ) (r : ℕ) (Q : Path → Type 0) (k : ℕ) (cs : List Carriage)
    → ((c : Carriage) → Memᴰ c cs → c.receiver ≡ r → (j : ℕ) → Q (path_of table j c)) → Each Q (paths_to table k cs r)
unfolding paths_to
to_each table r Q k [] h = λ p m. elim m [ ]
to_each table r Q k (c ∷ cs) h =
    let ih = to_each table r Q (suc k) cs (λ d m. h d (mathlib.Core.List.Memᴰ.tail m)) in
    by_cond (Each Q) (eqb c.receiver r) (path_of table k c ∷ paths_to table (suc k) cs r) (paths_to table (suc k) cs r)
    (λ e. each_cons Q (path_of table k c) (paths_to table (suc k) cs r) (h c (mathlib.Core.List.Memᴰ.head refl) (eqb-true c.receiver r e) k) ih)
    (λ e. ih)

abbrev pub NoShare : Carriage → Carriage → Type 0
NoShare c d = (s : ℕ) → Memᴰ s (way c) → Memᴰ s (way d) → ⊥

-- any two carriages to r share no server before it
abbrev pub ApartTo : ℕ → List Carriage → Type 0
ApartTo r [] = Unit
ApartTo r (c ∷ cs) = Each (λ d. c.receiver ≡ r → d.receiver ≡ r → NoShare c d) cs × ApartTo r cs

pub to_apart : (table : List ℕ) (r k : ℕ) (cs : List Carriage) → ApartTo r cs → AllApart (paths_to table k cs r)
unfolding paths_to
to_apart table r k [] h = tt
to_apart table r k (c ∷ cs) h =
    let ih = to_apart table r (suc k) cs h.1 in
    by_cond AllApart (eqb c.receiver r) (path_of table k c ∷ paths_to table (suc k) cs r) (paths_to table (suc k) cs r)
    (λ e. (to_each table r (Apart (path_of table k c)) (suc k) cs (λ d m q j. h.0 d m (eqb-true c.receiver r e) q), ih))
    (λ e. ih)

-- how often r stands in a list
unfoldable pub times : ℕ → List ℕ → ℕ
times r [] = 0
times r (x ∷ xs) = cond (eqb x r) (suc (times r xs)) (times r xs)

abbrev pub reaches : Carriage → ℕ
reaches c = c.receiver

pub to_length : (table : List ℕ) (r k : ℕ) (cs : List Carriage) → length (paths_to table k cs r) ≡ times r (map reaches cs)
unfolding paths_to times
to_length table r k [] = refl
to_length table r k (c ∷ cs) =
    let ih = to_length table r (suc k) cs in
    cases (eqb c.receiver r) (λ e. rw e (ap suc ih)) (λ e. rw e ih)

times_append : (r : ℕ) (xs ys : List ℕ) → times r (xs ++ ys) ≡ times r xs + times r ys
unfolding times
times_append r [] ys = omega arith
times_append r (x ∷ xs) ys =
    let ih = times_append r xs ys in
    cases (eqb x r) (λ e. rw e (omega arith)) (λ e. rw e (omega arith))

times_same : (r k : ℕ) → times r (replicate k r) ≡ k
unfolding times
times_same r zero = refl
times_same r (suc k) = rw (eq-eqb r r refl) (ap suc (times_same r k))

times_other : (r x k : ℕ) → eqb x r ≡ false → times r (replicate k x) ≡ 0
unfolding times
times_other r x zero e = refl
times_other r x (suc k) e = rw e (times_other r x k e)

times_none : (r k : ℕ) (rs : List ℕ) → Each (λ x. x ≡ r → ⊥) rs → times r (repeated k rs) ≡ 0
unfolding repeated times
times_none r k [] h = refl
times_none r k (x ∷ xs) h =
    let ih = times_none r k xs (λ y m. h y (mathlib.Core.List.Memᴰ.tail m)) in
    let a = times_other r x k (is_false (eqb x r) (λ e. h x (mathlib.Core.List.Memᴰ.head refl) (eqb-true x r e))) in
    let z = times_append r (replicate k x) (repeated k xs) in
    omega arith

times_repeated : (r k : ℕ) (rs : List ℕ) → Different rs → Memᴰ r rs → times r (repeated k rs) ≡ k
unfolding repeated
times_repeated r k [] d m = elim m [ ]
times_repeated r k (x ∷ xs) d m =
    let z = times_append r (replicate k x) (repeated k xs) in
    ⊎_elim (λ (e : r ≡ x). first e z) (λ (h : Memᴰ r xs). later h (times_repeated r k xs d.1 h) z) (mathlib.Core.List.Memᴰ.cases_cons m)
  where
    first : r ≡ x → times r (replicate k x ++ repeated k xs) ≡ times r (replicate k x) + times r (repeated k xs) → times r (replicate k x ++ repeated k xs) ≡ k
    first e z =
        let a : times r (replicate k x) ≡ k = rw (← e) (times_same r k) in
        let b = times_none r k xs (λ y m q. d.0 y m (q ∙ e)) in
        omega arith

    later : Memᴰ r xs → times r (repeated k xs) ≡ k → times r (replicate k x ++ repeated k xs) ≡ times r (replicate k x) + times r (repeated k xs) → times r (replicate k x ++ repeated k xs) ≡ k
    later h ih z =
        let a = times_other r x k (is_false (eqb x r) (λ e. d.0 r h (sym (eqb-true x r e)))) in
        omega arith

pub each_map : {A B : Type 0} (f : A → B) (Q : B → Type 0) (xs : List A) → Each (λ x. Q (f x)) xs → Each Q (map f xs)
each_map f Q [] h = λ p m. elim m [ ]
each_map f Q (x ∷ xs) h = each_cons Q (f x) (map f xs) (h x (mathlib.Core.List.Memᴰ.head refl)) (each_map f Q xs (λ y m. h y (mathlib.Core.List.Memᴰ.tail m)))

fan_apart : (n : ℕ) (links : Links) (F r : ℕ) (ps : List Route) → Each (IsRoute n links F) ps → AllSeparate ps → ApartTo r (map carriage_of ps)
fan_apart n links F r [] h d = tt
fan_apart n links F r (p ∷ ps) h d = (
  each_map carriage_of (λ c. receiver_of p ≡ r → c.receiver ≡ r → NoShare (carriage_of p) c) ps (λ q m e o s u v. route_apart n links F p (h p (mathlib.Core.List.Memᴰ.head refl)) q (h q (mathlib.Core.List.Memᴰ.tail m)) (d.0 q m (o ∙ sym e)) s (way_at n links F q (h q (mathlib.Core.List.Memᴰ.tail m)) s v) u),
  fan_apart n links F r ps (λ q m. h q (mathlib.Core.List.Memᴰ.tail m)) d.1,
)

map_reaches : (ps : List Route) → map reaches (map carriage_of ps) ≡ map receiver_of ps
map_reaches [] = refl
map_reaches (p ∷ ps) = ap (λ (l : List ℕ). receiver_of p ∷ l) (map_reaches ps)

-- each route to i is a path to it
routes_paths : (n : ℕ) (links : Links) (F : ℕ) (ps : List Route) → Each (IsRoute n links F) ps → (table : List ℕ) (number i : ℕ)
    → Each (PathTo n (linked_in links) (has F) i) (paths_to table number (map carriage_of ps) i)
routes_paths n links F ps h table number i =
    to_each table i (PathTo n (linked_in links) (has F) i) number (map carriage_of ps)
    (each_map carriage_of (λ c. c.receiver ≡ i → (j : ℕ) → PathTo n (linked_in links) (has F) i (path_of table j c)) ps
    (λ p m q j. subst (λ (r : ℕ). PathTo n (linked_in links) (has F) r (path_of table j (carriage_of p))) q (route_path n links F p (h p m) table j)))

pub chosen_fan : (n f : ℕ) (links : Links) (F sources receivers : ℕ) (ps : List Route) → Fan n f links F sources receivers ps
    → (table : List ℕ) (number i : ℕ) → i < 8 → In (has receivers) i
    → Disjoint n f (linked_in links) (has F) (has sources) i (paths_to table number (map carriage_of ps) i)
chosen_fan n f links F sources receivers ps h table number i k e =
    let t = times_repeated i (f + 1) (members receivers) (members_different receivers) (in_members receivers i e k) in
    let one : f + 1 ≡ suc f = omega arith in
    record {
      enough = to_length table i number (map carriage_of ps) ∙ ap (times i) (map_reaches ps ∙ h.order) ∙ t ∙ one;
      start = to_each table i (λ p. In (has sources) p.source) number (map carriage_of ps) (each_map carriage_of (λ c. c.receiver ≡ i → (j : ℕ) → In (has sources) (get_or c.before 0 0)) ps (λ p m q j. rw (route_source n links F p (h.routes p m)) (h.start p m)));
      paths = routes_paths n links F ps h.routes table number i;
      apart = to_apart table i number (map carriage_of ps) (fan_apart n links F i ps h.routes h.separate);
    }

-- a set of servers without those of F

outside_f : (n F s : ℕ) → within s (minus (full n) F) ≡ true → (i : ℕ) → In (has s) i → Out (has F) i × (i < n)
outside_f n F s w i e =
    let a : (has (full n) i && not (has F i)) ≡ true = sym (has_minus (full n) F i) ∙ within_in s (minus (full n) F) w i e in (
      not_true (has F i) (and_right (has (full n) i) (not (has F i)) a),
      ltb-true i n (sym (has_full n i) ∙ and_left (has (full n) i) (not (has F i)) a),
    )

within_small : (n a b : ℕ) → within a b ≡ true → b < 2 ^ n → a < 2 ^ n
unfolding within
within_small n a b w h =
    let e = eqb-true (bit_and a b) a w in
    let c = and_comm a b in
    let l = and_le_l b a in
    omega arith

-- nothing taken out
minus_nothing : (s : ℕ) → s < 256 → minus s 0 ≡ s
minus_nothing s k = same_members 8 (minus s 0) s (minus_small 8 s 0 k) k (λ i l. has_minus s 0 i ∙ (let z = has_empty i in cases (has s i) (λ e. cc) (λ e. cc)))

-- the path from one server to another

in_map : {A B : Type 0} (f : A → B) (xs : List A) (y : B) → Memᴰ y (map f xs) → (x : A) × Memᴰ x xs × (y ≡ f x)
in_map f [] y m = elim m [ ]
in_map {A} {B} f (x ∷ xs) y m =
    ⊎_elim (λ (e : y ≡ f x). (x, mathlib.Core.List.Memᴰ.head refl, e)) (λ (h : Memᴰ y (map f xs)). let w = in_map f xs y h in (w.0, mathlib.Core.List.Memᴰ.tail w.1, w.2)) (mathlib.Core.List.Memᴰ.cases_cons m)

in_sources : (r s : ℕ) (ss : List ℕ) → (s ≡ r → ⊥) → Memᴰ s ss → Memᴰ (r, s) (sources_for r ss)
unfolding sources_for
in_sources r s [] o m = elim m [ ]
in_sources r s (x ∷ xs) o m =
    by_cond (λ (l : List (ℕ × ℕ)). Memᴰ (r, s) l) (eqb x r) (sources_for r xs) ((r, x) ∷ sources_for r xs)
    (λ e. ⊎_elim (λ (q : s ≡ x). absurd (o (q ∙ eqb-true x r e))) (λ (h : Memᴰ s xs). in_sources r s xs o h) (mathlib.Core.List.Memᴰ.cases_cons m))
    (λ e. ⊎_elim (λ (q : s ≡ x). mathlib.Core.List.Memᴰ.head (ap (λ (y : ℕ). (r, y)) q)) (λ (h : Memᴰ s xs). mathlib.Core.List.Memᴰ.tail (in_sources r s xs o h)) (mathlib.Core.List.Memᴰ.cases_cons m))

in_pairs : (r s : ℕ) (ss rs : List ℕ) → (s ≡ r → ⊥) → Memᴰ s ss → Memᴰ r rs → Memᴰ (r, s) (pairs_of ss rs)
unfolding pairs_of
in_pairs r s ss [] o m k = elim k [ ]
in_pairs r s ss (x ∷ xs) o m k =
    ⊎_elim
    (λ (q : r ≡ x). mathlib.Core.List.Memᴰ.append_left (pairs_of ss xs) (subst (λ (y : ℕ). Memᴰ (r, s) (sources_for y ss)) q (in_sources r s ss o m)))
    (λ (h : Memᴰ r xs). mathlib.Core.List.Memᴰ.append_right (sources_for x ss) (in_pairs r s ss xs o m h))
    (mathlib.Core.List.Memᴰ.cases_cons k)

to_member : (table : List ℕ) (r k : ℕ) (cs : List Carriage) (c : Carriage) → Memᴰ c cs → c.receiver ≡ r
    → (j : ℕ) × Memᴰ (path_of table j c) (paths_to table k cs r)
unfolding paths_to
to_member table r k [] c m e = elim m [ ]
to_member table r k (d ∷ cs) c m e =
    by_cond (λ (l : List Path). (j : ℕ) × Memᴰ (path_of table j c) l) (eqb d.receiver r) (path_of table k d ∷ paths_to table (suc k) cs r) (paths_to table (suc k) cs r)
    (λ q. ⊎_elim (λ (z : c ≡ d). (k, mathlib.Core.List.Memᴰ.head (ap (path_of table k) z))) (λ (h : Memᴰ c cs). let w = to_member table r (suc k) cs c h e in (w.0, mathlib.Core.List.Memᴰ.tail w.1)) (mathlib.Core.List.Memᴰ.cases_cons m))
    (λ q. ⊎_elim (λ (z : c ≡ d). absurd (eqb-false d.receiver r q (sym (ap reaches z) ∙ e))) (λ (h : Memᴰ c cs). to_member table r (suc k) cs c h e) (mathlib.Core.List.Memᴰ.cases_cons m))

from_each : (P : Path → Type 0) (s : ℕ) (ps : List Path) → Each P ps → (p : Path) → Memᴰ p ps → p.source ≡ s → P (from s ps) × ((from s ps).source ≡ s)
unfolding from
from_each P s [] h p m e = elim m [ ]
from_each P s (q ∷ qs) h p m e =
    by_cond (λ (x : Path). P x × (x.source ≡ s)) (eqb q.source s) q (from s qs)
    (λ z. (h q (mathlib.Core.List.Memᴰ.head refl), eqb-true q.source s z))
    (λ z. ⊎_elim (λ (y : p ≡ q). absurd (eqb-false q.source s z (sym (ap (λ (x : Path). x.source) y) ∙ e))) (λ (o : Memᴰ p qs). from_each P s qs (λ x l. h x (mathlib.Core.List.Memᴰ.tail l)) p o e) (mathlib.Core.List.Memᴰ.cases_cons m))

pub chosen_mesh : (n : ℕ) (links : Links) (F S : ℕ) (ps : List Route) → Mesh n links F S ps
    → (table : List ℕ) (number i j : ℕ) → i < 8 → j < 8 → In (has S) i → In (has S) j → (j ≡ i → ⊥)
    → PathTo n (linked_in links) (has F) i (from j (paths_to table number (map carriage_of ps) i)) × ((from j (paths_to table number (map carriage_of ps) i)).source ≡ j)
chosen_mesh n links F S ps h table number i j ki kj ei ej o =
    let m = in_pairs i j (members S) (members S) o (in_members S j ej kj) (in_members S i ei ki) in
    let (p, l, e) = in_map ends_of ps (i, j) (subst (λ (l : List (ℕ × ℕ)). Memᴰ (i, j) l) (sym h.order) m) in
    let (k, w) = to_member table i number (map carriage_of ps) (carriage_of p) (mathlib.Core.List.Memᴰ.map carriage_of l) (sym (ap (λ (x : ℕ × ℕ). x.0) e)) in
    from_each (PathTo n (linked_in links) (has F) i) j (paths_to table number (map carriage_of ps) i) (routes_paths n links F ps h.routes table number i)
    (path_of table k (carriage_of p)) w (route_source n links F p (h.routes p l) ∙ sym (ap (λ (x : ℕ × ℕ). x.1) e))

-- the reports

abbrev pub one_step : ℕ → ℕ → Carriage
one_step k m = record { receiver = k; before = m ∷ [] }

from_each_report : (Q : Carriage → Type 0) (k : ℕ) (ms : List ℕ) → Each (λ m. Q (one_step k m)) ms → Each Q (report_from k ms)
from_each_report Q k [] h = λ c m. elim m [ ]
from_each_report Q k (m ∷ ms) h = each_cons Q (one_step k m) (report_from k ms) (h m (mathlib.Core.List.Memᴰ.head refl)) (from_each_report Q k ms (λ x l. h x (mathlib.Core.List.Memᴰ.tail l)))

pub each_report : (Q : Carriage → Type 0) (rs : List Report) → ((r : Report) → Memᴰ r rs → (m : ℕ) → Memᴰ m (members r.reporters) → Q (one_step r.receiver m))
    → Each Q (report_carriages rs)
unfolding report_carriages
each_report Q [] h = λ c m. elim m [ ]
each_report Q (r ∷ rs) h =
    each_append Q (report_from r.receiver (members r.reporters)) (report_carriages rs)
    (from_each_report Q r.receiver (members r.reporters) (h r (mathlib.Core.List.Memᴰ.head refl)))
    (each_report Q rs (λ x l. h x (mathlib.Core.List.Memᴰ.tail l)))

apart_append : (k : ℕ) (xs ys : List Carriage) → ApartTo k xs → ApartTo k ys → Each (λ x. Each (λ y. x.receiver ≡ k → y.receiver ≡ k → NoShare x y) ys) xs → ApartTo k (xs ++ ys)
apart_append k [] ys h t d = t
apart_append k (x ∷ xs) ys h t d = (
  each_append (λ y. x.receiver ≡ k → y.receiver ≡ k → NoShare x y) xs ys h.0 (d x (mathlib.Core.List.Memᴰ.head refl)),
  apart_append k xs ys h.1 t (λ z m. d z (mathlib.Core.List.Memᴰ.tail m)),
)

only : (s m : ℕ) → Memᴰ s (m ∷ []) → s ≡ m
only s m h = ⊎_elim (λ (e : s ≡ m). e) (λ (o : Memᴰ s []). elim o [ ]) (mathlib.Core.List.Memᴰ.cases_cons h)

from_apart : (k r : ℕ) (ms : List ℕ) → Different ms → ApartTo k (report_from r ms)
from_apart k r [] d = tt
from_apart k r (m ∷ ms) d = (
  from_each_report (λ c. r ≡ k → c.receiver ≡ k → NoShare (one_step r m) c) r ms (λ x l a b s u v. d.0 x l (sym (only s x v) ∙ only s m u)),
  from_apart k r ms d.1,
)

reports_apart : (k : ℕ) (rs : List Report) → Different (map reports_to rs) → ApartTo k (report_carriages rs)
unfolding report_carriages
reports_apart k [] d = tt
reports_apart k (r ∷ rs) d =
    apart_append k (report_from r.receiver (members r.reporters)) (report_carriages rs)
    (from_apart k r.receiver (members r.reporters) (members_different r.reporters))
    (reports_apart k rs d.1)
    (from_each_report (λ x. Each (λ y. x.receiver ≡ k → y.receiver ≡ k → NoShare x y) (report_carriages rs)) r.receiver (members r.reporters) (λ m l. each_report (λ y. r.receiver ≡ k → y.receiver ≡ k → NoShare (one_step r.receiver m) y) rs (λ q o x w a b s u v. d.0 q.receiver (mathlib.Core.List.Memᴰ.map reports_to o) (b ∙ sym a))))

from_reaches : (k : ℕ) (ms : List ℕ) → map reaches (report_from k ms) ≡ replicate (length ms) k
from_reaches k [] = refl
from_reaches k (m ∷ ms) = ap (λ (l : List ℕ). k ∷ l) (from_reaches k ms)

-- the carriages of the first report and those of the others
times_first : (k : ℕ) (r : Report) (rs : List Report)
    → times k (map reaches (report_carriages (r ∷ rs))) ≡ times k (replicate (size r.reporters) r.receiver) + times k (map reaches (report_carriages rs))
unfolding report_carriages
times_first k r rs =
    let ms = members r.reporters in
    ap (times k) (map_join reaches (report_from r.receiver ms) (report_carriages rs))
    ∙ times_append k (map reaches (report_from r.receiver ms)) (map reaches (report_carriages rs))
    ∙ ap (λ (x : ℕ). x + times k (map reaches (report_carriages rs))) (ap (times k) (from_reaches r.receiver ms ∙ ap (λ (x : ℕ). replicate x r.receiver) (length_members r.reporters)))

times_nowhere : (k : ℕ) → times k (map reaches (report_carriages [])) ≡ 0
unfolding report_carriages times
times_nowhere k = refl

reports_none : (k : ℕ) (rs : List Report) → Each (λ x. x ≡ k → ⊥) (map reports_to rs) → times k (map reaches (report_carriages rs)) ≡ 0
reports_none k [] h = times_nowhere k
reports_none k (r ∷ rs) h =
    let ih = reports_none k rs (λ x m. h x (mathlib.Core.List.Memᴰ.tail m)) in
    let a = times_other k r.receiver (size r.reporters) (ne_eqb r.receiver k (h r.receiver (mathlib.Core.List.Memᴰ.head refl))) in
    let z = times_first k r rs in
    omega arith

reports_times : (k f : ℕ) (rs : List Report) → Different (map reports_to rs) → Each (λ r. size r.reporters ≡ f) rs → Memᴰ k (map reports_to rs)
    → times k (map reaches (report_carriages rs)) ≡ f
reports_times k f [] d h m = elim m [ ]
reports_times k f (r ∷ rs) d h m =
    let z = times_first k r rs in
    let s = h r (mathlib.Core.List.Memᴰ.head refl) in
    ⊎_elim
    (λ (e : k ≡ r.receiver). let a : times k (replicate (size r.reporters) r.receiver) ≡ size r.reporters = rw (← e) (times_same k (size r.reporters)) in
    let b = reports_none k rs (λ y o q. d.0 y o (q ∙ e)) in
    omega arith)
    (λ (o : Memᴰ k (map reports_to rs)). let ih = reports_times k f rs d.1 (λ x l. h x (mathlib.Core.List.Memᴰ.tail l)) o in
    let a = times_other k r.receiver (size r.reporters) (ne_eqb r.receiver k (λ e. d.0 k o (sym e))) in
    omega arith)
    (mathlib.Core.List.Memᴰ.cases_cons m)

-- the two parts of a cut
module _ (n F p : ℕ) (eight : n ≤ 8) (h : is_part (minus (full n) F) p ≡ true) where
  -- V − F, and the part that does not hold its lowest server
  abbrev left : ℕ
  left = minus (full n) F

  abbrev opposite : ℕ
  opposite = minus left p

  left_small : left < 256
  left_small = let a = minus_small n (full n) F (full_small n) in let b : 2 ^ n ≤ 2 ^ 8 = pow_mono eight in omega arith

  part_within : within p left ≡ true
  unfolding is_part
  part_within = and_left (within p left) (has p (lowest left) && not (eqb p left)) h

  part_some : (i : ℕ) × In (has p) i
  unfolding is_part
  part_some = (lowest left, and_left (has p (lowest left)) (not (eqb p left)) (and_right (within p left) (has p (lowest left) && not (eqb p left)) h))

  part_other : p ≡ left → ⊥
  unfolding is_part
  part_other =
      eqb-false p left
      (not_true (eqb p left) (and_right (has p (lowest left)) (not (eqb p left)) (and_right (within p left) (has p (lowest left) && not (eqb p left)) h)))

  opposite_some : (i : ℕ) × In (has opposite) i
  opposite_some =
      let l = left_small in
      (lowest opposite, lowest_in opposite (minus_small 8 left p l) (λ e. part_other (sym (part_back left p l part_within) ∙ ap (minus left) e ∙ minus_nothing left l)))

  part_in : (i : ℕ) → In (has p) i → Out (has F) i × (i < n) × Out (has opposite) i
  part_in i e =
      let (o, k) = outside_f n F p part_within i e in
      (o, k, has_minus left p i ∙ (let w = within_in p left part_within i e in cc))

  opposite_in : (i : ℕ) → In (has opposite) i → Out (has F) i × (i < n) × Out (has p) i
  opposite_in i e =
      let q = sym (has_minus left p i) ∙ e in
      let r = sym (has_minus (full n) F i) ∙ and_left (has left i) (not (has p i)) q in (
        not_true (has F i) (and_right (has (full n) i) (not (has F i)) r),
        ltb-true i n (sym (has_full n i) ∙ and_left (has (full n) i) (not (has F i)) r),
        not_true (has p i) (and_right (has left i) (not (has p i)) q),
      )

-- one part of a cut as A: its servers are those of V − F, and the other part has a server
side_of_lem : (n F P Q : ℕ) → ((i : ℕ) × In (has P) i) → ((i : ℕ) × In (has Q) i)
    → ((i : ℕ) → In (has P) i → Out (has F) i × (i < n) × Out (has Q) i) → ((i : ℕ) → In (has Q) i → Out (has F) i × (i < n) × Out (has P) i)
    → Inside n (has F) (has P) × ((i : ℕ) × (i < n) × ((not (has F i) && not (has P i)) ≡ true))
side_of_lem n F P Q p q P-in Q-in = (
  record { some = p; below = λ i e. (P-in i e).1; clear = λ i e. (P-in i e).0 },
  (q.0, (Q-in q.0 q.1).1, both (not (has F q.0)) (not (has P q.0)) (ap not (Q-in q.0 q.1).0) (ap not (Q-in q.0 q.1).2)),
)

module _ (n f : ℕ) (links : Links) (d : DueBlock) (b : Block) (eight : n ≤ 8) (few : size d.faults ≤ f) (small : d.faults < 2 ^ n)
    (part : is_part (minus (full n) d.faults) d.part ≡ true) (h : InBlock n f links d b) where
  pub chosen_few : count n (has b.faults) ≤ f
  chosen_few = rw h.faults (let e = size_count n d.faults eight small in omega arith)

  pub chosen_side : Inside n (has b.faults) (has b.side) × ((i : ℕ) × (i < n) × ((not (has b.faults i) && not (has b.side i)) ≡ true))
  chosen_side =
      let F = d.faults in
      let p = d.part in
      let some = part_some n F p eight part in
      let other = opposite_some n F p eight part in
      let inside = part_in n F p eight part in
      let across = opposite_in n F p eight part in
      ⊎_elim
      (λ (q : b.side ≡ d.part). rw h.faults (rw q (side_of_lem n F p (opposite n F p eight part) some other inside across)))
      (λ (q : b.side ≡ minus (minus (full n) d.faults) d.part). rw h.faults (rw q (side_of_lem n F (opposite n F p eight part) p other some across inside)))
      h.side

  pub chosen_quorum : Inside n (has b.faults) (has b.quorum)
  chosen_quorum =
      let m = minus (full n) b.faults in
      let top : 2 ^ n ≤ 2 ^ 8 = pow_mono eight in
      let l = within_small n b.quorum m h.inside (minus_small n (full n) b.faults (full_small n)) in
      record {
        some = (lowest b.quorum, lowest_in b.quorum (omega arith) h.some);
        below = λ i e. (outside_f n b.faults b.quorum h.inside i e).1;
        clear = λ i e. (outside_f n b.faults b.quorum h.inside i e).0;
      }

  pub chosen_inward : (table : List ℕ) (number : ℕ)
      → Propagates n f (linked_in links) (has b.faults) (has b.side) (λ (i : ℕ). has b.quorum i && not (has b.side i)) (paths_to table number (map carriage_of b.inward))
  chosen_inward table number i k e =
      chosen_fan n f links b.faults b.side (minus b.quorum b.side) b.inward h.inward table number i (omega arith) (has_minus b.quorum b.side i ∙ e)

  pub chosen_outward : (table : List ℕ) (number : ℕ)
      → Propagates n f (linked_in links) (has b.faults) (has b.quorum) (λ (i : ℕ). not (has b.faults i) && not (has b.quorum i)) (paths_to table number (map carriage_of b.outward))
  chosen_outward table number i k e =
      chosen_fan n f links b.faults b.quorum (minus (minus (full n) b.faults) b.quorum) b.outward h.outward table number i (omega arith)
      (let z = has_minus (minus (full n) b.faults) b.quorum i in let y = has_minus (full n) b.faults i in let x = has_full n i in let l = lt-ltb i n k in cc)

  pub chosen_between : (table : List ℕ) (number : ℕ)
      → Connected n (linked_in links) (has b.faults) (has b.quorum) (λ (i j : ℕ). from j (paths_to table number (map carriage_of b.among) i))
  chosen_between table number i j ei ej o =
      let ki = chosen_quorum.below i ei in
      let kj = chosen_quorum.below j ej in
      chosen_mesh n links b.faults b.quorum b.among h.among table number i j (omega arith) (omega arith) ei ej o

  -- what holds of each server that reports to k holds of the source of each path to k
  each_reporter : (Q : Path → Type 0) (table : List ℕ) (number k : ℕ)
      → ((m : ℕ) → Out (has b.faults) m → m < n → linked_in links m k ≡ true → (j : ℕ) → Q (path_of table j (one_step k m)))
      → Each Q (paths_to table number (report_carriages b.reports) k)
  each_reporter Q table number k g =
      to_each table k Q number (report_carriages b.reports)
      (each_report (λ c. c.receiver ≡ k → (j : ℕ) → Q (path_of table j c)) b.reports
      (λ r o m w q j. let e = (members_in r.reporters m w).0 in
      let (out, below) = outside_f n b.faults r.reporters (h.reports r o).sound m e in
      g m out below (subst (λ (x : ℕ). linked_in links m x ≡ true) q ((h.reports r o).linked m e)) j))

  pub chosen_reports : (table : List ℕ) (number k : ℕ) → k < n → In (has b.faults) k
      → Neighbours n f (linked_in links) (has b.faults) k (paths_to table number (report_carriages b.reports) k)
  chosen_reports table number k l e =
      let cs = report_carriages b.reports in
      let different : Different (map reports_to b.reports) = rw h.told (members_different b.faults) in
      let told : Memᴰ k (map reports_to b.reports) = rw h.told (in_members b.faults k e (omega arith)) in
      let one : f + 1 ≡ suc f = omega arith in
      record {
        enough = to_length table k number cs ∙ reports_times k (f + 1) b.reports different (λ r m. (h.reports r m).exact) told ∙ one;
        direct = each_reporter (λ (p : Path). p.relays ≡ []) table number k (λ m o s c j. refl);
        servers = each_reporter (λ (p : Path). p.source < n) table number k (λ m o s c j. s);
        clear = each_reporter (λ (p : Path). Out (has b.faults) p.source) table number k (λ m o s c j. o);
        linked = each_reporter (λ (p : Path). linked_in links p.source k ≡ true) table number k (λ m o s c j. c);
        different = to_apart table k number cs (reports_apart k b.reports different);
      }

  pub chosen_allowed : (table : List ℕ) (number : ℕ) → Allowed n f (linked_in links) (choice_of table number b)
  unfolding choice_of
  chosen_allowed table number =
      record {
        few = chosen_few;
        side = chosen_side.0;
        other = chosen_side.1;
        quorum = chosen_quorum;
        inward = chosen_inward table _;
        between = chosen_between table _;
        outward = chosen_outward table _;
        reports = chosen_reports table _;
      }
