-- The six steps of a block against an iteration of Algorithm BC with the block's choices.
--     hit_some          a list with a faulty server, in the words of either side
--     brought_arrives   what a carriage brings is what arrives on its path
--     heard_arrives     what a receiver hears is what arrives on the paths to it
--     all_all_are        "all are x", in the words of either side
--     common_agreed     the common value of some values, each 0, 1 or 2, is what they agree on
--     read_small        a byte is read as 0, 1 or 2; message_small: so a message is one of these; arrives_small: so is what arrives if every held value is; spoiled_small: on the paths of a plan
--     arrives_each      a property of what arrives on each path is one of each arrival
--     arrivals_same     what arrives depends on what the sources hold
--     gathered          the common value of f + 1 arrivals is what they agree on
--     sources_pick      the sources of the paths to r; pick_pairs: in a mesh they are the others of S
--     in_others         any other than r is among the others; others_in the other way; others_different: none stands twice
--     from_member       the path from a source is one of the paths; from_own: it is the only one from there
--     all_others        the arrivals from all others of S are those on the paths, one from each
--     routes_start      every route has a source; reports_start: so has every report
--     gather_at         steps 2 and 4 are Propagate; compare_at: step 3 is Equality; step5_at: step 5 is (d) and (i); step6_at: step 6 is (j)
--     step5_small       what is held after step 5 is 0, 1 or 2
--     block_same        the six steps of a block give what an iteration of Algorithm BC gives, for every server below n
-- Assumes nothing.
use mathlib.Core.Path.{◌≡◌, refl, sym, ap, ap₂, ◌∙◌, subst}
use mathlib.Core.Logic.{⊎_elim}
use mathlib.Core.Bool.{Bool, true, false, cond, not, ◌&&◌, ◌||◌}
use mathlib.Core.List.{List, [], ◌∷◌, ◌++◌, map, Memᴰ}
use Prim.Native.Nat.{ℕ, zero, suc, ◌+◌, ◌-◌, ◌≤◌, ◌<◌}
use native.Mathlib.Omega.{arith}
use lib.Dec.{eqb, ltb}
use lib.ListN.{length, get_or, take, drop, length-take, length-map}
use borrow.Author.Tests.{lt-ltb, eq-eqb, ne_eqb, eqb-true, eqb-false, ltb-true, ltb-false}
use Rattle.facts.proofs.Bools.{cases, by_cond, same, and_left, and_right, not_true, both}
use Rattle.sets.specs.Sets.{Set, In, Out, has, minus, meet, full}
use Rattle.sets.proofs.Members.{has_minus, has_meet, has_full}
use Rattle.network.specs.Links.{Links}
use Rattle.sets.specs.Members.{members}
use Rattle.plan.specs.Due.{DueBlock}
use Rattle.rules.specs.Blocks.{Route, receiver_of, Carriage, Report, Block, carriage_of, report_from, report_carriages}
use Rattle.facts.specs.Lists.{Each}
use Rattle.rules.specs.Rules.{sources_for, pairs_of, ends_of, Mesh, InBlock}
use Rattle.rules.proofs.Lists.{members_in, in_members}
use Rattle.rules.proofs.Groups.{each_cons, each_append}
use Rattle.rules.proofs.Fans.{Different, members_different}
use Rattle.steps.specs.Hearing.{hit, read, message, brought, heard, all, common}
use Rattle.steps.specs.Steps.{held, gather, compare, step1, step5, step6, Values, run_block}
use Rattle.bc.specs.Algorithm.{Path, on_way, some, arrives, all_are, agreed, all_below, equality, propagate, adopt, step_j, within, case1, case2, bc_block}
use Rattle.bc.specs.Allowed.{Separate, Sound}
use Rattle.steps.specs.Choices.{path_of, paths_to, from, choice_of}
use Rattle.steps.proofs.Eight.{values_at}
use Rattle.bc.proofs.Paths.{all_are_each}
use Rattle.bc.proofs.Deciding.{all_below_at, all_below_true}

pub hit_some : (X : ℕ) (l : List ℕ) → hit X l ≡ some (has X) l
unfolding hit some
hit_some X [] = refl
hit_some X (s ∷ ss) = ap (λ (b : Bool). has X s || b) (hit_some X ss)

whole : (l : List ℕ) → 0 < length l → get_or l 0 0 ∷ drop 1 l ≡ l
whole [] h = absurd (omega arith)
whole (x ∷ xs) h = refl

-- the carriage has a source
abbrev pub Starts : Carriage → Type 0
Starts c = 0 < length c.before

pub brought_arrives : (X : ℕ) (table : List ℕ) (k : ℕ) (t : ℕ → ℕ) (c : Carriage) → Starts c
    → brought X table k t c ≡ arrives (has X) t (path_of table k c)
unfolding brought arrives
brought_arrives X table k t c h =
    let e : some (has X) (get_or c.before 0 0 ∷ drop 1 c.before) ≡ hit X c.before = ap (some (has X)) (whole c.before h) ∙ sym (hit_some X c.before) in
    ap (λ (b : Bool). cond b (path_of table k c).spoiled (t (get_or c.before 0 0))) (sym e)

pub heard_arrives : (X : ℕ) (table : List ℕ) (k : ℕ) (t : ℕ → ℕ) (cs : List Carriage) (r : ℕ) → Each Starts cs
    → heard X table k t cs r ≡ map (arrives (has X) t) (paths_to table k cs r)
unfolding heard paths_to
heard_arrives X table k t [] r h = refl
heard_arrives X table k t (c ∷ cs) r h =
    let ih = heard_arrives X table (suc k) t cs r (λ d m. h d (mathlib.Core.List.Memᴰ.tail m)) in
    let e = brought_arrives X table k t c (h c (mathlib.Core.List.Memᴰ.head refl)) in
    cases (eqb c.receiver r) (λ q. rw q (ap₂ (λ (x : ℕ) (l : List ℕ). x ∷ l) e ih)) (λ q. rw q ih)

pub all_all_are : (x : ℕ) (l : List ℕ) → all x l ≡ all_are x l
unfolding all all_are
all_all_are x [] = refl
all_all_are x (y ∷ ys) = ap (λ (b : Bool). eqb y x && b) (all_all_are x ys)

common_cons : (x : ℕ) (xs : List ℕ) → x < 3 → common (x ∷ xs) ≡ agreed (x ∷ xs)
unfolding common agreed all_are
common_cons zero xs h = let e = all_all_are 0 xs in rw e refl
common_cons (suc zero) xs h = let e = all_all_are 1 xs in rw e refl
common_cons (suc (suc zero)) xs h = cases (all 2 xs) (λ e. rw e refl) (λ e. rw e refl)
common_cons (suc (suc (suc x))) xs h = absurd (omega arith)

pub common_agreed : (l : List ℕ) → 0 < length l → Each (λ x. x < 3) l → common l ≡ agreed l
common_agreed [] h s = absurd (omega arith)
common_agreed (x ∷ xs) h s = common_cons x xs (s x (mathlib.Core.List.Memᴰ.head refl))

pub read_small : (b : ℕ) → read b < 3
unfolding read
read_small b = by_cond (λ (x : ℕ). x < 3) (ltb b 2) _ _ (λ e. let z = ltb-true b 2 e in omega arith) (λ e. omega arith)

pub message_small : (table : List ℕ) (k : ℕ) → message table k < 3
unfolding message
message_small table k = read_small _

pub arrives_small : (X : Set) (t : ℕ → ℕ) (p : Path) → p.spoiled < 3 → t p.source < 3 → arrives X t p < 3
unfolding arrives
arrives_small X t p a b = by_cond (λ (x : ℕ). x < 3) (some X (on_way p)) _ _ (λ e. a) (λ e. b)

pub spoiled_small : (table : List ℕ) (k : ℕ) (cs : List Carriage) (r : ℕ) → Each (λ (p : Path). p.spoiled < 3) (paths_to table k cs r)
unfolding paths_to
spoiled_small table k [] r = λ p m. elim m [ ]
spoiled_small table k (c ∷ cs) r =
    let ih = spoiled_small table (suc k) cs r in
    by_cond (λ (l : List Path). Each (λ (p : Path). p.spoiled < 3) l) (eqb c.receiver r) _ _
    (λ e. first (path_of table k c) (paths_to table (suc k) cs r) (message_small table _) ih)
    (λ e. ih)
  where
    first : (q : Path) (l : List Path) → q.spoiled < 3 → Each (λ (p : Path). p.spoiled < 3) l → Each (λ (p : Path). p.spoiled < 3) (q ∷ l)
    first q l a b p (mathlib.Core.List.Memᴰ.head z) = subst (λ (p : Path). p.spoiled < 3) (sym z) a
    first q l a b p (mathlib.Core.List.Memᴰ.tail m) = b p m

pub arrives_each : (P : ℕ → Type 0) (X : Set) (t : ℕ → ℕ) (ps : List Path) → Each (λ (p : Path). P (arrives X t p)) ps → Each P (map (arrives X t) ps)
arrives_each P X t [] h = λ x m. elim m [ ]
arrives_each P X t (p ∷ ps) h =
    let ih = arrives_each P X t ps (λ q o. h q (mathlib.Core.List.Memᴰ.tail o)) in
    each_cons P (arrives X t p) (map (arrives X t) ps) (h p (mathlib.Core.List.Memᴰ.head refl)) ih

pub arrivals_same : (X : Set) (t u : ℕ → ℕ) (ps : List Path) → Each (λ (p : Path). t p.source ≡ u p.source) ps
    → map (arrives X t) ps ≡ map (arrives X u) ps
unfolding arrives
arrivals_same X t u [] h = refl
arrivals_same X t u (p ∷ ps) h =
    let ih = arrivals_same X t u ps (λ q m. h q (mathlib.Core.List.Memᴰ.tail m)) in
    let e = h p (mathlib.Core.List.Memᴰ.head refl) in
    ap₂ (λ (x : ℕ) (l : List ℕ). x ∷ l) (ap (λ (z : ℕ). cond (some X (on_way p)) p.spoiled z) e) ih

-- what the f + 1 carriages to a receiver bring

pub gathered : (n f X : ℕ) (table : List ℕ) (k : ℕ) (cs : List Carriage) (F P : Set) (i : ℕ) (t u : ℕ → ℕ) → Each Starts cs
    → Separate n f F P (paths_to table k cs i) → ((j : ℕ) → j < n → In P j → t j ≡ u j) → ((j : ℕ) → j < n → In P j → u j < 3)
    → common (heard X table k t cs i) ≡ agreed (map (arrives (has X) u) (paths_to table k cs i))
gathered n f X table k cs F P i t u h d e s =
    let ps = paths_to table k cs i in
    let a = heard_arrives X table k t cs i h in
    let b = arrivals_same (has X) t u ps (λ p m. e p.source ((d.paths p m).servers p.source (mathlib.Core.List.Memᴰ.head refl)) (d.start p m)) in
    let l = d.enough in
    let m = length-map ps (arrives (has X) u) in
    ap common (a ∙ b)
    ∙ common_agreed (map (arrives (has X) u) ps) (omega arith)
    (arrives_each (λ (x : ℕ). x < 3) (has X) u ps (λ p m. arrives_small (has X) u p (spoiled_small table k cs i p m) (s p.source ((d.paths p m).servers p.source (mathlib.Core.List.Memᴰ.head refl)) (d.start p m))))

-- the sources of a mesh

-- the sources of the pairs whose receiver is r
abbrev pub pick : ℕ → List (ℕ × ℕ) → List ℕ
pick r [] = []
pick r (e ∷ es) = cond (eqb e.0 r) (e.1 ∷ pick r es) (pick r es)

-- the list without r
abbrev pub others : ℕ → List ℕ → List ℕ
others r [] = []
others r (s ∷ ss) = cond (eqb s r) (others r ss) (s ∷ others r ss)

abbrev pub source : Path → ℕ
source p = p.source

first_taken : (k : ℕ) (l : List ℕ) → 0 < k → get_or (take k l) 0 0 ≡ get_or l 0 0
first_taken zero l h = absurd (omega arith)
first_taken (suc k) [] h = refl
first_taken (suc k) (x ∷ xs) h = refl

pub sources_pick : (table : List ℕ) (k : ℕ) (ps : List Route) (r : ℕ) → Each (λ (p : Route). 2 ≤ length p) ps
    → map source (paths_to table k (map carriage_of ps) r) ≡ pick r (map ends_of ps)
unfolding paths_to
sources_pick table k [] r h = refl
sources_pick table k (p ∷ ps) r h =
    let ih = sources_pick table (suc k) ps r (λ q m. h q (mathlib.Core.List.Memᴰ.tail m)) in
    let l = h p (mathlib.Core.List.Memᴰ.head refl) in
    let e = first_taken (length p - 1) p (omega arith) in
    cases (eqb (receiver_of p) r) (λ q. rw q (ap₂ (λ (x : ℕ) (l : List ℕ). x ∷ l) e ih)) (λ q. rw q ih)

pick_own : (r : ℕ) (ss : List ℕ) (es : List (ℕ × ℕ)) → pick r es ≡ [] → pick r (sources_for r ss ++ es) ≡ others r ss
unfolding sources_for
pick_own r [] es h = h
pick_own r (s ∷ ss) es h =
    let ih = pick_own r ss es h in
    let o = eq-eqb r r refl in
    cases (eqb s r) (λ q. rw q ih) (λ q. rw q (rw o (ap (λ (l : List ℕ). s ∷ l) ih)))

pick_other : (r q : ℕ) (ss : List ℕ) (es : List (ℕ × ℕ)) → eqb q r ≡ false → pick r (sources_for q ss ++ es) ≡ pick r es
unfolding sources_for
pick_other r q [] es h = refl
pick_other r q (s ∷ ss) es h =
    let ih = pick_other r q ss es h in
    cases (eqb s q) (λ e. rw e ih) (λ e. rw e (rw h ih))

pick_none : (r : ℕ) (ss rs : List ℕ) → Each (λ x. x ≡ r → ⊥) rs → pick r (pairs_of ss rs) ≡ []
unfolding pairs_of
pick_none r ss [] h = refl
pick_none r ss (q ∷ rs) h =
    pick_other r q ss (pairs_of ss rs) (ne_eqb q r (h q (mathlib.Core.List.Memᴰ.head refl))) ∙ pick_none r ss rs (λ x m. h x (mathlib.Core.List.Memᴰ.tail m))

pub pick_pairs : (r : ℕ) (ss rs : List ℕ) → Different rs → Memᴰ r rs → pick r (pairs_of ss rs) ≡ others r ss
unfolding pairs_of
pick_pairs r ss [] d m = elim m [ ]
pick_pairs r ss (q ∷ rs) d m =
    cases (eqb q r)
    (λ e. let z = eqb-true q r e in rw z (pick_own r ss (pairs_of ss rs) (pick_none r ss rs (λ x o w. d.0 x o (w ∙ sym z)))))
    (λ e. pick_other r q ss (pairs_of ss rs) e ∙ pick_pairs r ss rs d.1 (⊎_elim (λ (z : r ≡ q). absurd (eqb-false q r e (sym z))) (λ (o : Memᴰ r rs). o) (mathlib.Core.List.Memᴰ.cases_cons m)))

pub in_others : (r : ℕ) (ss : List ℕ) (s : ℕ) → Memᴰ s ss → (s ≡ r → ⊥) → Memᴰ s (others r ss)
in_others r [] s m h = elim m [ ]
in_others r (q ∷ ss) s m h =
    cases (eqb q r)
    (λ e. rw e (⊎_elim (λ (z : s ≡ q). absurd (h (z ∙ eqb-true q r e))) (λ (o : Memᴰ s ss). in_others r ss s o h) (mathlib.Core.List.Memᴰ.cases_cons m)))
    (λ e. rw e (⊎_elim (λ (z : s ≡ q). mathlib.Core.List.Memᴰ.head z) (λ (o : Memᴰ s ss). mathlib.Core.List.Memᴰ.tail (in_others r ss s o h)) (mathlib.Core.List.Memᴰ.cases_cons m)))

pub others_in : (r : ℕ) (ss : List ℕ) → Each (λ s. Memᴰ s ss × (s ≡ r → ⊥)) (others r ss)
others_in r [] = λ s m. elim m [ ]
others_in r (q ∷ ss) =
    let ih : Each (λ s. Memᴰ s (q ∷ ss) × (s ≡ r → ⊥)) (others r ss) = λ s m. (mathlib.Core.List.Memᴰ.tail (others_in r ss s m).0, (others_in r ss s m).1) in
    by_cond (λ (l : List ℕ). Each (λ s. Memᴰ s (q ∷ ss) × (s ≡ r → ⊥)) l) (eqb q r) (others r ss) (q ∷ others r ss)
    (λ e. ih)
    (λ e. each_cons (λ (s : ℕ). Memᴰ s (q ∷ ss) × (s ≡ r → ⊥)) q (others r ss) (mathlib.Core.List.Memᴰ.head refl, eqb-false q r e) ih)

pub others_different : (r : ℕ) (ss : List ℕ) → Different ss → Different (others r ss)
others_different r [] d = tt
others_different r (q ∷ ss) d =
    let ih = others_different r ss d.1 in
    by_cond Different (eqb q r) (others r ss) (q ∷ others r ss)
    (λ e. ih)
    (λ e. (λ x m. d.0 x (others_in r ss x m).0, ih))

-- the path from a source

pub from_member : (s : ℕ) (ps : List Path) → Memᴰ s (map source ps) → Memᴰ (from s ps) ps
unfolding from
from_member s [] m = elim m [ ]
from_member s (p ∷ ps) m =
    cases (eqb p.source s)
    (λ e. rw e (mathlib.Core.List.Memᴰ.head refl))
    (λ e. rw e (mathlib.Core.List.Memᴰ.tail (from_member s ps (⊎_elim (λ (z : s ≡ p.source). absurd (eqb-false p.source s e (sym z))) (λ (o : Memᴰ s (map source ps)). o) (mathlib.Core.List.Memᴰ.cases_cons m)))))

pub from_own : (ps : List Path) → Different (map source ps) → (p : Path) → Memᴰ p ps → from p.source ps ≡ p
unfolding from
from_own [] d p m = elim m [ ]
from_own (q ∷ ps) d p m =
    ⊎_elim
    (λ (z : p ≡ q). rw z (rw (eq-eqb q.source q.source refl) refl))
    (λ (o : Memᴰ p ps). rw (ne_eqb q.source p.source (λ z. d.0 p.source (mathlib.Core.List.Memᴰ.map source o) (sym z))) (from_own ps d.1 p o))
    (mathlib.Core.List.Memᴰ.cases_cons m)

each_all_are : (x : ℕ) (l : List ℕ) → Each (λ y. y ≡ x) l → all_are x l ≡ true
unfolding all_are
each_all_are x [] h = refl
each_all_are x (y ∷ ys) h =
    both (eqb y x) (all_are x ys) (eq-eqb y x (h y (mathlib.Core.List.Memᴰ.head refl))) (each_all_are x ys (λ z m. h z (mathlib.Core.List.Memᴰ.tail m)))

-- the arrivals from all others of S are those on the paths, one from each source
pub all_others : (n : ℕ) (X S : Set) (ps : List Path) (j : ℕ) (t : ℕ → ℕ) (x : ℕ)
    → ((s : ℕ) → s < n → In S s → (s ≡ j → ⊥) → Memᴰ s (map source ps))
    → Each (λ s. (s < n) × In S s × (s ≡ j → ⊥)) (map source ps) → Different (map source ps)
    → all_are x (map (arrives X t) ps) ≡ all_below n (λ (i : ℕ). not (S i) || (eqb i j || eqb (arrives X t (from i ps)) x))
all_others n X S ps j t x here there d =
    same (all_are x (map (arrives X t) ps)) (all_below n (λ (i : ℕ). not (S i) || (eqb i j || eqb (arrives X t (from i ps)) x)))
    (λ e. all_below_true n (λ (i : ℕ). not (S i) || (eqb i j || eqb (arrives X t (from i ps)) x)) (λ i k. there_is e i k))
    (λ e. each_all_are x (map (arrives X t) ps) (arrives_each (λ (y : ℕ). y ≡ x) X t ps (λ p m. each_is e p m)))
  where
    there_is : all_are x (map (arrives X t) ps) ≡ true → (i : ℕ) → i < n → (not (S i) || (eqb i j || eqb (arrives X t (from i ps)) x)) ≡ true
    there_is e i k =
        cases (S i)
        (λ q. cases (eqb i j) (λ z. cc) (λ z. let a = eq-eqb (arrives X t (from i ps)) x (all_are_each x (map (arrives X t) ps) e (arrives X t (from i ps)) (mathlib.Core.List.Memᴰ.map (arrives X t) (from_member i ps (here i k q (eqb-false i j z))))) in cc))
        (λ q. cc)

    each_is : all_below n (λ (i : ℕ). not (S i) || (eqb i j || eqb (arrives X t (from i ps)) x)) ≡ true → (p : Path) → Memᴰ p ps → arrives X t p ≡ x
    each_is e p m =
        let w = there p.source (mathlib.Core.List.Memᴰ.map source m) in
        let a = all_below_at n (λ (i : ℕ). not (S i) || (eqb i j || eqb (arrives X t (from i ps)) x)) e p.source w.0 in
        let q = w.1 in
        let z = ne_eqb p.source j w.2 in
        let b : eqb (arrives X t (from p.source ps)) x ≡ true = rw z at (rw q at a) in
        ap (arrives X t) (sym (from_own ps d p m)) ∙ eqb-true (arrives X t (from p.source ps)) x b

-- every carriage has a source

pub routes_start : (ps : List Route) → Each (λ (p : Route). 2 ≤ length p) ps → Each Starts (map carriage_of ps)
routes_start [] h = λ c m. elim m [ ]
routes_start (p ∷ ps) h =
    let l = h p (mathlib.Core.List.Memᴰ.head refl) in
    let e = length-take (length p - 1) p in
    each_cons Starts (carriage_of p) (map carriage_of ps) (omega arith) (routes_start ps (λ q m. h q (mathlib.Core.List.Memᴰ.tail m)))

from_start : (k : ℕ) (ms : List ℕ) → Each Starts (report_from k ms)
from_start k [] = λ c m. elim m [ ]
from_start k (m ∷ ms) = each_cons Starts (record { receiver = k; before = m ∷ [] }) (report_from k ms) (omega arith) (from_start k ms)

pub reports_start : (rs : List Report) → Each Starts (report_carriages rs)
unfolding report_carriages
reports_start [] = λ c m. elim m [ ]
reports_start (r ∷ rs) =
    each_append Starts (report_from r.receiver (members r.reporters)) (report_carriages rs) (from_start r.receiver (members r.reporters)) (reports_start rs)

-- the steps, each against its part of the iteration

pub gather_at : (n f X : ℕ) (table : List ℕ) (k : ℕ) (cs : List Carriage) (R : ℕ) (D F P : Set) (t : List ℕ) (u : ℕ → ℕ) (i : ℕ) → i < 8
    → Each Starts cs → has R i ≡ D i → (D i ≡ true → Separate n f F P (paths_to table k cs i)) → (D i ≡ false → held t i ≡ u i)
    → ((j : ℕ) → j < n → In P j → held t j ≡ u j) → ((j : ℕ) → j < n → In P j → u j < 3)
    → held (gather X table k cs R t) i ≡ propagate (has X) D (paths_to table k cs) u i
unfolding gather propagate
gather_at n f X table k cs R D F P t u i h st r fan off e s =
    values_at (λ (i : ℕ). cond (has R i) (common (heard X table k (held t) cs i)) (held t i)) i h
    ∙ cases (D i)
    (λ q. let a = gathered n f X table k cs F P i (held t) u st (fan q) e s in cc)
    (λ q. let a = off q in cc)

pub compare_at : (n X : ℕ) (table : List ℕ) (k : ℕ) (links : Links) (F S : ℕ) (ps : List Route) (t : List ℕ) (u : ℕ → ℕ) (i : ℕ) → n ≤ 8
    → Mesh n links F S ps → ((j : ℕ) → In (has S) j → j < n) → In (has S) i
    → ((j : ℕ) → In (has S) j → held t j ≡ u j) → ((j : ℕ) → In (has S) j → u j < 3)
    → held (compare X table k (map carriage_of ps) S t) i ≡ equality n (has X) (has S) (λ (r s : ℕ). from s (paths_to table k (map carriage_of ps) r)) u i
unfolding compare equality
compare_at n X table k links F S ps t u i few mesh below q e s =
    let long : Each (λ (p : Route). 2 ≤ length p) ps = λ p m. (mesh.routes p m).two in
    let cs = map carriage_of ps in
    let qs = paths_to table k cs i in
    let z = sources_pick table k ps i long ∙ ap (pick i) mesh.order ∙ pick_pairs i (members S) (members S) (members_different S) (in_members S i q (omega (arith, below i q))) in
    let here : (s : ℕ) → s < n → In (has S) s → (s ≡ i → ⊥) → Memᴰ s (map source qs) = λ s l a o. subst (λ (l : List ℕ). Memᴰ s l) (sym z) (in_others i (members S) s (in_members S s a (omega arith)) o) in
    let there : Each (λ s. (s < n) × In (has S) s × (s ≡ i → ⊥)) (map source qs) = λ s m. let w = others_in i (members S) s (subst (λ (l : List ℕ). Memᴰ s l) z m) in let a = (members_in S s w.0).0 in (below s a, a, w.1) in
    let apart : Different (map source qs) = subst Different (sym z) (others_different i (members S) (members_different S)) in
    let same-heard = heard_arrives X table k (held t) cs i (routes_start ps long) ∙ arrivals_same (has X) (held t) u qs (λ p m. e p.source (there p.source (mathlib.Core.List.Memᴰ.map source m)).1) in
    let a = ap₂ all (e i q) same-heard ∙ all_all_are (u i) (map (arrives (has X) u) qs) ∙ all_others n (has X) (has S) qs i u (u i) here there apart in
    values_at (λ (i : ℕ). cond (has S i && not (all (held t i) (heard X table k (held t) cs i))) 2 (held t i)) i (omega (arith, below i q))
    ∙ finish (has S i) (all (held t i) (heard X table k (held t) cs i)) (all_below n (λ (j : ℕ). not (has S j) || (eqb j i || eqb (arrives (has X) u (from j qs)) (u i)))) (held t i) (u i) q a (e i q) (s i q)
  where
    finish : (a b c : Bool) (x y : ℕ) → a ≡ true → b ≡ c → x ≡ y → y < 3 → cond (a && not b) 2 x ≡ cond a (cond (ltb y 2 && c) y 2) y
    finish a b c x y p q r l =
        cases (ltb y 2)
        (λ e. cases c (λ z. cc) (λ z. cc))
        (λ e. let g = ltb-false y 2 e in let two : y ≡ 2 = omega arith in cases c (λ z. cc) (λ z. cc))

pub step5_at : (sound kept : ℕ) (t v : List ℕ) (D : Set) (u w : ℕ → ℕ) (i : ℕ) → i < 8 → (has sound i && not (has kept i)) ≡ D i
    → (D i ≡ true → held t i ≡ u i) → held v i ≡ w i → held (step5 sound kept t v) i ≡ adopt D u w i
unfolding step5 adopt
step5_at sound kept t v D u w i h d e q =
    values_at (λ (i : ℕ). cond (has sound i && (not (has kept i) && ltb (held t i) 2)) (held t i) (held v i)) i h
    ∙ cases (D i)
    (λ z. let x = e z in let a = and_left (has sound i) (not (has kept i)) (d ∙ z) in let b = and_right (has sound i) (not (has kept i)) (d ∙ z) in cc)
    (λ z. cases (has sound i) (λ a. cases (has kept i) (λ b. cc) (λ b. cc)) (λ a. cc))

pub step5_small : (sound kept : ℕ) (t v : List ℕ) (i : ℕ) → i < 8 → held v i < 2 → held (step5 sound kept t v) i < 3
unfolding step5
step5_small sound kept t v i h l =
    subst (λ (x : ℕ). x < 3) (sym (values_at (λ (i : ℕ). cond (has sound i && (not (has kept i) && ltb (held t i) 2)) (held t i) (held v i)) i h))
    (by_cond (λ (x : ℕ). x < 3) (has sound i && (not (has kept i) && ltb (held t i) 2)) (held t i) (held v i)
    (λ e. let a = ltb-true (held t i) 2 (and_right (not (has kept i)) (ltb (held t i) 2) (and_right (has sound i) (not (has kept i) && ltb (held t i) 2) e)) in omega arith)
    (λ e. omega arith))

pub step6_at : (n f X : ℕ) (table : List ℕ) (k : ℕ) (cs : List Carriage) (F : ℕ) (P : Set) (v : List ℕ) (u : ℕ → ℕ) (i : ℕ) → i < 8
    → Each Starts cs → (In (has F) i → Separate n f (has F) P (paths_to table k cs i))
    → held v i ≡ u i → ((j : ℕ) → j < n → held v j ≡ u j) → ((j : ℕ) → j < n → u j < 3)
    → held (step6 X table k cs F v) i
    ≡ cond (has F i && ltb (agreed (map (arrives (has X) u) (paths_to table k cs i))) 2) (agreed (map (arrives (has X) u) (paths_to table k cs i))) (u i)
unfolding step6
step6_at n f X table k cs F P v u i h st fan own e s =
    values_at (λ (i : ℕ). cond (has F i && ltb (common (heard X table k (held v) cs i)) 2) (common (heard X table k (held v) cs i)) (held v i)) i h
    ∙ cases (has F i)
    (λ q. let a = gathered n f X table k cs (has F) P i (held v) u st (fan q) (λ j l o. e j l) (λ j l o. s j l) in cc)
    (λ q. cc)

-- the block

module _ (n f : ℕ) (links : Links) (d : DueBlock) (b : Block) (few : n ≤ 8) (g : InBlock n f links d b) (X : ℕ) (table : List ℕ) (number : ℕ) (c : Sound n f (choice_of table number b)) where
  abbrev F : Set
  F = has b.faults

  abbrev A : Set
  A = has b.side

  abbrev S : Set
  S = has b.quorum

  abbrev sound : ℕ
  sound = minus (full n) b.faults

  abbrev inward : List Carriage
  inward = map carriage_of b.inward

  abbrev among : List Carriage
  among = map carriage_of b.among

  abbrev outward : List Carriage
  outward = map carriage_of b.outward

  abbrev number3 : ℕ
  number3 = number + length inward

  abbrev number4 : ℕ
  number4 = number3 + length among

  abbrev number6 : ℕ
  number6 = number4 + length outward

  abbrev ways : ℕ → ℕ → Path
  ways r s = from s (paths_to table number3 among r)

  abbrev outside : Set
  outside i = not (F i) && not (S i)

  abbrev inner : Set
  inner i = S i && not (A i)

  S-below : (i : ℕ) → In S i → i < n
  unfolding choice_of
  S-below = c.S-below

  fan_in : (i : ℕ) → i < n → In S i → Out A i → Separate n f F A (paths_to table number inward i)
  unfolding choice_of
  fan_in = c.inward

  fan_out : (i : ℕ) → i < n → Out F i → Out S i → Separate n f F S (paths_to table number4 outward i)
  unfolding choice_of
  fan_out = c.outward

  fan_reports : (k : ℕ) → k < n → In F k → Separate n f F (λ (i : ℕ). not (F i)) (paths_to table number6 (report_carriages b.reports) k)
  unfolding choice_of
  fan_reports = c.reports

  in_a : within n S A ≡ true → (i : ℕ) → In S i → A i ≡ true
  unfolding within
  in_a h i a = let q = all_below_at n (λ (i : ℕ). not (S i) || A i) h i (S-below i a) in rw a at q

  is_sound : (i : ℕ) → i < n → has sound i ≡ not (F i)
  is_sound i k = let e = has_minus (full n) b.faults i in let q = has_full n i in let l = lt-ltb i n k in cc

  is_outside : (i : ℕ) → i < n → has (minus sound b.quorum) i ≡ outside i
  is_outside i k = let e = is_sound i k in let q = has_minus sound b.quorum i in cc

  module _ (s : Values) (w : ℕ → ℕ) (e : (i : ℕ) → i < n → held s.v i ≡ w i) (bits : (i : ℕ) → i < n → w i < 2) where
    abbrev t1 : List ℕ
    t1 = step1 b.side s.v s.t

    abbrev t2 : List ℕ
    t2 = gather X table number inward (minus b.quorum b.side) t1

    abbrev t3 : List ℕ
    t3 = compare X table number3 among b.quorum t2

    abbrev t4 : List ℕ
    t4 = gather X table number4 outward (minus sound b.quorum) t3

    abbrev v5 : List ℕ
    v5 = step5 sound (meet b.side b.quorum) t4 s.v

    abbrev u2 : ℕ → ℕ
    u2 = propagate (has X) inner (paths_to table number inward) w

    abbrev u4 : (ℕ → ℕ) → ℕ → ℕ
    u4 u = propagate (has X) outside (paths_to table number4 outward) (equality n (has X) S ways u)

    t1_is : (i : ℕ) → i < n → In A i → held t1 i ≡ w i
    unfolding step1
    t1_is i k a =
        values_at (λ (i : ℕ). cond (has b.side i) (held s.v i) (held s.t i)) i (omega arith) ∙ (let q = e i k in cc)

    small : (i : ℕ) → i < n → w i < 3
    small i k = let q = bits i k in omega arith

    t2_is : (i : ℕ) → In S i → held t2 i ≡ u2 i
    t2_is i a =
        let k = S-below i a in
        gather_at n f X table number inward (minus b.quorum b.side) inner F A t1 w i (omega arith) (routes_start b.inward (λ p m. (g.inward.routes p m).two))
        (has_minus b.quorum b.side i)
        (λ q. fan_in i k a (not_true (A i) (and_right (S i) (not (A i)) q)))
        (λ q. t1_is i k (kept_a q))
        (λ j l o. t1_is j l o)
        (λ j l o. small j l)
      where
        kept_a : inner i ≡ false → A i ≡ true
        kept_a q = cases (A i) (λ z. z) (λ z. cc)

    t2_kept : within n S A ≡ true → (i : ℕ) → In S i → held t2 i ≡ w i
    unfolding propagate
    t2_kept h i a = let z = in_a h i a in t2_is i a ∙ cc

    agreed_small : (l : List ℕ) → agreed l < 3
    unfolding agreed
    agreed_small l =
        by_cond (λ (x : ℕ). x < 3) (all_are 0 l) _ _ (λ q. omega arith) (λ q. by_cond (λ (x : ℕ). x < 3) (all_are 1 l) _ _ (λ z. omega arith) (λ z. omega arith))

    u2_small : (i : ℕ) → In S i → u2 i < 3
    unfolding propagate
    u2_small i a = by_cond (λ (x : ℕ). x < 3) (inner i) _ _ (λ q. agreed_small _) (λ q. small i (S-below i a))

    module _ (u : ℕ → ℕ) (same2 : (i : ℕ) → In S i → held t2 i ≡ u i) (small2 : (i : ℕ) → In S i → u i < 3) where
      t3_is : (i : ℕ) → In S i → held t3 i ≡ equality n (has X) S ways u i
      t3_is i a = compare_at n X table number3 links b.faults b.quorum b.among t2 u i few g.among S-below a same2 small2

      u3_small : (i : ℕ) → In S i → equality n (has X) S ways u i < 3
      unfolding equality
      u3_small i a =
          by_cond (λ (x : ℕ). x < 3) (S i) _ _
          (λ q. by_cond (λ (x : ℕ). x < 3) (ltb (u i) 2 && all_below n (λ (j : ℕ). not (S j) || (eqb j i || eqb (arrives (has X) u (ways i j)) (u i)))) _ _ (λ z. small2 i a) (λ z. omega arith))
          (λ q. small2 i a)

      t4_is : (i : ℕ) → i < n → Out F i → held t4 i ≡ u4 u i
      t4_is i k o =
          gather_at n f X table number4 outward (minus sound b.quorum) outside F S t3 (equality n (has X) S ways u) i (omega arith)
          (routes_start b.outward (λ p m. (g.outward.routes p m).two))
          (is_outside i k)
          (λ q. fan_out i k o (not_true (S i) (and_right (not (F i)) (not (S i)) q)))
          (λ q. t3_is i (in_s q))
          (λ j l a. t3_is j a)
          (λ j l a. u3_small j a)
        where
          in_s : outside i ≡ false → S i ≡ true
          in_s q = cases (S i) (λ z. z) (λ z. cc)

      v5_is : (D : Set) (i : ℕ) → i < n → (not (F i) && not (A i && S i)) ≡ D i → held v5 i ≡ adopt D (u4 u) w i
      v5_is D i k q =
          let m = has_meet b.side b.quorum i in
          let z = is_sound i k in
          step5_at sound (meet b.side b.quorum) t4 s.v D (u4 u) w i (omega arith) (cc)
          (λ h. t4_is i k (not_true (F i) (and_left (not (F i)) (not (A i && S i)) (q ∙ h))))
          (e i k)

    v5_same : (i : ℕ) → i < n
        → held v5 i ≡ cond (within n S A) (case1 n (has X) (choice_of table number b) w) (case2 n (has X) (choice_of table number b) w) i
    unfolding choice_of case1 case2
    v5_same i k =
        cases (within n S A)
        (λ h. rw h (v5_is w (t2_kept h) (λ j a. small j (S-below j a)) outside i k (first h)))
        (λ h. rw h (v5_is u2 t2_is u2_small (λ (i : ℕ). not (F i) && not (A i && S i)) i k refl))
      where
        first : within n S A ≡ true → (not (F i) && not (A i && S i)) ≡ outside i
        first h = cases (S i) (λ a. let z = in_a h i a in cc) (λ a. cases (A i) (λ z. cc) (λ z. cc))

    pub block_same : (i : ℕ) → i < n → held (run_block n X table number b s).v i ≡ bc_block n (has X) (choice_of table number b) w i
    unfolding run_block bc_block step_j choice_of
    block_same i k =
        let u : ℕ → ℕ = cond (within n S A) (case1 n (has X) (choice_of table number b) w) (case2 n (has X) (choice_of table number b) w) in
        step6_at n f X table number6 (report_carriages b.reports) b.faults (λ (i : ℕ). not (F i)) v5 u i (omega arith) (reports_start b.reports)
        (fan_reports i k)
        (v5_same i k)
        v5_same
        (λ j l. subst (λ (x : ℕ). x < 3) (v5_same j l) (step5_small sound (meet b.side b.quorum) t4 s.v j (omega arith) (subst (λ (x : ℕ). x < 2) (sym (e j l)) (bits j l))))
