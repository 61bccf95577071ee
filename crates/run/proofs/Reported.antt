-- What reports bring.
--     Telling, telling-..      the loop over the reporters of one command: with what is left of them, what is held becomes that of the whole
--     heard_mine               what the receiver of a report hears: the report, then the rest
--     heard_other              what any other server hears: the rest alone
--     Gathering, gathering-..  the loop over the reports of a block: with what is left of them, what is held becomes that of the whole
-- Assumes nothing.
use mathlib.Core.Path.{◌≡◌, refl, ap}
use mathlib.Core.Bool.{Bool, true, false, cond}
use mathlib.Core.List.Memᴰ
use mathlib.Core.List.{List, [], ◌∷◌, ◌++◌}
use Prim.Native.Nat.{ℕ, suc, ◌+◌, ◌*◌, ◌≤◌, ◌<◌}
use native.Mathlib.Omega.{arith}
use lib.ListN.{length}
use lib.Dec.{eqb}
use borrow.Author.Tests.{eq-eqb, ne_eqb, eqb-true, eqb-false}
use Rattle.facts.proofs.Bools.{cases}
use Rattle.sets.specs.Sets.{has, size}
use Rattle.sets.proofs.Counts.{size_le}
use Rattle.sets.specs.Members.{members}
use Rattle.rules.specs.Blocks.{Report, Carriage, report_from, reports_at, report_carriages}
use Rattle.rules.proofs.Reports.{reports_length}
use Rattle.facts.specs.Lists.{Each}
use Rattle.rules.proofs.Lists.{length_members, members_in}
use Rattle.steps.specs.Hearing.{hit, message, brought, heard}
use Rattle.run.specs.Speaking.{Adds, Speaks, reported}
use Rattle.carriage.specs.Openings.{ReportOf, ReportsThere}
use Rattle.run.specs.declared.hearing.Against.{Against}
use Rattle.run.proofs.Speaking.{adds_none, adds_then, adds_speaks}

-- a reporter is one of the eight servers that there can be
pub telling_eight : (left m : ℕ) (rest : List ℕ) → members left ≡ m ∷ rest → m < 8
telling_eight left m rest e = (members_in left m (rw e (Memᴰ.head refl))).1

-- the reports of one command

nothing : (b : Bool) → cond {A = List ℕ} b [] [] ≡ []
nothing true = refl
nothing false = refl

-- the first, then the others
in_turn : (b : Bool) (x : ℕ) (xs : List ℕ) → cond b (x ∷ xs) [] ≡ cond b (x ∷ []) [] ++ cond b xs []
in_turn true x xs = refl
in_turn false x xs = refl

module _ (X : ℕ) (table : List ℕ) (first : ℕ) (h : ℕ → ℕ) (before : Against) (r N : ℕ) where
  -- the receiver hears the reports of these servers, any other server hears nothing
  abbrev pub Told : (number left : ℕ) → ℕ → List ℕ
  Told number left i = cond (eqb r i) (reported X table number h (members left)) []

  pub record Telling (against : Against) (k : ℕ) (left : ℕ) : Type 0 where
    pub few : k + length (members left) ≤ 8
    pub same : (b : Against) → Adds against (Told (first + k) left) b → Adds before (Told first N) b

  pub telling_starts : Telling before 0 N
  telling_starts = let e = length_members N in let b = size_le N in let z : first + 0 ≡ first = omega arith in record { few = omega arith; same = rw z (λ b a. a) }

  module _ (against : Against) (k left : ℕ) (t : Telling against k left) where
    pub telling_done : members left ≡ [] → Adds before (Told first N) against
    unfolding reported
    telling_done z = t.same against (adds_none against _ (λ i. rw z (nothing (eqb r i))))

    -- the lowest reporter left is taken out
    module _ (m others : ℕ) (split : members left ≡ m ∷ members others) where
      pub telling_fits : first + 8 < 18446744073709551616 → first + k < 18446744073709551616
      telling_fits p = let l = ap length split in let f = t.few in omega arith

      module _ (x : ℕ) (q : x ≡ cond (has X m) (message table (first + k)) (h m)) (next : Against) (p : Adds against (λ (i : ℕ). cond (eqb r i) (x ∷ []) []) next) where
        told_turn : (i : ℕ) → Told (first + k) left i ≡ cond (eqb r i) (x ∷ []) [] ++ Told (first + (k + 1)) others i
        unfolding reported
        told_turn i = let e : first + (k + 1) ≡ suc (first + k) = omega arith in rw (split, e, q) (in_turn (eqb r i) _ _)

        pub telling_goes : Telling next (k + 1) others
        telling_goes =
            let l = ap length split in
            let f = t.few in
            record {
              few = omega arith;
              same = λ b a. t.same b (adds_then against next b _ _ _ p a told_turn);
            }

-- the reports of a list of commands

module _ (X : ℕ) (table : List ℕ) (h : ℕ → ℕ) (r : ℕ) (rest : List Carriage) where
  brought_one : (k m : ℕ) → brought X table k h (record { receiver = r; before = m ∷ [] }) ≡ cond (has X m) (message table k) (h m)
  unfolding brought hit
  brought_one k m = cases (has X m) (λ e. cc) (λ e. cc)

  pub heard_mine : (k : ℕ) (ms : List ℕ)
      → heard X table k h (report_from r ms ++ rest) r ≡ reported X table k h ms ++ heard X table (k + length ms) h rest r
  unfolding heard reported
  heard_mine k [] = let z : k + 0 ≡ k = omega arith in rw z refl
  heard_mine k (m ∷ ms) =
      let z : suc k + length ms ≡ k + suc (length ms) = omega arith in
      let ih = rw z at (heard_mine (suc k) ms) in
      let e = eq-eqb r r refl in
      let o = brought_one k m in
      rw (e, o, ih) refl

  pub heard_other : (k : ℕ) (ms : List ℕ) (i : ℕ) → (r ≡ i → ⊥)
      → heard X table k h (report_from r ms ++ rest) i ≡ heard X table (k + length ms) h rest i
  unfolding heard
  heard_other k [] i o = let z : k + 0 ≡ k = omega arith in rw z refl
  heard_other k (m ∷ ms) i o =
      let z : suc k + length ms ≡ k + suc (length ms) = omega arith in
      let ih = rw z at (heard_other (suc k) ms i o) in
      let e = ne_eqb r i o in
      rw e ih

  -- one command: its receiver hears the report, then the rest
  command_turn : (k N : ℕ) (i : ℕ) → heard X table k h (report_from r (members N) ++ rest) i ≡ cond (eqb r i) (reported X table k h (members N)) [] ++ heard X table (k + size N) h rest i
  command_turn k N i =
      let b = length_members N in
      cases (eqb r i)
      (λ e. let z = eqb-true r i e in rw e (rw (← z, ← b) (heard_mine k (members N))))
      (λ e. rw e (rw (← b) (heard_other k (members N) i (eqb-false r i e))))

-- the reports of these commands are still to come: with them, what is held becomes what the whole speaks against
pub record Gathering (X : ℕ) (table : List ℕ) (h : ℕ → ℕ) (whole : ℕ → List ℕ) (each : ℕ) (against : Against) (left : List Report) (number : ℕ) : Type 0 where
  pub most : each ≤ 8
  pub few : number + 8 * length left ≤ 17179869184
  pub told : Each (ReportOf each) left
  pub so : (b : Against) → Adds against (heard X table number h (report_carriages left)) b → Speaks whole b

module _ (X : ℕ) (table : List ℕ) (h : ℕ → ℕ) where
  pub gathering_starts : (first : ℕ) → first ≤ 4294967296 → (s : List ℕ) (at count each : ℕ) → ReportsThere s at count each
      → Gathering X table h (heard X table first h (report_carriages (reports_at s at count))) each (record { zero = 0; one = 0 }) (reports_at s at count) first
  gathering_starts first low s at count each there =
      let l = reports_length s at count in
      let f = there.fits in
      let g = there.short in
      record { most = there.few; few = omega arith; told = there.told; so = λ b a. adds_speaks _ b a }

  module _ (whole : ℕ → List ℕ) (each : ℕ) (against : Against) (left : List Report) (number : ℕ) (g : Gathering X table h whole each against left number) where
    pub gathering_done : left ≡ [] → Speaks whole against
    unfolding heard report_carriages
    gathering_done l = let w = rw l at g.so in w against (adds_none against _ (λ i. refl))

    module _ (r N : ℕ) (later : List Report) (is : left ≡ record { receiver = r; reporters = N } ∷ later) where
      pub gathering_eight : r < 8
      gathering_eight = let e = rw is at g.told in (e _ (Memᴰ.head refl)).eight

      pub gathering_fits : number + 8 < 18446744073709551616
      gathering_fits = let f = g.few in omega arith

      module _ (next : Against) (q : Adds against (λ (i : ℕ). cond (eqb r i) (reported X table number h (members N)) []) next) where
        pub gathering_goes : Gathering X table h whole each next later (number + each)
        unfolding report_carriages
        gathering_goes =
            let w = rw is at g.so in
            let told = rw is at g.told in
            let exact : size N ≡ each = (told _ (Memᴰ.head refl)).exact in
            let m = g.most in
            let f = g.few in
            let l = ap length is in
            record {
              most = g.most;
              few = omega arith;
              told = λ x e. told x (Memᴰ.tail e);
              so = rw (← exact) (λ b a. w b (adds_then against next b _ _ _ q a (command_turn X table h r (report_carriages later) number N)));
            }
