-- One kind of a block: with v and t as in the run, and arrivals that are what the sources gave, each server's commit gives the run's v and t.
-- In 11 the sources give v where the run has them send the t of after step 1: they are in A, where step 1 sets t to v.
--     commit_11        the commit of 11 is steps 1 and 2; commit_12: step 3; commit_13: steps 4 and 5; commit_14: step 6
--     committed_small  a commit leaves v at most 1 and t at most 2, whatever arrives
--     arrivals         what arrives is what the run's carriages bring, with what each server gave as its value; inward_heard: in 11 with step 1 taken
--     inward_kind      so the four kinds of a block within the rules; among_kind, outward_kind, reports_kind
-- Assumes nothing.
use mathlib.Core.Path.{◌≡◌, refl, sym, ap, ◌∙◌}
use mathlib.Core.Bool.{Bool, cond, not, ◌&&◌}
use mathlib.Core.List.{List, [], ◌∷◌}
use Prim.Native.Nat.{ℕ, suc, ◌≤◌, ◌<◌}
use native.Mathlib.Omega.{arith}
use lib.Dec.{eqb, ltb}
use borrow.Author.Tests.{ltb-true}
use Rattle.facts.proofs.Bools.{by_cond, and_right}
use Rattle.sets.specs.Sets.{has, meet, minus, full}
use Rattle.network.specs.Links.{Links}
use Rattle.plan.specs.Due.{DueBlock}
use Rattle.rules.specs.Blocks.{Block, Carriage}
use Rattle.rules.specs.Rules.{InBlock}
use Rattle.steps.specs.Hearing.{message, heard, all, common}
use Rattle.steps.specs.Steps.{Values, held, step1, gather, compare, step5, step6}
use Rattle.steps.proofs.Eight.{values_at}
use Rattle.steps.proofs.Same.{read_small}
use Rattle.steps.proofs.Folded.{taken}
use Rattle.part.specs.Own.{source, carriages_of, sent, given, received, Own, own1, own_gather, own_compare, own5, own6, commit11, commit12, commit13, commit14, committed}
use Rattle.part.specs.Beside.{Turn, delivered, run_turn}
use Rattle.part.proofs.Delivered.{heard_sources, delivered_heard}
use Rattle.part.proofs.Sources.{sources_below, inward_side}

-- v and t of a server in the run
abbrev pub own_of : Values → ℕ → Own
own_of run i = record { v = held run.v i; t = held run.t i }

-- a commit against the run's steps, for one server; l is what arrived for it, X the faulty set, k the number of the first carriage

module _ (n X : ℕ) (table : List ℕ) (k : ℕ) (b : Block) (run : Values) (i : ℕ) (h : i < 8) (l : List ℕ) where
  abbrev t1 : List ℕ
  t1 = step1 b.side run.v run.t

  t1_is : held t1 i ≡ own1 b.side i (held run.v i) (held run.t i)
  unfolding step1 own1
  t1_is = values_at (λ (i : ℕ). cond (has b.side i) (held run.v i) (held run.t i)) i h

  gather_is : (cs : List Carriage) (receivers : ℕ) (t : List ℕ) (x : ℕ) → l ≡ heard X table k (held t) cs i → held t i ≡ x
      → own_gather receivers i l x ≡ held (gather X table k cs receivers t) i
  unfolding gather own_gather
  gather_is cs receivers t x e q =
      let at = values_at (λ (i : ℕ). cond (has receivers i) (common (heard X table k (held t) cs i)) (held t i)) i h in
      cc

  commit_11 : l ≡ heard X table k (held t1) (carriages_of 0x11 b) i
      → commit11 b i l (own_of run i) ≡ own_of (run_turn n X table (record { number = k; kind = 0x11; block = b }) run) i
  unfolding commit11 run_turn
  commit_11 e =
      let t = gather_is (carriages_of 0x11 b) (minus b.quorum b.side) t1 _ e t1_is in
      ap (λ (x : ℕ). record { v = held run.v i; t = x }) t

  commit_12 : l ≡ heard X table k (held run.t) (carriages_of 0x12 b) i
      → commit12 b i l (own_of run i) ≡ own_of (run_turn n X table (record { number = k; kind = 0x12; block = b }) run) i
  unfolding commit12 own_compare run_turn compare
  commit_12 e =
      let cs = carriages_of 0x12 b in
      let t = run.t in
      let at = values_at (λ (i : ℕ). cond (has b.quorum i && not (all (held t i) (heard X table k (held t) cs i))) 2 (held t i)) i h in
      ap (λ (x : ℕ). record { v = held run.v i; t = x }) (cc)

  commit_13 : l ≡ heard X table k (held run.t) (carriages_of 0x13 b) i
      → commit13 n b i l (own_of run i) ≡ own_of (run_turn n X table (record { number = k; kind = 0x13; block = b }) run) i
  unfolding commit13 own5 run_turn step5
  commit_13 e =
      let sound = minus (full n) b.faults in
      let kept = meet b.side b.quorum in
      let t4 = gather X table k (carriages_of 0x13 b) (minus sound b.quorum) run.t in
      let t = gather_is (carriages_of 0x13 b) (minus sound b.quorum) run.t _ e refl in
      let at = values_at (λ (i : ℕ). cond (has sound i && (not (has kept i) && ltb (held t4 i) 2)) (held t4 i) (held run.v i)) i h in
      ap (λ (x : ℕ). record { v = cond (has sound i && (not (has kept i) && ltb x 2)) x (held run.v i); t = x }) t
      ∙ ap (λ (x : ℕ). record { v = x; t = held t4 i }) (sym at)

  commit_14 : l ≡ heard X table k (held run.v) (carriages_of 0x14 b) i
      → commit14 b i l (own_of run i) ≡ own_of (run_turn n X table (record { number = k; kind = 0x14; block = b }) run) i
  unfolding commit14 own6 run_turn step6
  commit_14 e =
      let cs = carriages_of 0x14 b in
      let v = run.v in
      let at = values_at (λ (i : ℕ). cond (has b.faults i && ltb (common (heard X table k (held v) cs i)) 2) (common (heard X table k (held v) cs i)) (held v i)) i h in
      ap (λ (x : ℕ). record { v = x; t = held run.t i }) (cc)

-- bounds

common_small : (arrived : List ℕ) (j i : ℕ) (cs : List Carriage) → common (received arrived j i cs) < 3
unfolding common received message
common_small arrived j i [] = omega arith
common_small arrived j i (c ∷ cs) =
    by_cond (λ (l : List ℕ). common l < 3) (eqb c.receiver i) _ _
    (λ e. by_cond (λ (x : ℕ). x < 3) (all _ (received arrived (suc j) i cs)) _ _ (λ q. read_small _) (λ q. omega arith))
    (λ e. common_small arrived j i cs)

-- v at most 1 and t at most 2
abbrev pub Small : Own → Type 0
Small o = (o.v < 2) × (o.t < 3)

either_small : (b : Bool) (x y : ℕ) → x < 3 → y < 3 → cond b x y < 3
either_small b x y p q = by_cond (λ (z : ℕ). z < 3) b x y (λ e. p) (λ e. q)

own5_small : (sound kept i t v : ℕ) → v < 2 → own5 sound kept i t v < 2
unfolding own5
own5_small sound kept i t v h =
    by_cond (λ (x : ℕ). x < 2) (has sound i && (not (has kept i) && ltb t 2)) t v
    (λ e. ltb-true t 2 (and_right (not (has kept i)) (ltb t 2) (and_right (has sound i) (not (has kept i) && ltb t 2) e)))
    (λ e. h)

pub committed_small : (n kind : ℕ) (b : Block) (i : ℕ) (arrived : List ℕ) (s : Own) → Small s → Small (committed n kind b i arrived s)
unfolding committed commit11 commit12 commit13 commit14 own1 own_gather own_compare own6
committed_small n kind b i arrived s (v, t) =
    let l = received arrived 0 i (carriages_of kind b) in
    let c = common_small arrived 0 i (carriages_of kind b) in
    let v3 : s.v < 3 = omega arith in
    let two : 2 < 3 = omega arith in
    by_cond Small (eqb kind 0x11) _ _ (λ e. (v, either_small (has (minus b.quorum b.side) i) _ _ c (either_small (has b.side i) _ _ v3 t)))
    (λ e. by_cond Small (eqb kind 0x12) _ _ (λ e. (v, either_small (has b.quorum i && not (all s.t l)) _ _ two t))
    (λ e. by_cond Small (eqb kind 0x13) _ _
    (λ e. (own5_small (minus (full n) b.faults) (meet b.side b.quorum) i _ s.v v, either_small (has (minus (minus (full n) b.faults) b.quorum) i) _ _ c t))
    (λ e. (taken (has b.faults i) (common l) s.v v, t))))

abbrev pub SmallBelow : ℕ → Values → Type 0
SmallBelow n run = (j : ℕ) → j < n → Small (own_of run j)

-- what server j sends in a kind
abbrev pub sent_by : ℕ → Values → ℕ → ℕ
sent_by kind run j = sent kind (held run.v j) (held run.t j)

-- with every row as the sources give it, each server's commit of the turn gives the run's values
abbrev pub AsRun : ℕ → ℕ → List ℕ → Turn → Type 0
AsRun n X table turn =
    (run : Values) → SmallBelow n run
    → (gave : ℕ → List ℕ) → ((j : ℕ) → j < n → gave j ≡ given (sent_by turn.kind run j) j (carriages_of turn.kind turn.block))
    → (i : ℕ) → i < n
    → committed n turn.kind turn.block i (delivered X table turn.number gave (carriages_of turn.kind turn.block) i) (own_of run i)
    ≡ own_of (run_turn n X table turn run) i

-- a block within the rules
module _ (n f : ℕ) (links : Links) (few : n ≤ 8) (d : DueBlock) (b : Block) (g : InBlock n f links d b) (X : ℕ) (table : List ℕ) (k : ℕ) where
  arrivals : (kind : ℕ) (run : Values) → ((j : ℕ) → j < n → sent_by kind run j < 3)
      → (gave : ℕ → List ℕ) → ((j : ℕ) → j < n → gave j ≡ given (sent_by kind run j) j (carriages_of kind b)) → (i : ℕ)
      → received (delivered X table k gave (carriages_of kind b) i) 0 i (carriages_of kind b) ≡ heard X table k (sent_by kind run) (carriages_of kind b) i
  arrivals kind run small gave e i = delivered_heard n X table (sent_by kind run) small (carriages_of kind b) (sources_below n f links d b g kind) k gave e i

  -- the sources of 11 are in A, where step 1 sets t to v
  inward_heard : (run : Values) (i : ℕ)
      → heard X table k (held run.v) (carriages_of 0x11 b) i ≡ heard X table k (held (step1 b.side run.v run.t)) (carriages_of 0x11 b) i
  unfolding step1
  inward_heard run i =
      let t1 = step1 b.side run.v run.t in
      heard_sources X table k (held run.v) (held t1) (carriages_of 0x11 b) i
      (λ c m. let a = inward_side n f links d b g c m in
      let l = sources_below n f links d b g 0x11 c m in
      let at = values_at (λ (i : ℕ). cond (has b.side i) (held run.v i) (held run.t i)) (source c) (omega arith) in
      cc)

  pub inward_kind : AsRun n X table (record { number = k; kind = 0x11; block = b })
  unfolding committed sent
  inward_kind run small gave e i h =
      commit_11 n X table k b run i (omega arith) _ (arrivals 0x11 run (λ j l. let o = small j l in omega arith) gave e i ∙ inward_heard run i)

  pub among_kind : AsRun n X table (record { number = k; kind = 0x12; block = b })
  unfolding committed sent
  among_kind run small gave e i h = commit_12 n X table k b run i (omega arith) _ (arrivals 0x12 run (λ j l. let o = small j l in omega arith) gave e i)

  pub outward_kind : AsRun n X table (record { number = k; kind = 0x13; block = b })
  unfolding committed sent
  outward_kind run small gave e i h = commit_13 n X table k b run i (omega arith) _ (arrivals 0x13 run (λ j l. let o = small j l in omega arith) gave e i)

  pub reports_kind : AsRun n X table (record { number = k; kind = 0x14; block = b })
  unfolding committed sent
  reports_kind run small gave e i h = commit_14 n X table k b run i (omega arith) _ (arrivals 0x14 run (λ j l. let o = small j l in omega arith) gave e i)
