-- The grounds of a call and the answer where there is none, as the code meets them.
--     site_card, ..       card and plan as the code checks them; site_whole: what an accepted plan is to the code
--     value-.., values-.. what a server sends
--     commit_is           the commit of a kind, by the sets that the opening command fixes
--     start-..            the grounds of a start
--     ask-..              the grounds of an ask
--     commit-..           the grounds of a commit
--     open-.., closed-..  the calls on bytes
-- Assumes nothing.
use mathlib.Core.Path.{◌≡◌, refl, sym, ap, ◌∙◌}
use mathlib.Core.Bool.{Bool, true, false, ◌&&◌}
use mathlib.Core.Logic.{◌⊎◌, inl, inr}
use mathlib.Core.List.{List, [], ◌∷◌, ◌++◌}
use Prim.Native.Nat.{ℕ, suc, min, ◌≤◌, ◌<◌}
use native.Mathlib.Omega.{arith}
use lib.Dec.{eqb, ltb}
use lib.ListN.{length, drop, replicate}
use borrow.Author.Tests.{eq-eqb, ne_eqb, lt-ltb, le-ltb, eqb-true, ltb-true}
use Rattle.std.specs.Prelude.{Result, Ok, Err}
use Rattle.facts.proofs.Bools.{cases, and_left, and_right}
use Rattle.refusal.specs.Refused.{refusal_of}
use Rattle.refusal.specs.declared.Refusal.{Refusal}
use Rattle.refusal.specs.declared.CallGround.{CallGround}
use Rattle.network.specs.Links.{Links}
use Rattle.network.specs.Card.{network, refused, read_card}
use Rattle.network.proofs.Main.{card_proper}
use Rattle.plan.specs.Check.{totals, turned, check_plan}
use Rattle.rules.specs.Blocks.{Block, Carriage}
use Rattle.carriage.specs.declared.opening.Opening.{Opening}
use Rattle.carriage.specs.Openings.{Ready, block_at, Opened}
use Rattle.carriage.proofs.Accepting.{accepted_blocks}
use Rattle.carriage.proofs.Placed.{fault_is, side_is, quorum_is}
use Rattle.part.specs.Own.{source, Own, sent, given, received, carriages_of, commit11, commit12, commit13, commit14, committed}
use Rattle.part.specs.State.{State, first, is_end, placed, stands, opened, next}
use Rattle.part.specs.Calls.{site, closed, site_of, block_of, Stepped, Asked, start_on, start_call, values_due, ask_on, ask_call, commit_on, commit_call}
use Rattle.own.specs.declared.state.State as CodeState
use Rattle.own.specs.declared.kind.Kind.{Kind}
use Rattle.own.specs.Kinds.{Counts}
use Rattle.own.specs.Arrivals.{arrivals}
use Rattle.own.specs.States.{state_of, moved_on}
use Rattle.own.specs.Commits.{committed_on}
use Rattle.own.proofs.Standing.{moved_next}
use Rattle.server.specs.Answers.{value_of, started_of, Stepping, Starting, Asking}
use Rattle.server.proofs.Arriving.{received_are}

-- card and plan as the code checks them

module _ (card plan : List ℕ) where
  pub site_card : (g : Refusal) → refused (refusal_of g) ≡ read_card card → closed (refusal_of g) ≡ site_of card plan
  unfolding site_of
  site_card g is = rw (← is) refl

  module _ (n f : ℕ) (links : Links) (is : network n f links ≡ read_card card) where
    pub site_plan : (g : Refusal) → turned (refusal_of g) ≡ check_plan card plan → closed (refusal_of g) ≡ site_of card plan
    unfolding site_of
    site_plan g stop = rw (← is, ← stop) refl

    module _ (blocks carriages : ℕ) (ok : totals blocks carriages ≡ check_plan card plan) where
      pub site_found : site n f blocks ≡ site_of card plan
      unfolding site_of
      site_found = rw (← is, ← ok) refl

      pub site_whole : Opened n f plan blocks
      site_whole =
          let p = card_proper card n f links (sym is) in
          let (many, short, runs) = accepted_blocks card plan n f links (sym is) blocks carriages (sym ok) in
          record { few = p.most; bound = p.bound; short = short; runs = runs }

-- what a state that stands is

pub record Stood (blocks : ℕ) (s : State) : Type 0 where
  pub v_small : s.v < 2
  pub t_small : s.t < 3
  pub inside : (s.kind ≡ 0x15 → ⊥) → s.block < blocks
  pub shut : s.kind ≡ 0x15 → s.asked ≡ 0

stood_by : (blocks : ℕ) (s : State) → stands blocks s ≡ true → Stood blocks s
unfolding stands placed is_end
stood_by blocks s ok =
    let p = and_left (placed blocks s) (ltb s.v 2 && ltb s.t 3) ok in
    let q = and_right (placed blocks s) (ltb s.v 2 && ltb s.t 3) ok in
    record {
      v_small = ltb-true s.v 2 (and_left (ltb s.v 2) (ltb s.t 3) q);
      t_small = ltb-true s.t 3 (and_right (ltb s.v 2) (ltb s.t 3) q);
      inside = λ o. let e = ne_eqb s.kind 0x15 o in ltb-true s.block blocks (and_left (ltb s.block blocks) (ltb 0x10 s.kind && (ltb s.kind 0x15 && ltb s.asked 2)) (rw e at p));
      shut = λ z. let e = eq-eqb s.kind 0x15 z in eqb-true s.asked 0 (and_right (eqb s.block blocks) (eqb s.asked 0) (rw e at p));
    }

-- what a server sends

given_one : (x i : ℕ) (cs : List Carriage) → given x i cs ≡ replicate (length (given x i cs)) x
unfolding given
given_one x i [] = refl
given_one x i (c ∷ cs) = cases (eqb (source c) i) (λ e. rw e (ap (λ (l : List ℕ). x ∷ l) (given_one x i cs))) (λ e. rw e (given_one x i cs))

given_many : (x y i : ℕ) (cs : List Carriage) → length (given x i cs) ≡ length (given y i cs)
unfolding given
given_many x y i [] = refl
given_many x y i (c ∷ cs) = cases (eqb (source c) i) (λ e. rw e (ap suc (given_many x y i cs))) (λ e. rw e (given_many x y i cs))

module _ (s : State) (k : Kind) (counts : Counts s.kind k) where
  pub value_works : (k ≡ Kind.Among) ⊎ (k ≡ Kind.Outward) → s.t ≡ value_of s
  unfolding value_of sent
  value_works (inl e) = let w = rw e at counts in rw w refl
  value_works (inr e) = let w = rw e at counts in rw w refl

  pub value_bits : (k ≡ Kind.Inward) ⊎ (k ≡ Kind.Reports) → s.v ≡ value_of s
  unfolding value_of sent
  value_bits (inl e) = let w = rw e at counts in rw w refl
  value_bits (inr e) = let w = rw e at counts in sym (simp (ne_eqb _ _ w.1, ne_eqb _ _ w.2))

module _ (n f : ℕ) (plan : List ℕ) (i : ℕ) (s : State) where
  pub values_end : s.kind ≡ 0x15 → 1 ≡ length (values_due n f plan i s)
  unfolding values_due is_end
  values_end e = let a = eq-eqb _ _ e in sym (simp a)

  pub values_sent : (s.kind ≡ 0x15 → ⊥) → (k : ℕ) (b : Block) → k ≡ length (given 0 i (carriages_of s.kind b)) → b ≡ block_of n f plan s.block
      → k ≡ length (values_due n f plan i s)
  unfolding values_due is_end
  values_sent o k b e is =
      let a = ne_eqb _ _ o in
      e ∙ ap (λ (x : Block). length (given 0 i (carriages_of s.kind x))) is ∙ given_many 0 (sent s.kind s.v s.t) i (carriages_of s.kind (block_of n f plan s.block)) ∙ sym (simp a)

  -- at the end v
  sent_end : is_end s ≡ true → s.v ≡ sent s.kind s.v s.t
  unfolding is_end sent
  sent_end e = let k = eqb-true s.kind 0x15 e in rw k refl

  values_alike : values_due n f plan i s ≡ replicate (length (values_due n f plan i s)) (value_of s)
  unfolding values_due value_of
  values_alike =
      cases (is_end s)
      (λ e. rw e (ap (λ (x : ℕ). x ∷ []) (sent_end e)))
      (λ e. rw e (given_one (sent s.kind s.v s.t) i (carriages_of s.kind (block_of n f plan s.block))))

-- the commit of a kind

module _ (o : Opening) (part : List ℕ) (r : Ready o part) (kind i : ℕ) (arrived : List ℕ) (s : Own) (k : ℕ)
    (due : k ≡ length (received [] 0 i (carriages_of kind (block_at o part)))) where
  commit_is : committed_on o kind i (arrivals arrived 0 k) s ≡ committed o.n kind (block_at o part) i arrived s
  unfolding committed_on committed commit11 commit12 commit13 commit14
  commit_is =
      let h = r.opens in
      let l : arrivals arrived 0 k ≡ received arrived 0 i (carriages_of kind (block_at o part)) = ap (arrivals arrived 0) due ∙ sym (received_are arrived i (carriages_of kind (block_at o part))) in
      let x = fault_is o part h in
      let y = side_is o part h in
      let z = quorum_is o part h in
      let few = r.few in
      let m : min o.n 8 ≡ o.n = omega arith in
      cc

  pub moves : (blocks n f : ℕ) (plan : List ℕ) (before after : CodeState.State) → o.n ≡ n → block_at o part ≡ block_of n f plan before.block
      → (new : Own) → new ≡ committed_on o kind i (arrivals arrived 0 k) s → state_of after ≡ moved_on blocks (state_of before) new → before.block < blocks
      → state_of after ≡ next blocks (state_of before) (committed n kind (block_of n f plan before.block) i arrived s)
  moves blocks n f plan before after en is new e a inside =
      let c : committed_on o kind i (arrivals arrived 0 k) s ≡ committed n kind (block_of n f plan before.block) i arrived s =
      commit_is ∙ (λ j. committed (en j) kind (is j) i arrived s) in
      a ∙ moved_next blocks (state_of before) new inside ∙ ap (next blocks (state_of before)) (e ∙ c)

-- the grounds of a start

module _ (n i x : ℕ) where
  pub start_12 : 1 < x → Starting n i x (Err (Refusal.Call CallGround.Inputs))
  unfolding start_on
  start_12 h = record { on = λ f blocks. sym (simp (lt-ltb _ _ h)) }

  module _ (h : x ≤ 1) where
    pub start_13 : n ≤ i → Starting n i x (Err (Refusal.Call CallGround.FaultSet))
    unfolding start_on
    start_13 l = record { on = λ f blocks. sym (simp (le-ltb _ _ h, le-ltb _ _ l)) }

    pub start_first : i < n → (code : CodeState.State) → state_of code ≡ first x → Starting n i x (Ok code)
    unfolding start_on
    start_first l code z = record { on = λ f blocks. ap Stepped.at z ∙ sym (simp (le-ltb _ _ h, lt-ltb _ _ l)) }

-- the grounds of an ask

module _ (n blocks i : ℕ) (code : CodeState.State) (ok : Bool) (is : ok ≡ (ltb i n && stands blocks (state_of code))) where
  module _ (no : ok ≡ false) where
    off : (ltb i n && stands blocks (state_of code)) ≡ false
    off = sym is ∙ no

    pub ask_13 : (f : ℕ) (plan lent : List ℕ) → Asking (state_of code) (ask_on (site n f blocks) plan i (state_of code) lent) (Err (Refusal.Call CallGround.FaultSet)) (state_of code) lent lent
    unfolding ask_on
    ask_13 f plan lent = let a = off in rw a record { verdict = refl; state = refl; values = refl; bytes = refl }

    pub commit_13 : (f : ℕ) (plan arrived : List ℕ) → Stepping (state_of code) (commit_on (site n f blocks) plan i (state_of code) arrived) (Err (Refusal.Call CallGround.FaultSet)) (state_of code)
    unfolding commit_on
    commit_13 f plan arrived = let a = off in rw a record { verdict = refl; state = refl }

  module _ (yes' : ok ≡ true) where
    on : (ltb i n && stands blocks (state_of code)) ≡ true
    on = sym is ∙ yes'

    -- one of the eight servers that there can be
    pub server_eight : n ≤ 8 → i < 8
    server_eight h = let l = ltb-true i n (and_left (ltb i n) (stands blocks (state_of code)) on) in omega arith

    pub stood : Stood blocks (state_of code)
    stood = stood_by blocks (state_of code) (and_right (ltb i n) (stands blocks (state_of code)) on)

    module _ (f : ℕ) (plan lent : List ℕ) (count : ℕ) (many : count ≡ length (values_due n f plan i (state_of code))) where
      pub ask_14 : length lent < count → Asking (state_of code) (ask_on (site n f blocks) plan i (state_of code) lent) (Err (Refusal.Call CallGround.Buffer)) (state_of code) lent lent
      unfolding ask_on
      ask_14 h =
          let a = on in
          let b = lt-ltb (length lent) (length (values_due n f plan i (state_of code))) (rw many at h) in
          rw (a, b) record { verdict = refl; state = refl; values = refl; bytes = refl }

      module _ (h : count ≤ length lent) where
        room : ltb (length lent) (length (values_due n f plan i (state_of code))) ≡ false
        room = le-ltb _ _ (rw many at h)

        pub ask_16 : code.asked ≡ 1 → Asking (state_of code) (ask_on (site n f blocks) plan i (state_of code) lent) (Err (Refusal.Call CallGround.OutOfTurn)) (state_of code) lent lent
        unfolding ask_on
        ask_16 e =
            let a = on in
            let b = room in
            let c = eq-eqb code.asked 1 e in
            rw (a, b, c) record { verdict = refl; state = refl; values = refl; bytes = refl }

        pub ask_opens : (code.asked ≡ 1 → ⊥) → (value : ℕ) → value ≡ value_of (state_of code) → (new : CodeState.State) → state_of new ≡ opened (state_of code)
            → (after : List ℕ) → after ≡ replicate count value ++ drop count lent
            → Asking (state_of code) (ask_on (site n f blocks) plan i (state_of code) lent) (Ok count) (state_of new) lent after
        unfolding ask_on
        ask_opens o value v new s after w =
            let a = on in
            let b = room in
            let c = ne_eqb code.asked 1 o in
            let values = values_due n f plan i (state_of code) in
            let e : ask_on (site n f blocks) plan i (state_of code) lent ≡ Asked.sends (opened (state_of code)) values = rw (a, b, c) refl in
            let same : replicate count value ≡ values = (λ j. replicate (many j) (v j)) ∙ sym (values_alike n f plan i (state_of code)) in
            rw e record { verdict = refl; state = s; values = many; bytes = w ∙ (λ j. same j ++ drop (many j) lent) }

    -- the grounds of a commit

    pub commit_16 : code.asked ≡ 0 → (f : ℕ) (plan arrived : List ℕ) → Stepping (state_of code) (commit_on (site n f blocks) plan i (state_of code) arrived) (Err (Refusal.Call CallGround.OutOfTurn)) (state_of code)
    unfolding commit_on
    commit_16 e f plan arrived =
        let a = on in
        let c = eq-eqb code.asked 0 e in
        rw (a, c) record { verdict = refl; state = refl }

    pub commit_moves : (code.asked ≡ 0 → ⊥) → (f : ℕ) (plan arrived : List ℕ) (new : CodeState.State)
        → state_of new ≡ next blocks (state_of code) (committed n code.kind (block_of n f plan code.block) i arrived (record { v = code.v; t = code.t }))
        → Stepping (state_of code) (commit_on (site n f blocks) plan i (state_of code) arrived) (Ok tt) (state_of new)
    unfolding commit_on
    commit_moves o f plan arrived new s =
        let a = on in
        let c = ne_eqb code.asked 0 o in
        rw (a, c) record { verdict = refl; state = s }

-- the calls on bytes

module _ (card plan : List ℕ) where
  module _ (n f blocks : ℕ) (e : site n f blocks ≡ site_of card plan) where
    pub open_start : (i x : ℕ) (r : Result CodeState.State Refusal) → Starting n i x r → started_of r ≡ start_call card plan i x
    unfolding start_call
    open_start i x r s = rw (← e) (s.on f blocks)

    -- the plan as the code hands it on
    module _ (rest : List ℕ) (p : rest ≡ plan) (s : State) (i : ℕ) where
      pub open_ask : (lent : List ℕ) (r : Result ℕ Refusal) (new : State) (after : List ℕ) → Asking s (ask_on (site n f blocks) rest i s lent) r new lent after
          → Asking s (ask_call card plan i s lent) r new lent after
      unfolding ask_call
      open_ask lent r new after a = rw (← e, ← p) a

      pub open_commit : (arrived : List ℕ) (r : Result (Unit {0}) Refusal) (new : State) → Stepping s (commit_on (site n f blocks) rest i s arrived) r new
          → Stepping s (commit_call card plan i s arrived) r new
      unfolding commit_call
      open_commit arrived r new a = rw (← e, ← p) a

  module _ (g : Refusal) (e : closed (refusal_of g) ≡ site_of card plan) where
    pub closed_start : (i x : ℕ) → Stepped.held (refusal_of g) ≡ start_call card plan i x
    unfolding start_call start_on
    closed_start i x = rw (← e) refl

    pub closed_ask : (s : State) (i : ℕ) (lent : List ℕ) → Asking s (ask_call card plan i s lent) (Err g) s lent lent
    unfolding ask_call ask_on
    closed_ask s i lent = rw (← e) record { verdict = refl; state = refl; values = refl; bytes = refl }

    pub closed_commit : (s : State) (i : ℕ) (arrived : List ℕ) → Stepping s (commit_call card plan i s arrived) (Err g) s
    unfolding commit_call commit_on
    closed_commit s i arrived = rw (← e) record { verdict = refl; state = refl }
