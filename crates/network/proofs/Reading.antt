-- The card reader. `At s at n f links` says that what is left to read from `at` on gives the answer of the whole card; the fuel is what the
-- definition counts down, and is never used up. One lemma for each way that a command ends. The loop over the links stands at a `Turn`, then at
-- a whole link (`Linking`), then at one between two servers (`Fitting`). Assumes nothing.
use mathlib.Core.Path.{◌≡◌, refl, sym, ap, ◌∙◌}
use mathlib.Core.Bool.{Bool, true, false, not, ◌&&◌}
use mathlib.Core.List.{List, []}
use Prim.Native.Nat.{ℕ, zero, suc, ◌+◌, ◌-◌, ◌≤◌, ◌<◌}
use native.Mathlib.Omega.{arith}
use lib.ListN.{length, get_or, set}
use lib.Dec.{eqb, ltb}
use borrow.Author.Tests.{lt-ltb, le-ltb, eq-eqb, ne_eqb, eqb-true, eqb-false, ltb-true, ltb-false}
use Rattle.std.specs.Prelude.{Result, Ok, Err}
use Rattle.refusal.specs.declared.CardGround.{CardGround}
use Rattle.facts.proofs.Bools.{bools, cases, clash}
use Rattle.refusal.specs.Refused.{Refused, card, card_refusal, refusal_of}
use Rattle.network.specs.Links.{Links, no_links, with_link}
use Rattle.network.specs.Card.{Network, network, refused, more, done, turned_back, head_fits, link_fits, head_at, link_at, end_at, step_at, commands, read_card, turned, head_of, links_after, with_links}
use Rattle.network.specs.declared.card.Head.{Head}
use Rattle.network.specs.Places.{At, whole_link, Opened, Opening, Closing, Fronted, ReadAs}

commands_done : (k : ℕ) (s : List ℕ) (answer : Network) → commands k s (done answer) ≡ answer
unfolding commands
commands_done zero s answer = refl
commands_done (suc k) s answer = refl

pub reading_starts : (s : List ℕ) → length s ≤ 1024 → At s 0 0 0 no_links
unfolding read_card
reading_starts s h = record { fuel = length s; inside = omega arith; enough = omega arith; left = simp (le-ltb 1024 (length s) h) }

pub reading_long : (s : List ℕ) → 1024 < length s → refused (card 1 0) ≡ read_card s
unfolding read_card
reading_long s h = simp (lt-ltb 1024 (length s) h)

module _ {s : List ℕ} {at n f : ℕ} {links : Links} (r : At s at n f links) where
  pub reading_step : commands r.fuel s (step_at s at n f links) ≡ read_card s
  unfolding commands
  reading_step = r.left

  pub reading_answer : (answer : Network) → step_at s at n f links ≡ done answer → answer ≡ read_card s
  reading_answer answer e = sym (commands_done r.fuel s answer) ∙ ap (commands r.fuel s) (sym e) ∙ reading_step

  pub reading_goes : (at' n' f' : ℕ) (links' : Links) → step_at s at n f links ≡ more at' n' f' links' → at < at' → at' ≤ length s → At s at' n' f' links'
  reading_goes at' n' f' links' e h k = go r.fuel r.enough (ap (commands r.fuel s) (sym e) ∙ reading_step)
    where
      go : (fuel : ℕ) → length s ≤ at + fuel → commands fuel s (more at' n' f' links') ≡ read_card s → At s at' n' f' links'
      go zero q p = absurd (omega arith)
      go (suc fuel) q p = record { fuel = fuel; inside = k; enough = omega arith; left = p }

-- the step at a place, by what stands there

module _ (s : List ℕ) (at n f : ℕ) (links : Links) where
  -- no byte where a command is due
  pub step_none : length s ≤ at → step_at s at n f links ≡ turned_back 2 at
  unfolding step_at
  step_none h = simp (le-ltb at (length s) h)

  module _ (h : at < length s) where
    -- an unknown command
    pub step_unknown : (get_or s at 0 ≡ 3 → ⊥) → (get_or s at 0 ≡ 1 → ⊥) → (get_or s at 0 ≡ 2 → ⊥) → step_at s at n f links ≡ turned_back 2 at
    unfolding step_at
    step_unknown a b d = simp (lt-ltb at (length s) h, ne_eqb _ _ a, ne_eqb _ _ b, ne_eqb _ _ d)

    module _ (e : get_or s at 0 ≡ 3) where
      step_end : step_at s at n f links ≡ end_at s at n f links
      unfolding step_at
      step_end = simp (lt-ltb at (length s) h, eq-eqb _ _ e)

      pub end_first : at ≡ 0 → step_at s at n f links ≡ turned_back 4 at
      unfolding end_at
      end_first z = step_end ∙ simp (eq-eqb at 0 z)

      pub end_trailing : 0 < at → at + 1 < length s → step_at s at n f links ≡ turned_back 3 (at + 1)
      unfolding end_at
      end_trailing z k = step_end ∙ simp (ne_eqb at 0 (omega arith), lt-ltb (at + 1) (length s) k)

      pub end_read : 0 < at → length s ≤ at + 1 → step_at s at n f links ≡ done (network n f links)
      unfolding end_at
      end_read z k = step_end ∙ simp (ne_eqb at 0 (omega arith), le-ltb (at + 1) (length s) k)

    module _ (e : get_or s at 0 ≡ 1) where
      step_head : step_at s at n f links ≡ head_at s at links
      unfolding step_at
      step_head = let x = ne_eqb (get_or s at 0) 3 (λ (q : get_or s at 0 ≡ 3). absurd (omega arith)) in simp (lt-ltb at (length s) h, x, eq-eqb _ _ e)

      pub head_cut : length s - at < 3 → step_at s at n f links ≡ turned_back 2 at
      unfolding head_at
      head_cut k = step_head ∙ simp (lt-ltb (length s) (at + 3) (omega arith))

      module _ (k : 3 ≤ length s - at) where
        pub head_again : 0 < at → step_at s at n f links ≡ turned_back 4 at
        unfolding head_at
        head_again z = step_head ∙ simp (le-ltb (length s) (at + 3) (omega arith), ne_eqb at 0 (omega arith))

        module _ (z : at ≡ 0) (b : Bool) (q : b ≡ head_fits (get_or s (at + 1) 0) (get_or s (at + 2) 0)) where
          pub head_range : b ≡ false → step_at s at n f links ≡ turned_back 5 at
          unfolding head_at
          head_range w = step_head ∙ simp (le-ltb (length s) (at + 3) (omega arith), eq-eqb at 0 z, sym q ∙ w)

          pub head_goes : b ≡ true → step_at s at n f links ≡ more (at + 3) (get_or s (at + 1) 0) (get_or s (at + 2) 0) links
          unfolding head_at
          head_goes w = step_head ∙ simp (le-ltb (length s) (at + 3) (omega arith), eq-eqb at 0 z, sym q ∙ w)

    module _ (e : get_or s at 0 ≡ 2) where
      step_link : step_at s at n f links ≡ link_at s at n f links
      unfolding step_at
      step_link =
          let x = ne_eqb (get_or s at 0) 3 (λ (q : get_or s at 0 ≡ 3). absurd (omega arith)) in
          let y = ne_eqb (get_or s at 0) 1 (λ (q : get_or s at 0 ≡ 1). absurd (omega arith)) in
          simp (lt-ltb at (length s) h, x, y, eq-eqb _ _ e)

      pub link_cut : length s - at < 3 → step_at s at n f links ≡ turned_back 2 at
      unfolding link_at
      link_cut k = step_link ∙ simp (lt-ltb (length s) (at + 3) (omega arith))

      module _ (k : 3 ≤ length s - at) where
        pub link_first : at ≡ 0 → step_at s at n f links ≡ turned_back 4 at
        unfolding link_at
        link_first z = step_link ∙ simp (le-ltb (length s) (at + 3) (omega arith), eq-eqb at 0 z)

        module _ (z : at ≡ 0 → ⊥) where
          pub link_range : link_fits n (get_or s (at + 1) 0) (get_or s (at + 2) 0) ≡ false → step_at s at n f links ≡ turned_back 5 at
          unfolding link_at
          link_range w = step_link ∙ simp (le-ltb (length s) (at + 3) (omega arith), ne_eqb at 0 z, w)

          module _ (w : link_fits n (get_or s (at + 1) 0) (get_or s (at + 2) 0) ≡ true) where
            pub link_goes : step_at s at n f links ≡ more (at + 3) n f (set links (get_or s (at + 1) 0) (set (get_or links (get_or s (at + 1) 0) []) (get_or s (at + 2) 0) true))
            unfolding link_at with_link
            link_goes = step_link ∙ simp (le-ltb (length s) (at + 3) (omega arith), ne_eqb at 0 z, w)

-- the test for a whole link, both ways
pub link_whole : (s : List ℕ) (at : ℕ) (b : Bool) → b ≡ whole_link s at → b ≡ true → (3 ≤ length s - at) × (get_or s at 0 ≡ 2)
unfolding whole_link
link_whole s at b p q =
    let e = sym p ∙ q in
    let x : ltb (length s - at) 3 ≡ false = search bools in
    let y : eqb (get_or s at 0) 2 ≡ true = search bools in
    (ltb-false (length s - at) 3 x, eqb-true (get_or s at 0) 2 y)

pub link_none : (s : List ℕ) (at : ℕ) → whole_link s at ≡ false → get_or s at 0 ≡ 2 → length s - at < 3
unfolding whole_link
link_none s at e q =
    cases (ltb (length s - at) 3) (λ t. ltb-true (length s - at) 3 t)
    (λ t. clash (not (ltb (length s - at) 3) && eqb (get_or s at 0) 2) (let y = eq-eqb (get_or s at 0) 2 q in simp (t, y)) e)

pub whole_short : (s : List ℕ) (at : ℕ) → length s - at < 3 → false ≡ whole_link s at
unfolding whole_link
whole_short s at h = sym (simp (lt-ltb (length s - at) 3 h))

pub whole_long : (s : List ℕ) (at : ℕ) → 3 ≤ length s - at → eqb (get_or s at 0) 2 ≡ whole_link s at
unfolding whole_link
whole_long s at h = sym (simp (le-ltb (length s - at) 3 h))

-- a command that is neither the end nor the head nor a whole link
pub step_rest : (s : List ℕ) (at n f : ℕ) (links : Links) → at < length s → whole_link s at ≡ false → (get_or s at 0 ≡ 3 → ⊥) → (get_or s at 0 ≡ 1 → ⊥) → step_at s at n f links ≡ turned_back 2 at
step_rest s at n f links h w a b =
    cases (eqb (get_or s at 0) 2)
    (λ e. let q = eqb-true (get_or s at 0) 2 e in link_cut s at n f links h q (link_none s at w q))
    (λ e. step_unknown s at n f links h a b (eqb-false (get_or s at 0) 2 e))

-- what the tests on operands say of them
pub head_most : (n f : ℕ) (b : Bool) → b ≡ head_fits n f → b ≡ true → n ≤ 8
unfolding head_fits
head_most n f b q w = let e = sym q ∙ w in let t : ltb 8 n ≡ false = search bools in ltb-false 8 n t

link_servers : (n u v : ℕ) → n ≤ 8 → link_fits n u v ≡ true → (u < 8) × (v < 8)
unfolding link_fits
link_servers n u v h e =
    let a : ltb u n ≡ true = search bools in
    let b : ltb v n ≡ true = search bools in
    let x = ltb-true u n a in
    let y = ltb-true v n b in
    (omega arith, omega arith)

-- the loop's invariant: the card is read up to `at`
pub record Turn (s : List ℕ) (at n f : ℕ) (marks : Links) : Type 0 where
  pub most : n ≤ 8
  pub later : 0 < at
  pub reading : At s at n f marks

-- a turn at a whole link
pub record Linking (s : List ℕ) (at n f : ℕ) (marks : Links) : Type 0 where
  pub turn : Turn s at n f marks
  pub room : at + 3 ≤ length s
  pub two : get_or s at 0 ≡ 2

-- whose operands are two servers
pub record Fitting (s : List ℕ) (at n f : ℕ) (marks : Links) : Type 0 where
  pub linking : Linking s at n f marks
  pub fits : link_fits n (get_or s (at + 1) 0) (get_or s (at + 2) 0) ≡ true
  pub servers : (get_or s (at + 1) 0 < 8) × (get_or s (at + 2) 0 < 8)

module _ {s : List ℕ} {at n f : ℕ} {marks : Links} where
  pub turn_links : Turn s at n f marks → {w : Bool} → w ≡ whole_link s at → w ≡ true → Linking s at n f marks
  turn_links t {w} is so = let l = link_whole s at w is so in record { turn = t; room = omega arith; two = l.1 }

  module _ (k : Linking s at n f marks) where
    later : at ≡ 0 → ⊥
    later = let z = k.turn.later in omega arith

    pub linking_fits : {b : Bool} → b ≡ link_fits n (get_or s (at + 1) 0) (get_or s (at + 2) 0) → b ≡ true → Fitting s at n f marks
    linking_fits q e = let w = sym q ∙ e in record { linking = k; fits = w; servers = link_servers n _ _ k.turn.most w }

    pub linking_range : {b : Bool} → b ≡ link_fits n (get_or s (at + 1) 0) (get_or s (at + 2) 0) → b ≡ false → refused (card 5 at) ≡ read_card s
    linking_range q e = reading_answer k.turn.reading _ (link_range s at n f marks (omega arith) k.two (omega arith) later (sym q ∙ e))

  module _ (k : Fitting s at n f marks) where
    pub fitting_goes : Turn s (at + 3) n f (set marks (get_or s (at + 1) 0) (set (get_or marks (get_or s (at + 1) 0) []) (get_or s (at + 2) 0) true))
    fitting_goes =
        let l = k.linking in
        record {
          most = l.turn.most;
          later = omega arith;
          reading = reading_goes l.turn.reading _ _ _ _ (link_goes s at n f marks (omega arith) l.two (omega arith) (later l) k.fits) (omega arith) l.room;
        }

-- what the head gives: the place of the first link, or the card's refusal
pub read_opened : (s : List ℕ) (r : Result Head CardGround) → length s ≤ 1024 → Opening s r → Fronted s r
read_opened s (Ok h) k q = (head_most h.n h.f true (sym q.fits) refl, reading_goes (reading_starts s k) 3 h.n h.f no_links (q.step no_links) (omega arith) q.room)
read_opened s (Err g) k q = reading_answer (reading_starts s k) _ (q no_links)

-- what the command after the last whole link gives
pub read_closed : {s : List ℕ} {at n f : ℕ} {marks : Links} → Turn s at n f marks → (r : Result Unit CardGround) → Closing s at r → ReadAs s n f r marks
read_closed {s} {at} {n} {f} {marks} t (Ok x) o = reading_answer t.reading _ (o n f marks)
read_closed {s} {at} {n} {f} {marks} t (Err g) o = reading_answer t.reading _ (o n f marks)
