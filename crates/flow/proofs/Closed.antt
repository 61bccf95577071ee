-- A search that finds nothing has seen all that its steps lead to. The marks of the sides seen only grow, and every side that was newly seen has been
-- followed: this is shown for the search from an entry side and from a leaving side together, by induction on the allowance, which falls with every
-- side that is newly seen and so never runs out.
--     Reason        why a leaving side was reached: from its entry side, or back from a server that it hands on to
--     Followed      where the step from an entry side leads was seen
--     Passed        the steps from a leaving side lead to sides seen, not to the receiver, and it was reached for a reason
--     Grown         marks that grew, with every newly seen side followed
--     tries_ended   a loop of tries over marks that grow in each try
--     ended         the search from an entry side and from a leaving side with an allowance k
--     Closed, seek_closed    the marks of a whole search that finds nothing; seek_same, the flow is as it was
-- Assumes nothing.
use mathlib.Core.Path.{◌≡◌, refl, sym, ◌∙◌}
use mathlib.Core.Logic.{◌⊎◌, inl, inr, ⊎_elim}
use mathlib.Core.Bool.{true, false, cond, not, ◌&&◌, ◌||◌}
use mathlib.Core.List.{List}
use Prim.Native.Nat.{ℕ, zero, suc, ◌+◌, ◌-◌, ◌≤◌, ◌<◌}
use native.Mathlib.Omega.{arith}
use lib.Dec.{eqb, ltb}
use lib.ListN.{get_or}
use borrow.Author.Tests.{ltb-true, ltb-false, eqb-true, eqb-false, ne_eqb}
use Rattle.facts.proofs.Bools.{cases, clash, or_cases, bools}
use Rattle.sets.specs.Sets.{In, Out, has, single, union, count}
use Rattle.sets.proofs.Members.{has_meet, has_union, has_minus, has_empty, has_single}
use Rattle.sets.proofs.Counts.{count_mono, count_le}
use Rattle.sets.proofs.LowestMember.{first_in_found}
use Rattle.flow.specs.declared.Flow.{Flow}
use Rattle.flow.specs.Search.{Sought, out_in, lost, reached, changed, feeder, behind, step_in, step_out, with_start, tries, ahead, enter, leave, sides, seek}
use Rattle.flow.proofs.Updates.{eqb_self, has_put, count_start}

-- marks

-- the marks with x are those of before and x
marked_same : (E x : ℕ) → x < 8 → In (has (union E (single x))) x
marked_same E x h = let a = has_put E x x h in let b = eqb_self x in cc

marked_more : (E x i : ℕ) → In (has E) i → In (has (union E (single x))) i
marked_more E x i e = let a = has_union E (single x) i in cc

marked_other : (E x i : ℕ) → (i ≡ x → ⊥) → has (union E (single x)) i ≡ has E i
marked_other E x i o =
    let a = has_union E (single x) i in
    let b = has_single x i in
    let c = ne_eqb x i (λ e. o (sym e)) in
    cases (has E i) (λ e. cc) (λ e. cases (ltb x 8) (λ l. cc) (λ l. cc))

-- how many sides are not seen
abbrev unseen : ℕ → ℕ → ℕ
unseen E L = (8 - count 8 (has E)) + (8 - count 8 (has L))

-- steps

-- why the leaving side of x was reached
abbrev pub Reason : Flow → (E x : ℕ) → Type 0
Reason φ E x = (In (has E) x × Out (has φ.used) x) ⊎ ((y : ℕ) × In (has E) y × (out_in φ x y ≡ true))

-- where the entry side of x leads was seen, if it leads anywhere
abbrev pub Followed : Flow → (L x : ℕ) → Type 0
Followed φ L x = (8 ≤ behind φ x) ⊎ In (has L) (behind φ x)

pub record Passed (rows : List ℕ) (inner last : ℕ) (φ : Flow) (E x : ℕ) : Type 0 where
  pub below : x < 8
  pub quiet : has last x && not (has φ.ends x) ≡ false
  pub onward : (y : ℕ) → y < 8 → In (has (ahead rows inner φ x)) y → In (has E) y
  pub reason : Reason φ E x

pub record Grown (rows : List ℕ) (inner last : ℕ) (φ : Flow) (E L E' L' : ℕ) : Type 0 where
  pub entered : (x : ℕ) → In (has E) x → In (has E') x
  pub left : (x : ℕ) → In (has L) x → In (has L') x
  pub inside : (x : ℕ) → In (has E') x → Out (has E) x → In (has inner) x
  pub followed : (x : ℕ) → In (has E') x → Out (has E) x → Followed φ L' x
  pub passed : (x : ℕ) → In (has L') x → Out (has L) x → Passed rows inner last φ E' x

-- a search from the marks E and L that leaves the flow as it was
pub record Ended (rows : List ℕ) (inner last : ℕ) (φ : Flow) (E L : ℕ) (s : Sought) : Type 0 where
  pub flow : s.flow ≡ φ
  pub grown : Grown rows inner last φ E L s.entered s.left

-- the same, where it began at the entry side of x
abbrev EnteredAt : List ℕ → (inner last : ℕ) → Flow → (E L x : ℕ) → Sought → Type 0
EnteredAt rows inner last φ E L x s = Ended rows inner last φ E L s × In (has s.entered) x

-- and where it began at the leaving side of x
abbrev LeftAt : List ℕ → (inner last : ℕ) → Flow → (E L x : ℕ) → Sought → Type 0
LeftAt rows inner last φ E L x s = Ended rows inner last φ E L s × In (has s.left) x

module _ (rows : List ℕ) (inner last : ℕ) (φ : Flow) where
  reason_more : (E E' x : ℕ) → ((i : ℕ) → In (has E) i → In (has E') i) → Reason φ E x → Reason φ E' x
  reason_more E E' x m r = ⊎_elim (λ a. inl (m x a.0, a.1)) (λ w. inr (w.0, m w.0 w.1, w.2)) r

  followed_more : (L L' x : ℕ) → ((i : ℕ) → In (has L) i → In (has L') i) → Followed φ L x → Followed φ L' x
  followed_more L L' x m f = ⊎_elim inl (λ i. inr (m (behind φ x) i)) f

  passed_more : (E E' x : ℕ) → ((i : ℕ) → In (has E) i → In (has E') i) → Passed rows inner last φ E x → Passed rows inner last φ E' x
  passed_more E E' x m p = record {
    below = p.below;
    quiet = p.quiet;
    onward = λ y k e. m y (p.onward y k e);
    reason = reason_more E E' x m p.reason;
  }

  grown_none : (E L : ℕ) → Grown rows inner last φ E L E L
  grown_none E L = record {
    entered = λ x e. e;
    left = λ x e. e;
    inside = λ x e o. clash (has E x) e o;
    followed = λ x e o. clash (has E x) e o;
    passed = λ x e o. clash (has L x) e o;
  }

  grown_on : (E L E' L' E'' L'' : ℕ) → Grown rows inner last φ E L E' L' → Grown rows inner last φ E' L' E'' L'' → Grown rows inner last φ E L E'' L''
  grown_on E L E' L' E'' L'' g h = record {
    entered = λ x e. h.entered x (g.entered x e);
    left = λ x e. h.left x (g.left x e);
    inside = λ x e o. cases (has E' x) (λ m. g.inside x m o) (λ m. h.inside x e m);
    followed = λ x e o. cases (has E' x) (λ m. followed_more L' L'' x h.left (g.followed x m o)) (λ m. h.followed x e m);
    passed = λ x e o. cases (has L' x) (λ m. passed_more E' E'' x h.entered (g.passed x m o)) (λ m. h.passed x e m);
  }

  grown_unseen : (E L E' L' : ℕ) → Grown rows inner last φ E L E' L' → unseen E' L' ≤ unseen E L
  grown_unseen E L E' L' g =
      let a = count_mono 8 (has E) (has E') (λ i k. g.entered i) in
      let b = count_mono 8 (has L) (has L') (λ i k. g.left i) in
      omega arith

  -- the entry side of x seen first, and where it leads thereafter
  grown_enter : (E L E' L' x : ℕ) → x < 8 → In (has inner) x → Followed φ L' x
      → Grown rows inner last φ (union E (single x)) L E' L' → Grown rows inner last φ E L E' L'
  grown_enter E L E' L' x k i f g = record {
    entered = λ y e. g.entered y (marked_more E x y e);
    left = g.left;
    inside = λ y e o. cases (eqb y x) (λ q. rw (eqb-true y x q) i) (λ q. g.inside y e (marked_other E x y (eqb-false y x q) ∙ o));
    followed = λ y e o. cases (eqb y x) (λ q. rw (eqb-true y x q) f) (λ q. g.followed y e (marked_other E x y (eqb-false y x q) ∙ o));
    passed = g.passed;
  }

  -- the leaving side of x seen first, and where it leads thereafter
  grown_leave : (E L E' L' x : ℕ) → Passed rows inner last φ E' x → Grown rows inner last φ E (union L (single x)) E' L' → Grown rows inner last φ E L E' L'
  grown_leave E L E' L' x p g = record {
    entered = g.entered;
    left = λ y e. g.left y (marked_more L x y e);
    inside = g.inside;
    followed = g.followed;
    passed = λ y e o. cases (eqb y x) (λ q. rw (eqb-true y x q) p) (λ q. g.passed y e (marked_other L x y (eqb-false y x q) ∙ o));
  }

-- what is not found is handed on as it is
changed_lost : (g : Flow → Flow) (s : Sought) → (changed g s).found ≡ false → (s.found ≡ false) × (changed g s ≡ s)
unfolding changed reached
changed_lost g s e = cases s.found (λ f. clash true refl (rw f at e)) (λ f. (f, rw f refl))

-- so what holds of it where it is not found holds of it with a step more
lost_on : (P : Sought → Type 0) (g : Flow → Flow) (s : Sought) → (s.found ≡ false → P s) → (changed g s).found ≡ false → P (changed g s)
lost_on P g s h e = let l = changed_lost g s e in rw l.1 (h l.0)

-- a loop that goes on past t has not found it there
past : (t r : Sought) → (cond t.found t r).found ≡ false → (t.found ≡ false) × (cond t.found t r ≡ r)
past t r e = cases t.found (λ f. clash true refl (rw f at e)) (λ f. (f, rw f refl))

-- a loop over tries each of which, where it finds nothing, ends with grown marks and the side that it began with seen
module _ (rows : List ℕ) (inner last : ℕ) (φ : Flow) (try : ℕ → ℕ → ℕ → Sought) (choices m : ℕ)
    (ends : (y E L : ℕ) → y < 8 → In (has choices) y → Out (has E) y → unseen E L < m → (try y E L).found ≡ false → EnteredAt rows inner last φ E L y (try y E L)) where
  tried : (y : ℕ) → y < 8 → (s : Sought) → s.flow ≡ φ → unseen s.entered s.left < m
      → (t : Sought) → t ≡ cond (has choices y && not (has s.entered y)) (try y s.entered s.left) s → t.found ≡ false
      → Ended rows inner last φ s.entered s.left t × (In (has choices) y → In (has t.entered) y)
  tried y h s f u t d e =
      cases (has choices y && not (has s.entered y))
      (λ q.
      let z : t ≡ try y s.entered s.left = rw q at d in
      let w = ends y s.entered s.left h (search bools) (search bools) u (rw z at e) in
      rw z (w.0, λ c. w.1))
      (λ q.
      let z : t ≡ s = rw q at d in
      rw z (record { flow = f; grown = grown_none rows inner last φ s.entered s.left }, λ c. cases (has s.entered y) (λ i. i) (λ i. cc)))

  tries_ended : (k y : ℕ) → y + k ≤ 8 → (s : Sought) → s.flow ≡ φ → unseen s.entered s.left < m → (tries try choices k y s).found ≡ false
      → Ended rows inner last φ s.entered s.left (tries try choices k y s)
      × ((i : ℕ) → y ≤ i → i < y + k → In (has choices) i → In (has (tries try choices k y s).entered) i)
  unfolding tries
  tries_ended zero y h s f u e = (record { flow = f; grown = grown_none rows inner last φ s.entered s.left }, λ i a b. absurd (omega arith))
  tries_ended (suc k) y h s f u e =
      let t = cond (has choices y && not (has s.entered y)) (try y s.entered s.left) s in
      let p = past t (tries try choices k (suc y) t) e in
      let w = tried y (omega arith) s f u t refl p.0 in
      let l = grown_unseen rows inner last φ s.entered s.left t.entered t.left w.0.grown in
      let ih = tries_ended k (suc y) (omega arith) t w.0.flow (omega arith) (rw p.1 at e) in
      rw p.1 (
        record { flow = ih.0.flow; grown = grown_on rows inner last φ s.entered s.left t.entered t.left _ _ w.0.grown ih.0.grown },
        λ i a b c. cases (eqb i y) (λ q. ih.0.grown.entered i (rw (eqb-true i y q) (w.1 (rw (eqb-true i y q) at c)))) (λ q. let z = eqb-false i y q in ih.1 i (omega arith) (omega arith) c),
      )

pub ahead_has : (rows : List ℕ) (inner : ℕ) (φ : Flow) (x y : ℕ)
    → has (ahead rows inner φ x) y ≡ (((has (get_or rows x 0) y && has inner y) && not (out_in φ x y)) || (has φ.used y && has (single x) y))
unfolding ahead out_in
ahead_has rows inner φ x y = simp (has_union, has_minus, has_meet)

-- a flow whose servers are all inner ones
module _ (rows : List ℕ) (inner last : ℕ) (φ : Flow) (passes : (x : ℕ) → In (has φ.used) x → In (has inner) x) where
  ahead_inside : (x y : ℕ) → In (has (ahead rows inner φ x)) y → In (has inner) y
  ahead_inside x y e =
      ⊎_elim
      (λ a. search bools)
      (λ a. passes y (search bools))
      (or_cases ((has (get_or rows x 0) y && has inner y) && not (out_in φ x y)) (has φ.used y && has (single x) y) (sym (ahead_has rows inner φ x y) ∙ e))

  -- the leaving side that an entry side leads to is reached for a reason
  behind_reason : (E x : ℕ) → In (has E) x → behind φ x < 8 → Reason φ E (behind φ x)
  unfolding behind feeder
  behind_reason E x e h =
      cases (has φ.used x)
      (λ q. rw q (⊎_elim (λ z. absurd (let k = rw q at h in omega arith)) (λ s. inr (x, e, s)) (first_in_found 8 0 (λ (p : ℕ). out_in φ p x))))
      (λ q. rw q (inl (e, q)))

  abbrev EnterEnded : ℕ → Type 0
  EnterEnded k =
      (E L x : ℕ) → x < 8 → In (has inner) x → Out (has E) x → unseen E L < k → (enter k rows inner last φ E L x).found ≡ false
      → EnteredAt rows inner last φ E L x (enter k rows inner last φ E L x)

  abbrev LeaveEnded : ℕ → Type 0
  LeaveEnded k =
      (E L x : ℕ) → x < 8 → Reason φ E x → Out (has L) x → unseen E L < k → (leave k rows inner last φ E L x).found ≡ false
      → LeftAt rows inner last φ E L x (leave k rows inner last φ E L x)

  enter_on : (k : ℕ) → LeaveEnded k → EnterEnded (suc k)
  unfolding enter lost
  enter_on k ih E L x h i o u e =
      let E' = union E (single x) in
      let c = count_start E x h o in
      let n = count_le 8 (has E') in
      let m = marked_same E x h in
      cases (ltb (behind φ x) 8 && not (has L (behind φ x)))
      (λ q.
      let l = changed_lost (step_in x (behind φ x)) (leave k rows inner last φ E' L (behind φ x)) (rw q at e) in
      let b = ltb-true (behind φ x) 8 (search bools) in
      let w = ih E' L (behind φ x) b (behind_reason E' x m b) (search bools) (omega arith) l.0 in
      rw (q, l.1) (record { flow = w.0.flow; grown = grown_enter rows inner last φ E L _ _ x h i (inr w.1) w.0.grown }, w.0.grown.entered x m))
      (λ q.
      let f : Followed φ L x = cases (ltb (behind φ x) 8) (λ a. inr (cases (has L (behind φ x)) (λ b. b) (λ b. cc))) (λ a. inl (ltb-false (behind φ x) 8 a)) in
      rw q (record { flow = refl; grown = grown_enter rows inner last φ E L E' L x h i f (grown_none rows inner last φ E' L) }, m))

  -- each try of the loop is such a search
  next : (k : ℕ) → EnterEnded k → (x y E L : ℕ) → y < 8 → In (has (ahead rows inner φ x)) y → Out (has E) y → unseen E L < k
      → (changed (step_out x y) (enter k rows inner last φ E L y)).found ≡ false
      → EnteredAt rows inner last φ E L y (changed (step_out x y) (enter k rows inner last φ E L y))
  next k ih x y E L h c o u e =
      lost_on (EnteredAt rows inner last φ E L y) (step_out x y) (enter k rows inner last φ E L y) (λ f. ih E L y h (ahead_inside x y c) o u f) e

  leave_on : (k : ℕ) → EnterEnded k → LeaveEnded (suc k)
  unfolding leave lost reached
  leave_on k ih E L x h r o u e =
      let L' = union L (single x) in
      let c = count_start L x h o in
      let n = count_le 8 (has L') in
      let m = marked_same L x h in
      let try : ℕ → ℕ → ℕ → Sought = λ y e l. changed (step_out x y) (enter k rows inner last φ e l y) in
      cases (has last x && not (has φ.ends x))
      (λ q. clash true refl (rw q at e))
      (λ q.
      let w = tries_ended rows inner last φ try (ahead rows inner φ x) k (next k ih x) 8 0 (omega arith) (lost φ E L') refl (omega arith) (rw q at e) in
      let p : Passed rows inner last φ (tries try (ahead rows inner φ x) 8 0 (lost φ E L')).entered x = record {
        below = h;
        quiet = q;
        onward = λ y k c. w.1 y (omega arith) (omega arith) c;
        reason = reason_more rows inner last φ E _ x w.0.grown.entered r;
      } in
      rw q (record { flow = w.0.flow; grown = grown_leave rows inner last φ E L _ _ x p w.0.grown }, w.0.grown.left x m))

  ended : (k : ℕ) → EnterEnded k × LeaveEnded k
  ended zero = (λ E L x h i o u e. absurd (omega arith), λ E L x h r o u e. absurd (omega arith))
  ended (suc k) = let ih = ended k in (enter_on k ih.1, leave_on k ih.0)

-- the marks E of entry sides and L of leaving sides have all sources, and all that the steps of the search lead to
pub record Closed (rows : List ℕ) (inner last sources : ℕ) (φ : Flow) (E L : ℕ) : Type 0 where
  pub begun : (x : ℕ) → x < 8 → In (has sources) x → In (has E) x
  pub inside : (x : ℕ) → In (has E) x → In (has inner) x
  pub followed : (x : ℕ) → In (has E) x → Followed φ L x
  pub passed : (x : ℕ) → In (has L) x → Passed rows inner last φ E x

module _ (rows : List ℕ) (inner last sources : ℕ) (φ : Flow) (passes : (x : ℕ) → In (has φ.used) x → In (has inner) x)
    (starts : (x : ℕ) → In (has sources) x → In (has inner) x) where
  first : (y E L : ℕ) → y < 8 → In (has sources) y → Out (has E) y → unseen E L < sides
      → (changed (with_start y) (enter sides rows inner last φ E L y)).found ≡ false
      → EnteredAt rows inner last φ E L y (changed (with_start y) (enter sides rows inner last φ E L y))
  first y E L h c o u e =
      lost_on (EnteredAt rows inner last φ E L y) (with_start y) (enter sides rows inner last φ E L y)
      (λ f. (ended rows inner last φ passes sides).0 E L y h (starts y c) o u f) e

  seek_ended : (seek rows inner last sources φ).found ≡ false
      → Ended rows inner last φ 0 0 (seek rows inner last sources φ)
      × ((x : ℕ) → x < 8 → In (has sources) x → In (has (seek rows inner last sources φ).entered) x)
  unfolding seek lost
  seek_ended e =
      let try : ℕ → ℕ → ℕ → Sought = λ x e l. changed (with_start x) (enter sides rows inner last φ e l x) in
      let w = tries_ended rows inner last φ try sources sides first 8 0 (omega arith) (lost φ 0 0) refl (omega arith) e in
      (w.0, λ x h s. w.1 x (omega arith) (omega arith) s)

  pub seek_same : (seek rows inner last sources φ).found ≡ false → (seek rows inner last sources φ).flow ≡ φ
  seek_same e = (seek_ended e).0.flow

  pub seek_closed : (seek rows inner last sources φ).found ≡ false
      → Closed rows inner last sources φ (seek rows inner last sources φ).entered (seek rows inner last sources φ).left
  seek_closed e =
      let w = seek_ended e in
      let g = w.0.grown in
      record {
        begun = w.1;
        inside = λ x m. g.inside x m (has_empty x);
        followed = λ x m. g.followed x m (has_empty x);
        passed = λ x m. g.passed x m (has_empty x);
      }
