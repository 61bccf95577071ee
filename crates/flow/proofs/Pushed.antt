-- A search that finds something has a flow with one route more. A change on the way back moves the unit that is lacking from one side to the side
-- before it: end_moves, use_moves, unuse_moves, step_moves, unstep_moves, and start_moves, after which none is lacking. That a change finds the
-- flow as the search saw it is by the marks: what is marked at a call is not changed by what the call finds (`Push`).
--     tries_holds     what holds at the start of a loop and after each try holds at its end; changed_holds of one step more
--     search_pushes   by the allowance: both searches, from an entry side and from a leaving side, keep `Push`
--     seek_valid      the flow that is found has one route more
--     flow_valid      the flow with k routes, where one is found
--     flow_lost       where none is: the search that found no more, from a flow with fewer
-- Assumes nothing.
use mathlib.Core.Path.{◌≡◌, refl, sym, ◌∙◌}
use mathlib.Core.Logic.{◌⊎◌, ⊎_elim}
use mathlib.Core.Bool.{true, false, cond, not, ◌&&◌}
use mathlib.Core.List.{List}
use Prim.Native.Nat.{ℕ, zero, suc, ◌+◌, ◌<◌, ◌-◌}
use native.Mathlib.Omega.{arith}
use lib.Dec.{eqb, ltb}
use lib.ListN.{get_or, replicate}
use borrow.Author.Tests.{eqb-true, ne_eqb, ltb-true}
use Rattle.facts.proofs.Bools.{cases, by_cond, clash, and_left, and_right, not_true, is_false, or_cases, bools}
use Rattle.sets.specs.Sets.{Set, In, Out, has, single, union, meet, minus, size}
use Rattle.sets.proofs.Members.{has_union, has_meet, has_minus, has_single, has_empty, has_below, minus_small, meet_comm}
use Rattle.sets.proofs.Counts.{count_none}
use Rattle.sets.proofs.LowestMember.{first_in_found}
use Rattle.flow.specs.declared.Flow.{Flow}
use Rattle.flow.specs.Search.{Sought, straight, out_in, with_start, with_end, with_use, without_use, with_step, without_step, lost, reached, changed, feeder, behind, step_in, step_out, tries, ahead, enter, leave, sides, seek, seek_all, lowest_of, linked_to, flow_by, flow_to}
use Rattle.flow.proofs.Membership.{has_both, shared_small}
use Rattle.flow.proofs.Lowest.{lowest_of_inside, lowest_of_few}
use Rattle.flow.proofs.Kept.{nowhere, Kept, Valid}
use Rattle.flow.proofs.Updates.{eqb_self, eqb_swap, one_nowhere, one_true, one_most, one_is, has_put, has_drop, one_put, one_drop, count_start, step_long, unstep_long, step_put, step_drop, into_put, from_put, into_drop, from_drop}

module _ (rows : List ℕ) (inner last sources k : ℕ) where
  -- one lacking at the entry side of x
  abbrev AtEntry : ℕ → Flow → Type 0
  AtEntry x φ = Kept rows inner last sources k (eqb x) nowhere φ

  -- one lacking at the leaving side of x
  abbrev AtLeaving : ℕ → Flow → Type 0
  AtLeaving x φ = Kept rows inner last sources k nowhere (eqb x) φ

  module _ (x : ℕ) (low : x < 8) (φ : Flow) where
    end_moves : In (has last) x → Out (has φ.ends) x → Valid rows inner last sources k φ → AtLeaving x (with_end x φ)
    unfolding with_end out_in
    end_moves i o h = record {
      long = h.long;
      passes = h.passes;
      starts = h.starts;
      ending = λ y e. let p = has_put φ.ends x y low in cases (eqb x y) (λ t. let z = eqb-true x y t in rw (← z) i) (λ t. h.ending y cc);
      steps = h.steps;
      entry = h.entry;
      leaving = λ y l. let a = h.leaving y l in let b = one_put φ.ends x y low o in let c = one_nowhere y in omega arith;
      value = h.value;
    }

    use_moves : In (has inner) x → Out (has φ.used) x → AtLeaving x φ → AtEntry x (with_use x φ)
    unfolding with_use out_in
    use_moves i o h = record {
      long = h.long;
      passes = λ y e. let p = has_put φ.used x y low in cases (eqb x y) (λ t. let z = eqb-true x y t in rw (← z) i) (λ t. h.passes y cc);
      starts = h.starts;
      ending = h.ending;
      steps = h.steps;
      entry = λ y l. let a = h.entry y l in let b = one_put φ.used x y low o in let c = one_nowhere y in omega arith;
      leaving = λ y l. let a = h.leaving y l in let b = one_put φ.used x y low o in let c = one_nowhere y in omega arith;
      value = h.value;
    }

    entry_used : AtEntry x φ → In (has φ.used) x
    entry_used h =
        let a = h.entry x low in
        let b = one_true (eqb x x) (eqb_self x) in
        one_is (has φ.used x) (omega arith)

    entry_fresh : AtEntry x φ → Out (has φ.start) x
    entry_fresh h =
        let a = h.entry x low in
        let b = one_true (eqb x x) (eqb_self x) in
        let c = one_most (has φ.used x) in
        is_false (has φ.start x) (λ e. let d = one_true (has φ.start x) e in omega arith)

    unuse_moves : AtEntry x φ → AtLeaving x (without_use x φ)
    unfolding without_use out_in
    unuse_moves h =
        let o = entry_used h in
        record {
          long = h.long;
          passes = λ y e. let p = has_drop φ.used x y low in h.passes y (and_right (not (eqb x y)) (has φ.used y) (sym p ∙ e));
          starts = h.starts;
          ending = h.ending;
          steps = h.steps;
          entry = λ y l. let a = h.entry y l in let b = one_drop φ.used x y low o in let c = one_nowhere y in omega arith;
          leaving = λ y l. let a = h.leaving y l in let b = one_drop φ.used x y low o in let c = one_nowhere y in omega arith;
          value = h.value;
        }

    start_moves : In (has sources) x → AtEntry x φ → Valid rows inner last sources (suc k) (with_start x φ)
    unfolding with_start out_in
    start_moves i h =
        let o = entry_fresh h in
        record {
          long = h.long;
          passes = h.passes;
          starts = λ y e. let p = has_put φ.start x y low in cases (eqb x y) (λ t. let z = eqb-true x y t in rw (← z) i) (λ t. h.starts y cc);
          ending = h.ending;
          steps = h.steps;
          entry = λ y l. let a = h.entry y l in let b = one_put φ.start x y low o in let c = one_nowhere y in omega arith;
          leaving = h.leaving;
          value = let a = count_start φ.start x low o in let b = h.value in omega arith;
        }

    module _ (y : ℕ) (small : y < 8) where
      step_moves : In (has (get_or rows x 0)) y → In (has inner) y → out_in φ x y ≡ false → AtEntry y φ → AtLeaving x (with_step x y φ)
      unfolding with_step
      step_moves r i o h = record {
        long = step_long x y φ h.long;
        passes = h.passes;
        starts = h.starts;
        ending = h.ending;
        steps = λ p z e.
            let a = step_put x y low small φ h.long p z in
            cases (eqb x p)
            (λ t. cases (eqb y z) (λ u. let v = eqb-true x p t in let w = eqb-true y z u in rw (← v, ← w) (r, i)) (λ u. h.steps p z cc))
            (λ t. h.steps p z cc);
        entry = λ z l. let a = h.entry z l in let b = into_put x y low small φ h.long o z in let c = one_nowhere z in omega arith;
        leaving = λ p l. let a = h.leaving p l in let b = from_put x y low small φ h.long o p in let c = one_nowhere p in omega arith;
        value = h.value;
      }

      unstep_moves : out_in φ x y ≡ true → AtLeaving x φ → AtEntry y (without_step x y φ)
      unfolding without_step
      unstep_moves o h = record {
        long = unstep_long x y φ h.long;
        passes = h.passes;
        starts = h.starts;
        ending = h.ending;
        steps = λ p z e. let a = step_drop x y low small φ h.long p z in h.steps p z (and_right (not (eqb x p && eqb y z)) (out_in φ p z) (sym a ∙ e));
        entry = λ z l. let a = h.entry z l in let b = into_drop x y low small φ h.long o z in let c = one_nowhere z in omega arith;
        leaving = λ p l. let a = h.leaving p l in let b = from_drop x y low small φ h.long o p in let c = one_nowhere p in omega arith;
        value = h.value;
      }

-- searches

-- what holds at the start of a loop and after each try holds at its end
pub tries_holds : (try : ℕ → ℕ → ℕ → Sought) (choices : ℕ) (Q : Sought → Type 0)
    → ((y : ℕ) (s : Sought) → Q s → In (has choices) y → Out (has s.entered) y → Q (try y s.entered s.left))
    → (k y : ℕ) (s : Sought) → Q s → Q (tries try choices k y s)
unfolding tries
tries_holds try choices Q h zero y s q = q
tries_holds try choices Q h (suc k) y s q =
    let t = cond (has choices y && not (has s.entered y)) (try y s.entered s.left) s in
    let c : Q t = by_cond Q (has choices y && not (has s.entered y)) (try y s.entered s.left) s (λ e. h y s q (search bools) (search bools)) (λ e. q) in
    by_cond Q t.found t (tries try choices k (suc y) t) (λ e. c) (λ e. tries_holds try choices Q h k (suc y) t c)

pub changed_holds : (g : Flow → Flow) (t : Sought) (Q : Sought → Type 0) → (t.found ≡ true → Q (reached (g t.flow) t.entered t.left))
    → (t.found ≡ false → Q t) → Q (changed g t)
unfolding changed
changed_holds g t Q f h = by_cond Q t.found (reached (g t.flow) t.entered t.left) t f h

-- a server outside a set is none of its members
other : (s x z : ℕ) → Out (has s) x → In (has s) z → eqb x z ≡ false
other s x z o i = ne_eqb x z (λ e. clash (has s z) i (rw e at o))

-- what is in a set is in it with one server more
put_in : (s x z : ℕ) → In (has s) z → In (has (union s (single x))) z
put_in s x z i = let u = has_union s (single x) z in cc

put_self : (s x : ℕ) → x < 8 → In (has (union s (single x))) x
put_self s x k = let u = has_put s x x k in let e = eqb_self x in cc

module _ (rows : List ℕ) (inner last sources k : ℕ) (φ : Flow) (valid : Valid rows inner last sources k φ) (small : inner < 256) (alone : (x : ℕ) → Out (has (get_or rows x 0)) x) where
  -- what a search from one side answers, with the marks E and L: they only grow; the flow is changed at no server of E on the entry side and at no
  -- server of L on the leaving side; and where something is found one is lacking at that side
  record Push (E L : ℕ) (lackIn lackOut : Set) (s : Sought) : Type 0 where
    entered : (x : ℕ) → In (has E) x → In (has s.entered) x
    left : (x : ℕ) → In (has L) x → In (has s.left) x
    used : (x : ℕ) → In (has E) x → has s.flow.used x ≡ has φ.used x
    into : (p x : ℕ) → In (has E) x → out_in s.flow p x ≡ out_in φ p x
    from : (p x : ℕ) → In (has L) p → out_in s.flow p x ≡ out_in φ p x
    kept : s.found ≡ true → Kept rows inner last sources k lackIn lackOut s.flow

  -- nothing found, and the marks grown
  push_lost : (E L e l : ℕ) (a b : Set) → ((x : ℕ) → In (has E) x → In (has e) x) → ((x : ℕ) → In (has L) x → In (has l) x) → Push E L a b (lost φ e l)
  unfolding lost
  push_lost E L e l a b f g = record {
    entered = f;
    left = g;
    used = λ x i. refl;
    into = λ p x i. refl;
    from = λ p x i. refl;
    kept = λ t. clash false t refl;
  }

  -- nothing found by a search with more marks
  push_less : (E L e l : ℕ) (a b c d : Set) (s : Sought) → ((x : ℕ) → In (has E) x → In (has e) x) → ((x : ℕ) → In (has L) x → In (has l) x)
      → s.found ≡ false → Push e l a b s → Push E L c d s
  push_less E L e l a b c d s f g o h = record {
    entered = λ x i. h.entered x (f x i);
    left = λ x i. h.left x (g x i);
    used = λ x i. h.used x (f x i);
    into = λ p x i. h.into p x (f x i);
    from = λ p x i. h.from p x (g p i);
    kept = λ t. clash s.found t o;
  }

  abbrev Entering : ℕ → Type 0
  Entering j = (E L x : ℕ) → In (has inner) x → Out (has E) x → Push E L (eqb x) nowhere (enter j rows inner last φ E L x)

  abbrev Leaving : ℕ → Type 0
  Leaving j = (E L x : ℕ) → x < 8 → Out (has L) x → Push E L nowhere (eqb x) (leave j rows inner last φ E L x)

  -- the server behind the entry side of x is x itself, through which no route goes, or another from which one goes to x
  fed : (x : ℕ) → feeder φ x < 8 → out_in φ (feeder φ x) x ≡ true
  unfolding feeder
  fed x l = ⊎_elim (λ e. absurd (omega arith)) (λ e. e) (first_in_found 8 0 (λ (p : ℕ). out_in φ p x))

  behind_self : (x : ℕ) → behind φ x < 8 → eqb (behind φ x) x ≡ true → Out (has φ.used) x
  unfolding behind
  behind_self x l e =
      is_false (has φ.used x) λ u.
      let q : feeder φ x ≡ x = eqb-true (feeder φ x) x (rw u at e) in
      let o : out_in φ x x ≡ true = rw q at (fed x (rw u at l)) in
      clash (has (get_or rows x 0) x) (valid.steps x x o).0 (alone x)

  behind_other : (x : ℕ) → behind φ x < 8 → eqb (behind φ x) x ≡ false → out_in φ (behind φ x) x ≡ true
  unfolding behind
  behind_other x l e =
      cases (has φ.used x)
      (λ u. rw u (fed x (rw u at l)))
      (λ u. clash (eqb x x) (eqb_self x) (rw u at e))

  module _ (E L x : ℕ) (i : In (has inner) x) (fresh : Out (has E) x) where
    abbrev mark : ℕ
    mark = union E (single x)

    abbrev low : x < 8
    low = has_below 8 inner x small i

    module _ (t : Sought) (h : Push mark L nowhere (eqb (behind φ x)) t) (below : behind φ x < 8) (clear : Out (has L) (behind φ x)) (f : t.found ≡ true) where
      push_use : eqb (behind φ x) x ≡ true → Push E L (eqb x) nowhere (reached (with_use x t.flow) t.entered t.left)
      unfolding reached with_use out_in
      push_use e =
          let q = eqb-true (behind φ x) x e in
          let o = h.used x (put_self E x low) ∙ behind_self x below e in
          record {
            entered = λ z j. h.entered z (put_in E x z j);
            left = h.left;
            used = λ z j. let a = has_put t.flow.used x z low in let b = other E x z fresh j in let c = h.used z (put_in E x z j) in cc;
            into = λ p z j. h.into p z (put_in E x z j);
            from = h.from;
            kept = λ y. use_moves _ _ _ _ _ x low t.flow i o (rw q at (h.kept f));
          }

      push_unstep : eqb (behind φ x) x ≡ false → Push E L (eqb x) nowhere (reached (without_step (behind φ x) x t.flow) t.entered t.left)
      unfolding reached without_step
      push_unstep e =
          let n = h.kept f in
          let o = h.into (behind φ x) x (put_self E x low) ∙ behind_other x below e in
          let d = step_drop (behind φ x) x below low t.flow n.long in
          record {
            entered = λ z j. h.entered z (put_in E x z j);
            left = h.left;
            used = λ z j. h.used z (put_in E x z j);
            into = λ p z j. let a = d p z in let b = other E x z fresh j in let c = h.into p z (put_in E x z j) in cases (eqb (behind φ x) p) (λ u. cc) (λ u. cc);
            from = λ p z j. let a = d p z in let b = other L (behind φ x) p clear j in let c = h.from p z j in cc;
            kept = λ y. unstep_moves _ _ _ _ _ (behind φ x) below t.flow x low o n;
          }

      push_in : Push E L (eqb x) nowhere (reached (step_in x (behind φ x) t.flow) t.entered t.left)
      unfolding step_in
      push_in =
          by_cond (λ (ψ : Flow). Push E L (eqb x) nowhere (reached ψ t.entered t.left)) (eqb (behind φ x) x) (with_use x t.flow) (without_step (behind φ x) x t.flow)
          push_use push_unstep

  enter_none : Entering 0
  unfolding enter
  enter_none E L x i o = push_lost E L E L (eqb x) nowhere (λ z j. j) (λ z j. j)

  enter_more : (j : ℕ) → Leaving j → Entering (suc j)
  unfolding enter
  enter_more j ih E L x i o =
      let q = behind φ x in
      let E' = union E (single x) in
      let t = leave j rows inner last φ E' L q in
      by_cond (Push E L (eqb x) nowhere) (ltb q 8 && not (has L q)) (changed (step_in x q) t) (lost φ E' L)
      (λ e. let below : q < 8 = ltb-true q 8 (search bools) in
      let clear : has L q ≡ false = search bools in
      let h = ih E' L q below clear in
      changed_holds (step_in x q) t (Push E L (eqb x) nowhere) (push_in E L x i o t h below clear)
      (λ n. push_less E L E' L nowhere (eqb q) (eqb x) nowhere t (put_in E x) (λ z m. m) n h))
      (λ e. push_lost E L E' L (eqb x) nowhere (put_in E x) (λ z m. m))

  -- the servers ahead of the leaving side of x are inner ones; those other than x have a link from x, and no route goes to them from x
  ahead_cases : (x y : ℕ) → In (has (ahead rows inner φ x)) y
      → (In (has (minus (meet (get_or rows x 0) inner) (get_or φ.out x 0))) y) ⊎ (In (has (meet φ.used (single x))) y)
  unfolding ahead
  ahead_cases x y e = or_cases _ _ (sym (has_union (minus (meet (get_or rows x 0) inner) (get_or φ.out x 0)) (meet φ.used (single x)) y) ∙ e)

  next_linked : (x y : ℕ) → In (has (minus (meet (get_or rows x 0) inner) (get_or φ.out x 0))) y
      → In (has (get_or rows x 0)) y × In (has inner) y × (out_in φ x y ≡ false)
  unfolding out_in
  next_linked x y e =
      let a = sym (has_minus (meet (get_or rows x 0) inner) (get_or φ.out x 0) y) ∙ e in
      let b = sym (has_meet (get_or rows x 0) inner y) ∙ and_left _ _ a in
      (and_left _ _ b, and_right (has (get_or rows x 0) y) _ b, not_true _ (and_right (has (meet (get_or rows x 0) inner) y) _ a))

  next_self : (x y : ℕ) → In (has (meet φ.used (single x))) y → In (has φ.used) y × (eqb x y ≡ true)
  next_self x y e =
      let a = sym (has_meet φ.used (single x) y) ∙ e in
      let b = sym (has_single x y) ∙ and_right (has φ.used y) _ a in
      (and_left _ _ a, and_right (ltb x 8) _ b)

  ahead_inner : (x y : ℕ) → In (has (ahead rows inner φ x)) y → In (has inner) y
  ahead_inner x y e = ⊎_elim (λ a. (next_linked x y a).1) (λ a. valid.passes y (next_self x y a).0) (ahead_cases x y e)

  ahead_other : (x y : ℕ) → In (has (ahead rows inner φ x)) y → eqb y x ≡ false → In (has (get_or rows x 0)) y × In (has inner) y × (out_in φ x y ≡ false)
  ahead_other x y e o = ⊎_elim (next_linked x y) (λ a. clash (eqb x y) (next_self x y a).1 (eqb_swap x y ∙ o)) (ahead_cases x y e)

  module _ (E L x : ℕ) (low : x < 8) (fresh : Out (has L) x) where
    push_end : In (has last) x → Out (has φ.ends) x → Push E L nowhere (eqb x) (reached (with_end x φ) E (union L (single x)))
    unfolding reached with_end out_in
    push_end i o = record {
      entered = λ z j. j;
      left = put_in L x;
      used = λ z j. refl;
      into = λ p z j. refl;
      from = λ p z j. refl;
      kept = λ y. end_moves _ _ _ _ _ x low φ i o valid;
    }

    -- after each try x is marked
    abbrev Tried : Sought → Type 0
    Tried s = Push E L nowhere (eqb x) s × In (has s.left) x

    module _ (s : Sought) (g : Tried s) (y : ℕ) (c : In (has (ahead rows inner φ x)) y) (new : Out (has s.entered) y) (t : Sought) (h : Push s.entered s.left (eqb y) nowhere t) where
      -- y was not entered at the call
      unseen : (z : ℕ) → In (has E) z → eqb y z ≡ false
      unseen z j = other s.entered y z new (g.0.entered z j)

      module _ (f : t.found ≡ true) where
        push_unuse : eqb y x ≡ true → Push E L nowhere (eqb x) (reached (without_use x t.flow) t.entered t.left)
        unfolding reached without_use out_in
        push_unuse e =
            let q = eqb-true y x e in
            record {
              entered = λ z j. h.entered z (g.0.entered z j);
              left = λ z j. h.left z (g.0.left z j);
              used = λ z j. let a = has_drop t.flow.used x z low in let b : eqb x z ≡ false = rw (← q) (unseen z j) in let d = h.used z (g.0.entered z j) in cc;
              into = λ p z j. h.into p z (g.0.entered z j);
              from = λ p z j. h.from p z (g.0.left p j);
              kept = λ u. unuse_moves _ _ _ _ _ x low t.flow (rw q at (h.kept f));
            }

        push_step : eqb y x ≡ false → Push E L nowhere (eqb x) (reached (with_step x y t.flow) t.entered t.left)
        unfolding reached with_step
        push_step e =
            let n = h.kept f in
            let (r, i, o) = ahead_other x y c e in
            let below = has_below 8 inner y small i in
            let d = step_put x y low below t.flow n.long in
            record {
              entered = λ z j. h.entered z (g.0.entered z j);
              left = λ z j. h.left z (g.0.left z j);
              used = λ z j. h.used z (g.0.entered z j);
              into = λ p z j. let a = d p z in let b = unseen z j in let v = h.into p z (g.0.entered z j) in cases (eqb x p) (λ u. cc) (λ u. cc);
              from = λ p z j. let a = d p z in let b = other L x p fresh j in let v = h.from p z (g.0.left p j) in cc;
              kept = λ u. step_moves _ _ _ _ _ x low t.flow y below r i (h.from x y g.1 ∙ o) n;
            }

        push_out : Push E L nowhere (eqb x) (reached (step_out x y t.flow) t.entered t.left)
        unfolding step_out
        push_out =
            by_cond (λ (ψ : Flow). Push E L nowhere (eqb x) (reached ψ t.entered t.left)) (eqb y x) (without_use x t.flow) (with_step x y t.flow)
            push_unuse push_step

      pushed_out : Tried (changed (step_out x y) t)
      unfolding reached
      pushed_out =
          changed_holds (step_out x y) t Tried (λ f. (push_out f, h.left x g.1))
          (λ n. (push_less E L s.entered s.left (eqb y) nowhere nowhere (eqb x) t g.0.entered g.0.left n h, h.left x g.1))

  leave_none : Leaving 0
  unfolding leave
  leave_none E L x l o = push_lost E L E L nowhere (eqb x) (λ z j. j) (λ z j. j)

  leave_more : (j : ℕ) → Entering j → Leaving (suc j)
  unfolding leave lost
  leave_more j ih E L x l o =
      let try : ℕ → ℕ → ℕ → Sought = λ y e l. changed (step_out x y) (enter j rows inner last φ e l y) in
      let first = lost φ E (union L (single x)) in
      let choices = ahead rows inner φ x in
      by_cond (Push E L nowhere (eqb x)) (has last x && not (has φ.ends x)) (reached (with_end x φ) E (union L (single x))) (tries try choices 8 0 first)
      (λ e. push_end E L x l o (search bools) (search bools))
      (λ e. (tries_holds try choices (Tried E L x l o) (λ y s g c new. pushed_out E L x l o s g y c new (enter j rows inner last φ s.entered s.left y) (ih s.entered s.left y (ahead_inner x y c) new)) 8 0 first
      (push_lost E L E (union L (single x)) nowhere (eqb x) (λ z m. m) (put_in L x), put_self L x l)).0)

  search_pushes : (j : ℕ) → Entering j × Leaving j
  search_pushes zero = (enter_none, leave_none)
  search_pushes (suc j) = let ih = search_pushes j in (enter_more j ih.1, leave_more j ih.0)

  -- a search from the sources that finds something has one route more
  seek_valid : ((x : ℕ) → In (has sources) x → In (has inner) x) → (seek rows inner last sources φ).found ≡ true
      → Valid rows inner last sources (suc k) (seek rows inner last sources φ).flow
  unfolding seek lost reached
  seek_valid within =
      let Q : Sought → Type 0 = λ s. s.found ≡ true → Valid rows inner last sources (suc k) s.flow in
      let try : ℕ → ℕ → ℕ → Sought = λ x e l. changed (with_start x) (enter sides rows inner last φ e l x) in
      tries_holds try sources Q
      (λ x s q c new. let i = within x c in
      let t = enter sides rows inner last φ s.entered s.left x in
      let h = (search_pushes sides).0 s.entered s.left x i new in
      changed_holds (with_start x) t Q (λ f y. start_moves _ _ _ _ _ x (has_below 8 inner x small i) t.flow c (h.kept f)) (λ n y. clash t.found y n))
      8 0 (lost φ 0 0) (λ y. clash false y refl)

-- one search after the other
module _ (rows : List ℕ) (inner last sources : ℕ) (small : inner < 256) (alone : (x : ℕ) → Out (has (get_or rows x 0)) x) (within : (x : ℕ) → In (has sources) x → In (has inner) x) where
  -- what holds after the searches for a flow of value m: it has this value; or the last of them found nothing, from a flow of less value
  abbrev Outcome : ℕ → Sought → Type 0
  Outcome m s =
      (s.found ≡ true → Valid rows inner last sources m s.flow)
      × (s.found ≡ false → (i : ℕ) × (i < m) × (φ : Flow) × Valid rows inner last sources i φ × (seek rows inner last sources φ ≡ s))

  outcome_found : (m j : ℕ) (s : Sought) → m ≡ j → s.found ≡ true → Valid rows inner last sources j s.flow → Outcome m s
  outcome_found m j s e f v = (λ t. rw e v, λ t. clash s.found f t)

  outcome_lost : (m j : ℕ) (φ : Flow) → j < m → Valid rows inner last sources j φ → (seek rows inner last sources φ).found ≡ false
      → Outcome m (seek rows inner last sources φ)
  outcome_lost m j φ l v o = (λ t. clash (seek rows inner last sources φ).found t o, λ t. (j, l, φ, v, refl))

  all_outcome : (k m j : ℕ) (s : Sought) → m ≡ j + k → s.found ≡ true → Valid rows inner last sources j s.flow → Outcome m (seek_all rows inner last sources k s)
  unfolding seek_all
  all_outcome zero m j s e f v = outcome_found m j s (omega arith) f v
  all_outcome (suc k) m j s e f v =
      let t = seek rows inner last sources s.flow in
      by_cond (Outcome m) t.found (seek_all rows inner last sources k t) t
      (λ g. all_outcome k m (suc j) t (omega arith) g (seek_valid rows inner last sources j s.flow v small alone within g))
      (λ g. outcome_lost m j s.flow (omega arith) v g)

-- no row of an empty flow has a server
no_row : (n x : ℕ) → get_or {A = ℕ} (replicate n 0) x 0 ≡ 0
no_row zero x = refl
no_row (suc n) zero = refl
no_row (suc n) (suc x) = no_row n x

-- straight routes

no_step : (s x y : ℕ) → out_in (straight s) x y ≡ false
unfolding out_in straight
no_step s x y = rw (no_row 8 x) (has_empty y)

pub straight_valid : (rows : List ℕ) (inner last sources s : ℕ) → ((x : ℕ) → In (has s) x → In (has inner) x × In (has last) x × In (has sources) x)
    → Valid rows inner last sources (size s) (straight s)
unfolding straight size
straight_valid rows inner last sources s h =
    record {
      long = refl;
      passes = λ x e. (h x e).0;
      starts = λ x e. (h x e).2;
      ending = λ x e. (h x e).1;
      steps = λ x y e. clash (out_in (straight s) x y) e (no_step s x y);
      entry = λ x l. let a = one_nowhere x in let c = count_none 8 (λ (p : ℕ). out_in (straight s) p x) (λ p h. no_step s p x) in omega arith;
      leaving = λ x l. let a = one_nowhere x in let c = count_none 8 (out_in (straight s) x) (λ p h. no_step s x p) in omega arith;
      value = refl;
    }

-- the flow with k routes to r in W
module _ (rows : List ℕ) (W sources r k : ℕ) (small : W < 256) (alone : (x : ℕ) → Out (has (get_or rows x 0)) x) where
  abbrev inner : ℕ
  inner = minus W (single r)

  inner_small : inner < 256
  inner_small = minus_small 8 W (single r) small

  sources_inner : (x : ℕ) → In (has (meet sources inner)) x → In (has inner) x
  sources_inner x e = and_right (has sources x) _ (sym (has_meet sources inner x) ∙ e)

  -- the sources that are near
  abbrev nearest : ℕ
  nearest = lowest_of k (meet (meet sources inner) (linked_to rows W r))

  nearest_inside : (x : ℕ) → In (has nearest) x → In (has inner) x × In (has (linked_to rows W r)) x × In (has (meet sources inner)) x
  nearest_inside x e =
      let (a, b) = has_both (meet sources inner) (linked_to rows W r) x (lowest_of_inside k (meet (meet sources inner) (linked_to rows W r)) x (shared_small 8 (meet sources inner) (linked_to rows W r) (rw (meet_comm sources inner) (shared_small 8 inner sources inner_small))) e) in
      (sources_inner x a, b, a)

  flow_outcome : Outcome rows inner (linked_to rows W r) (meet sources inner) inner_small alone sources_inner k (flow_to rows W sources r k)
  unfolding flow_by reached
  flow_outcome =
      let l = lowest_of_few k (meet (meet sources inner) (linked_to rows W r)) in
      all_outcome rows inner (linked_to rows W r) (meet sources inner) inner_small alone sources_inner (k - size nearest) k (size nearest) (reached (straight nearest) 0 0) (omega arith) refl
      (straight_valid rows inner (linked_to rows W r) (meet sources inner) nearest nearest_inside)

  pub flow_valid : (flow_to rows W sources r k).found ≡ true
      → Valid rows (minus W (single r)) (linked_to rows W r) (meet sources (minus W (single r))) k (flow_to rows W sources r k).flow
  flow_valid f = flow_outcome.0 f

  pub flow_lost : (flow_to rows W sources r k).found ≡ false
      → (j : ℕ) × (j < k) × (φ : Flow) × Valid rows (minus W (single r)) (linked_to rows W r) (meet sources (minus W (single r))) j φ
      × (seek rows (minus W (single r)) (linked_to rows W r) (meet sources (minus W (single r))) φ ≡ flow_to rows W sources r k)
  flow_lost f = flow_outcome.1 f
