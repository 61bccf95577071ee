-- The routes of a flow in which nothing is lacking. From a start each server that is passed and is no end hands on to one server, and to each server
-- that is passed a route goes from one server at most, and from none to a start. So two walks from starts that meet have gone the same way (`meeting`):
-- no server stands twice on a walk, walks from two starts have no server in common, and a walk comes to an end before the servers are used up (`leads`).
--     count_two      two members are two in the count
--     along          the walk from a start, place by place; Goes, it has not ended before place i
--     visited        each place of it is a server that is passed; handed, each place but the last hands on to the next
--     meeting        walks from starts that meet have gone the same way
--     leads          a walk from a start comes to an end; leads_short, at the seventh server at the latest, where there is one that no route passes
--     trail_long, trail_at, trail_end   the trail of a walk is its servers and r
-- Assumes nothing.
use mathlib.Core.Path.{◌≡◌, refl, sym, ap, ◌∙◌}
use mathlib.Core.Logic.{◌⊎◌, inl, inr, ⊎_elim}
use mathlib.Core.Bool.{true, false, ◌||◌}
use mathlib.Core.List.{List}
use Prim.Native.Nat.{ℕ, zero, suc, ◌+◌, ◌≤◌, ◌<◌}
use native.Mathlib.Omega.{arith}
use lib.Dec.{eqb}
use lib.ListN.{length, get_or}
use borrow.Author.Tests.{eqb-true, eqb-false, ne_eqb}
use Rattle.facts.proofs.Bools.{cases, clash, is_false}
use Rattle.sets.specs.Sets.{Set, In, Out, has, first_in, lowest, count}
use Rattle.sets.proofs.Members.{has_below}
use Rattle.sets.proofs.Counts.{count_le, count_none, count_some, count_zero, count_without, count_different, without}
use Rattle.sets.proofs.LowestMember.{first_in_found, first_in_least}
use Rattle.flow.specs.declared.Flow.{Flow}
use Rattle.flow.specs.Search.{out_in}
use Rattle.flow.specs.Routes.{trail}
use Rattle.flow.proofs.Kept.{Valid}
use Rattle.flow.proofs.Updates.{count_put, one_true, one_false, one_most, one_is}

pub count_two : (n : ℕ) (p : Set) (a b : ℕ) → a < n → b < n → In p a → In p b → (a ≡ b → ⊥) → 1 < count n p
count_two n p a b k l i j o =
    let c = count_without n a p k i in
    let e = ne_eqb b a (λ q. o (sym q)) in
    let d = count_some n (without a p) b l cc in
    omega arith

-- a test that has a member below 8 has the first one found
pub first_in_lem : (p : Set) → 0 < count 8 p → In p (first_in 8 0 p)
first_in_lem p h = ⊎_elim (λ e. absurd (let z = count_none 8 p (none e) in omega arith)) (λ e. e) (first_in_found 8 0 p)
  where
    none : first_in 8 0 p ≡ 0 + 8 → (i : ℕ) → i < 8 → Out p i
    none e i l = is_false (p i) (λ q. ⊎_elim (λ a. omega arith) (λ a. omega arith) (first_in_least 8 0 p i (omega arith) q))

-- the server that x hands on to
unfoldable pub onward : Flow → ℕ → ℕ
onward φ x = lowest (get_or φ.out x 0)

-- place i of the walk from s
unfoldable pub along : Flow → (i s : ℕ) → ℕ
along φ zero s = s
along φ (suc i) s = along φ i (onward φ s)

pub along_next : (φ : Flow) (i s : ℕ) → along φ (suc i) s ≡ onward φ (along φ i s)
unfolding along
along_next φ zero s = refl
along_next φ (suc i) s = along_next φ i (onward φ s)

-- no place before i is an end
abbrev pub Goes : Flow → (i s : ℕ) → Type 0
Goes φ i s = (j : ℕ) → j < i → Out (has φ.ends) (along φ j s)

-- place i is the first that is an end
abbrev pub Leads : Flow → (i s : ℕ) → Type 0
Leads φ i s = Goes φ i s × In (has φ.ends) (along φ i s)

abbrev pub Starts : Flow → ℕ → Type 0
Starts φ s = (s < 8) × In (has φ.start) s

module _ (rows : List ℕ) (inner last sources k : ℕ) (φ : Flow) (valid : Valid rows inner last sources k φ) (small : inner < 256) where
  -- one server

  start_used : (x : ℕ) → Starts φ x → In (has φ.used) x
  start_used x (l, s) = let a = valid.entry x l in let b = one_true (has φ.start x) s in one_is (has φ.used x) (omega arith)

  start_first : (x : ℕ) → Starts φ x → (p : ℕ) → p < 8 → out_in φ p x ≡ false
  start_first x (l, s) =
      let a = valid.entry x l in
      let b = one_true (has φ.start x) s in
      let c = one_most (has φ.used x) in
      count_zero 8 (λ (p : ℕ). out_in φ p x) (omega arith)

  into_used : (p x : ℕ) → p < 8 → x < 8 → out_in φ p x ≡ true → In (has φ.used) x
  into_used p x l m e =
      let a = valid.entry x m in
      let b = count_some 8 (λ (p : ℕ). out_in φ p x) p l e in
      one_is (has φ.used x) (omega arith)

  into_same : (p q x : ℕ) → p < 8 → q < 8 → x < 8 → out_in φ p x ≡ true → out_in φ q x ≡ true → p ≡ q
  into_same p q x l m h e f =
      cases (eqb p q) (λ t. eqb-true p q t)
      (λ t. absurd (let a = valid.entry x h in
      let b = one_most (has φ.used x) in
      let c = count_two 8 (λ (p : ℕ). out_in φ p x) p q l m e f (eqb-false p q t) in
      omega arith))

  hands_on : (x : ℕ) → x < 8 → In (has φ.used) x → Out (has φ.ends) x → out_in φ x (onward φ x) ≡ true
  unfolding out_in onward lowest
  hands_on x l u e =
      let a = valid.leaving x l in
      let b = one_true (has φ.used x) u in
      let c = one_false (has φ.ends x) e in
      first_in_lem (has (get_or φ.out x 0)) (omega arith)

  used_low : (x : ℕ) → In (has φ.used) x → x < 8
  used_low x u = has_below 8 inner x small (valid.passes x u)

  step_low : (x y : ℕ) → out_in φ x y ≡ true → y < 8
  step_low x y e = has_below 8 inner y small (valid.steps x y e).1

  -- walks

  module _ (s : ℕ) (st : Starts φ s) where
    pub visited : (i : ℕ) → Goes φ i s → In (has φ.used) (along φ i s)
    unfolding along
    visited zero g = start_used s st
    visited (suc i) g =
        let u = visited i (λ j l. g j (omega arith)) in
        let e = hands_on (along φ i s) (used_low (along φ i s) u) u (g i (omega arith)) in
        rw (along_next φ i s) (into_used (along φ i s) (onward φ (along φ i s)) (used_low (along φ i s) u) (step_low (along φ i s) (onward φ (along φ i s)) e) e)

    pub handed : (i : ℕ) → Goes φ (suc i) s → out_in φ (along φ i s) (along φ (suc i) s) ≡ true
    handed i g =
        let u = visited i (λ j l. g j (omega arith)) in
        rw (along_next φ i s) (hands_on (along φ i s) (used_low (along φ i s) u) u (g i (omega arith)))

    pub visited_low : (i : ℕ) → Goes φ i s → along φ i s < 8
    visited_low i g = used_low (along φ i s) (visited i g)

  -- a walk that has gone on comes to no start
  no_return : (s t j : ℕ) → Starts φ s → Starts φ t → Goes φ (suc j) t → s ≡ along φ (suc j) t → ⊥
  no_return s t j a b g e =
      let h = handed t b j g in
      clash (out_in φ (along φ j t) s) (rw e h) (start_first s a (along φ j t) (visited_low t b j (λ i l. g i (omega arith))))

  -- walks from starts that meet have gone the same way
  pub meeting : (i j s t : ℕ) → Starts φ s → Starts φ t → Goes φ i s → Goes φ j t → along φ i s ≡ along φ j t → (i ≡ j) × (s ≡ t)
  unfolding along
  meeting zero zero s t a b f g e = (refl, e)
  meeting zero (suc j) s t a b f g e = absurd (no_return s t j a b g e)
  meeting (suc i) zero s t a b f g e = absurd (no_return t s i b a f (sym e))
  meeting (suc i) (suc j) s t a b f g e =
      let f' : Goes φ i s = λ p l. f p (omega arith) in
      let g' : Goes φ j t = λ p l. g p (omega arith) in
      let p = handed s a i f in
      let q = handed t b j g in
      let z = into_same (along φ i s) (along φ j t) (along φ (suc j) t) (visited_low s a i f') (visited_low t b j g') (visited_low t b (suc j) g) (rw e at p) q in
      let ih = meeting i j s t a b f' g' z in
      (ap suc ih.0, ih.1)

  module _ (s : ℕ) (st : Starts φ s) where
    -- the places of a walk are different servers
    pub places_few : (i : ℕ) → Goes φ i s → i < count 8 (has φ.used)
    places_few i g =
        count_different 8 (suc i) (has φ.used) (λ (j x : ℕ). along φ j s ≡ x)
        (λ j l. (along φ j s, visited_low s st j (upto j l), visited s st j (upto j l), refl))
        (λ j m x l h a b. (meeting j m s s st st (upto j l) (upto m h) (a ∙ sym b)).0)
      where
        upto : (j : ℕ) → j < suc i → Goes φ j s
        upto j l p h = g p (omega arith)

    -- a walk comes to an end among its first m places, or goes on
    ends_within : (m : ℕ) → ((i : ℕ) × Leads φ i s) ⊎ Goes φ m s
    ends_within zero = inr (λ j l. absurd (omega arith))
    ends_within (suc m) = ⊎_elim (λ w. inl w) (λ g. next g) (ends_within m)
      where
        next : Goes φ m s → ((i : ℕ) × Leads φ i s) ⊎ Goes φ (suc m) s
        next g =
            cases (has φ.ends (along φ m s))
            (λ e. inl (m, (g, e)))
            (λ e. inr (λ j l. cases (eqb j m) (λ t. rw (eqb-true j m t) e) (λ t. let o = eqb-false j m t in g j (omega arith))))

    pub leads : (i : ℕ) × Leads φ i s
    leads = ⊎_elim (λ w. w) (λ g. absurd (let a = places_few 8 g in let b = count_le 8 (has φ.used) in omega arith)) (ends_within 8)

    -- with one server that no route passes, there are at most seven places
    pub leads_short : (r i : ℕ) → r < 8 → Out (has inner) r → Goes φ i s → i < 7
    leads_short r i l o g =
        let a = places_few i g in
        let unused = is_false (has φ.used r) (λ u. clash (has inner r) (valid.passes r u) o) in
        let b = count_put 8 r (has φ.used) (λ (x : ℕ). eqb r x || has φ.used x) l unused (λ x h. refl) in
        let c = count_le 8 (λ (x : ℕ). eqb r x || has φ.used x) in
        omega arith

-- the trail of a walk

module _ (φ : Flow) (r : ℕ) where
  pub trail_long : (i k s : ℕ) → i < k → Leads φ i s → length (trail φ r k s) ≡ suc (suc i)
  unfolding trail along onward
  trail_long i zero s l w = absurd (omega arith)
  trail_long zero (suc k) s l w = rw w.1 refl
  trail_long (suc i) (suc k) s l w =
      let e = w.0 0 (omega arith) in
      rw e (ap suc (trail_long i k (onward φ s) (omega arith) (λ j h. w.0 (suc j) (omega arith), w.1)))

  pub trail_at : (i k s : ℕ) → i < k → Leads φ i s → (j : ℕ) → j ≤ i → get_or (trail φ r k s) j 0 ≡ along φ j s
  unfolding trail along onward
  trail_at i zero s l w j h = absurd (omega arith)
  trail_at i (suc k) s l w zero h = refl
  trail_at zero (suc k) s l w (suc j) h = absurd (omega arith)
  trail_at (suc i) (suc k) s l w (suc j) h =
      let e = w.0 0 (omega arith) in
      rw e (trail_at i k (onward φ s) (omega arith) (λ p q. w.0 (suc p) (omega arith), w.1) j (omega arith))

  pub trail_end : (i k s : ℕ) → i < k → Leads φ i s → get_or (trail φ r k s) (suc i) 0 ≡ r
  unfolding trail along onward
  trail_end i zero s l w = absurd (omega arith)
  trail_end zero (suc k) s l w = rw w.1 refl
  trail_end (suc i) (suc k) s l w =
      let e = w.0 0 (omega arith) in
      rw e (trail_end i k (onward φ s) (omega arith) (λ p q. w.0 (suc p) (omega arith), w.1))
