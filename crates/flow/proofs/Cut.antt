-- Marks that are closed under the steps of the search cut a valid flow: the servers whose entry side is seen and whose leaving side is not are as many
-- as the routes of the flow. At each side as many units come in as go out; summed over the sides that are seen, every step of the flow is either
-- counted on both ends or on none (`crossed`), so that what comes in at the starts goes out through the servers of the cut.
--     feeder_is                  at most one route goes to a server, and `feeder` says from where
--     crossed                    of a step of the flow both ends are seen or neither
--     left_quiet, left_last      no server whose leaving side is seen hands on to the receiver, or has a link to it
--     link_entered               a link from a seen leaving side leads to a seen entry side
--     cut_count                  the cut has as many servers as there are routes
-- Assumes nothing.
use mathlib.Core.Path.{◌≡◌, refl}
use mathlib.Core.Logic.{⊎_elim}
use mathlib.Core.Bool.{true, not, ◌&&◌}
use mathlib.Core.List.{List}
use Prim.Native.Nat.{ℕ, ◌+◌, ◌≤◌, ◌<◌}
use native.Mathlib.Omega.{arith}
use lib.ListN.{get_or}
use borrow.Author.Tests.{eq-eqb, lt-ltb}
use Rattle.facts.proofs.Bools.{cases, clash, is_false, same}
use Rattle.sets.specs.Sets.{In, Out, has, minus, count}
use Rattle.sets.proofs.Members.{has_minus, has_single}
use Rattle.sets.proofs.Counts.{count_same, count_none, count_some}
use Rattle.sets.proofs.LowestMember.{first_in_found, first_in_least}
use Rattle.flow.specs.declared.Flow.{Flow}
use Rattle.flow.specs.Search.{out_in, feeder, behind, ahead}
use Rattle.flow.proofs.Kept.{one, Valid, nowhere}
use Rattle.flow.proofs.Updates.{one_most, one_true, one_is}
use Rattle.flow.proofs.Sums.{sum, sum_same, sum_add, sum_swap, count_sum, count_one}
use Rattle.flow.proofs.Closed.{ahead_has, Closed}

-- a valid flow at one side
module _ (rows : List ℕ) (inner last sources k : ℕ) (φ : Flow) (v : Valid rows inner last sources k φ) where
  entry_is : (x : ℕ) → x < 8 → one (has φ.start x) + count 8 (λ (p : ℕ). out_in φ p x) ≡ one (has φ.used x)
  unfolding one nowhere
  entry_is x h = let e = v.entry x h in omega arith

  leaving_is : (x : ℕ) → x < 8 → one (has φ.used x) ≡ one (has φ.ends x) + count 8 (out_in φ x)
  unfolding one nowhere
  leaving_is x h = let e = v.leaving x h in omega arith

  fed_used : (p y : ℕ) → p < 8 → y < 8 → out_in φ p y ≡ true → In (has φ.used) y
  fed_used p y k l s =
      let e = entry_is y l in
      let c = count_some 8 (λ (p : ℕ). out_in φ p y) p k s in
      one_is (has φ.used y) (omega arith)

  fed_once : (p q y : ℕ) → p < 8 → q < 8 → y < 8 → out_in φ p y ≡ true → out_in φ q y ≡ true → p ≡ q
  fed_once p q y k l h s t =
      let e = entry_is y h in
      let m = one_most (has φ.used y) in
      count_one 8 (λ (p : ℕ). out_in φ p y) (omega arith) p q k l s t

  hands_used : (p y : ℕ) → p < 8 → y < 8 → out_in φ p y ≡ true → In (has φ.used) p
  hands_used p y k l s =
      let e = leaving_is p k in
      let c = count_some 8 (out_in φ p) y l s in
      one_is (has φ.used p) (omega arith)

  hands_once : (p y z : ℕ) → p < 8 → y < 8 → z < 8 → out_in φ p y ≡ true → out_in φ p z ≡ true → y ≡ z
  hands_once p y z h k l s t =
      let e = leaving_is p h in
      let m = one_most (has φ.used p) in
      count_one 8 (out_in φ p) (omega arith) y z k l s t

  -- where a route goes to the receiver it goes nowhere else
  ends_used : (x : ℕ) → x < 8 → In (has φ.ends) x → In (has φ.used) x
  ends_used x h t = let e = leaving_is x h in let o = one_true (has φ.ends x) t in one_is (has φ.used x) (omega arith)

  ends_none : (x y : ℕ) → x < 8 → y < 8 → In (has φ.ends) x → out_in φ x y ≡ true → ⊥
  ends_none x y h l t s =
      let e = leaving_is x h in
      let o = one_true (has φ.ends x) t in
      let m = one_most (has φ.used x) in
      let c = count_some 8 (out_in φ x) y l s in
      omega arith

  feeder_is : (p y : ℕ) → p < 8 → y < 8 → out_in φ p y ≡ true → feeder φ y ≡ p
  unfolding feeder
  feeder_is p y k l s =
      let least = first_in_least 8 0 (λ (q : ℕ). out_in φ q y) p (omega arith) s in
      let low : feeder φ y ≤ p = ⊎_elim (λ h. h) (λ h. absurd (omega arith)) least in
      ⊎_elim (λ h. absurd (omega arith)) (λ h. fed_once (feeder φ y) p y (omega arith) k l h s) (first_in_found 8 0 (λ (q : ℕ). out_in φ q y))

-- closed marks over a valid flow
module _ (rows : List ℕ) (inner last sources k : ℕ) (φ : Flow) (v : Valid rows inner last sources k φ) (small : (x : ℕ) → In (has inner) x → x < 8)
    (E L : ℕ) (c : Closed rows inner last sources φ E L) where
  entered_below : (x : ℕ) → In (has E) x → x < 8
  entered_below x e = small x (c.inside x e)

  step_below : (p y : ℕ) → out_in φ p y ≡ true → y < 8
  step_below p y s = small y (v.steps p y s).1

  crossed_back : (p y : ℕ) → p < 8 → out_in φ p y ≡ true → In (has E) y → In (has L) p
  unfolding behind
  crossed_back p y h s e =
      let l = entered_below y e in
      let u = fed_used rows inner last sources k φ v p y h l s in
      let f = feeder_is rows inner last sources k φ v p y h l s in
      ⊎_elim (λ a. absurd (let z = rw (u, f) at a in omega arith)) (λ a. rw (u, f) at a) (c.followed y e)

  crossed_on : (p y : ℕ) → out_in φ p y ≡ true → In (has L) p → In (has E) y
  crossed_on p y s e =
      let w = c.passed p e in
      let l = step_below p y s in
      ⊎_elim
      (λ r. clash (has φ.used p) (hands_used rows inner last sources k φ v p y w.below l s) r.1)
      (λ (r : (z : ℕ) × In (has E) z × (out_in φ p z ≡ true)). rw (hands_once rows inner last sources k φ v p y r.0 w.below l (step_below p r.0 r.2) s r.2) r.1)
      w.reason

  crossed : (p y : ℕ) → p < 8 → out_in φ p y ≡ true → has E y ≡ has L p
  crossed p y h s = same (has E y) (has L p) (crossed_back p y h s) (crossed_on p y s)

  pub left_inside : (x : ℕ) → In (has L) x → In (has inner) x
  left_inside x e =
      let w = c.passed x e in
      ⊎_elim
      (λ r. c.inside x r.0)
      (λ (r : (y : ℕ) × In (has E) y × (out_in φ x y ≡ true)). v.passes x (hands_used rows inner last sources k φ v x r.0 w.below (step_below x r.0 r.2) r.2))
      w.reason

  left_quiet : (x : ℕ) → In (has L) x → Out (has φ.ends) x
  left_quiet x e =
      let w = c.passed x e in
      is_false (has φ.ends x) (λ t.
      ⊎_elim
      (λ r. clash (has φ.used x) (ends_used rows inner last sources k φ v x w.below t) r.1)
      (λ r. ends_none rows inner last sources k φ v x r.0 w.below (step_below x r.0 r.2) t r.2)
      w.reason)

  pub left_last : (x : ℕ) → In (has L) x → Out (has last) x
  left_last x e = let q = (c.passed x e).quiet in let o = left_quiet x e in cases (has last x) (λ i. cc) (λ i. i)

  -- a server that is passed and whose leaving side is seen leads back to its entry side
  left_entered : (x : ℕ) → In (has L) x → In (has φ.used) x → In (has E) x
  left_entered x e u = let w = c.passed x e in w.onward x w.below (own x w.below u)
    where
      own : (x : ℕ) → x < 8 → In (has φ.used) x → In (has (ahead rows inner φ x)) x
      own x h u =
          let a = ahead_has rows inner φ x x in
          let b = has_single x x in
          let d = lt-ltb x 8 h in
          let q = eq-eqb x x refl in
          cases ((has (get_or rows x 0) x && has inner x) && not (out_in φ x x)) (λ m. cc) (λ m. cc)

  cut_used : (x : ℕ) → In (has E) x → Out (has L) x → In (has φ.used) x
  unfolding behind
  cut_used x e o =
      let l = entered_below x e in
      cases (has φ.used x)
      (λ u. u)
      (λ u. ⊎_elim (λ a. absurd (let z = rw u at a in omega arith)) (λ a. clash (has L x) (rw u at a) o) (c.followed x e))

  pub link_entered : (x y : ℕ) → In (has L) x → In (has inner) y → In (has (get_or rows x 0)) y → In (has E) y
  link_entered x y e i r =
      let w = c.passed x e in
      cases (out_in φ x y)
      (λ s. crossed_on x y s e)
      (λ s. let a = ahead_has rows inner φ x y in w.onward y (small y i) (cc))

  -- the sums over the sides that are seen

  entry_sum : (x : ℕ) → x < 8 → one (has φ.start x) + sum 8 (λ (p : ℕ). one (has L p && out_in φ p x)) ≡ one (has E x && has φ.used x)
  unfolding one
  entry_sum x h =
      let t = count_sum 8 (λ (p : ℕ). has L p && out_in φ p x) in
      cases (has E x)
      (λ e.
      let a = entry_is rows inner last sources k φ v x h in
      let b = count_same 8 (λ (p : ℕ). has L p && out_in φ p x) (λ (p : ℕ). out_in φ p x) (λ p l. cases (out_in φ p x) (λ s. let z = crossed p x l s in cc) (λ s. cases (has L p) (λ z. cc) (λ z. cc))) in
      rw e (omega arith))
      (λ e.
      let a = is_false (has φ.start x) (λ s. clash (has E x) (c.begun x h (v.starts x s)) e) in
      let b = count_none 8 (λ (p : ℕ). has L p && out_in φ p x) (λ p l. cases (out_in φ p x) (λ s. let z = crossed p x l s in cc) (λ s. cases (has L p) (λ z. cc) (λ z. cc))) in
      rw (e, a) (omega arith))

  leaving_sum : (x : ℕ) → x < 8 → one (has L x && has φ.used x) ≡ sum 8 (λ (y : ℕ). one (has L x && out_in φ x y))
  unfolding one
  leaving_sum x h =
      let t = count_sum 8 (λ (y : ℕ). has L x && out_in φ x y) in
      cases (has L x)
      (λ e.
      let a = leaving_is rows inner last sources k φ v x h in
      let b = count_same 8 (λ (y : ℕ). has L x && out_in φ x y) (out_in φ x) (λ y l. cc) in
      let o : one (has φ.ends x) ≡ 0 = rw (left_quiet x e) refl in
      let u : one (has L x && has φ.used x) ≡ one (has φ.used x) = rw e refl in
      omega arith)
      (λ e.
      let b = count_none 8 (λ (y : ℕ). has L x && out_in φ x y) (λ y l. cc) in
      let u : one (has L x && has φ.used x) ≡ 0 = rw e refl in
      omega arith)

  cut_one : (x : ℕ) → x < 8 → one (has E x && has φ.used x) ≡ one (has L x && has φ.used x) + one (has (minus E L) x)
  unfolding one
  cut_one x h =
      let m = has_minus E L x in
      cases (has E x)
      (λ e. cases (has L x)
      (λ l. rw (m, e, l) (omega arith))
      (λ l. rw (m, e, l, cut_used x e l) (omega arith)))
      (λ e. cases (has L x)
      (λ l. let u = is_false (has φ.used x) (λ u. clash (has E x) (left_entered x l u) e) in rw (m, e, l, u) (omega arith))
      (λ l. rw (m, e, l) (omega arith)))

  pub cut_count : count 8 (has (minus E L)) ≡ k
  cut_count =
      let a = sum_add 8 (λ (x : ℕ). one (has φ.start x)) (λ (x : ℕ). sum 8 (λ (p : ℕ). one (has L p && out_in φ p x))) in
      let b = sum_same 8 (λ (x : ℕ). one (has φ.start x) + sum 8 (λ (p : ℕ). one (has L p && out_in φ p x))) (λ (x : ℕ). one (has E x && has φ.used x)) entry_sum in
      let d = sum_same 8 (λ (x : ℕ). one (has L x && has φ.used x)) (λ (x : ℕ). sum 8 (λ (y : ℕ). one (has L x && out_in φ x y))) leaving_sum in
      let e = sum_swap 8 8 (λ (x p : ℕ). one (has L p && out_in φ p x)) in
      let f = sum_same 8 (λ (x : ℕ). one (has E x && has φ.used x)) (λ (x : ℕ). one (has L x && has φ.used x) + one (has (minus E L) x)) cut_one in
      let g = sum_add 8 (λ (x : ℕ). one (has L x && has φ.used x)) (λ (x : ℕ). one (has (minus E L) x)) in
      let i = count_sum 8 (has φ.start) in
      let j = count_sum 8 (has (minus E L)) in
      let n = v.value in
      omega arith
