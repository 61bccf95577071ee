-- The way along a route, on plain lists.
--     hit-..         the servers before a place
--     Passing, ..    the loop that goes to the receiver: starts, stops at the fill, goes on, ends at the eighth byte
--     receiver-..    the place of the receiver where the bytes are a route's operand
--     walked_route   what the walk is for such bytes
-- Assumes nothing.
use mathlib.Core.Path.{◌≡◌, refl, sym, ap, ◌∙◌}
use mathlib.Core.Bool.{Bool, false, ◌||◌}
use mathlib.Core.List.{List, [], ◌∷◌}
use Prim.Native.Nat.{ℕ, zero, suc, ◌+◌, ◌-◌, ◌≤◌, ◌<◌}
use native.Mathlib.Numerals.{add-one}
use native.Mathlib.Omega.{arith}
use lib.ListN.{length, get_or, take, drop}
use lib.Dec.{eqb}
use borrow.Author.Tests.{lt-ltb, le-ltb, eq-eqb, ne_eqb, eqb-true, eqb-false}
use Rattle.facts.proofs.Bools.{cases}
use Rattle.sets.specs.Sets.{has}
use Rattle.route.specs.Route.{path}
use Rattle.route.proofs.Paths.{Passed, path_stops, path_passes, path_ends}
use Rattle.steps.specs.Hearing.{hit}
use Rattle.carriage.specs.declared.walk.Walk.{Walk}
use Rattle.carriage.specs.Walks.{last_from, receiver_at, Walked}

-- some server before a place is faulty: one server more
hit_more : (X : ℕ) (s : List ℕ) (k : ℕ) → k < length s → (hit X (take k s) || has X (get_or s k 0)) ≡ hit X (take (k + 1) s)
unfolding hit
hit_more X [] k h = absurd (omega arith)
hit_more X (x ∷ xs) zero h = cases (has X x) (λ e. rw e refl) (λ e. rw e refl)
hit_more X (x ∷ xs) (suc k) h =
    let ih = hit_more X xs k (omega arith) in
    let a = add-one (suc k) in
    let b = add-one k in
    cases (has X x) (λ e. rw (a, e) refl) (λ e. rw (a, e) (rw b at ih))

hit_first : (X : ℕ) (s : List ℕ) → 0 < length s → has X (get_or s 0 0) ≡ hit X (take 1 s)
unfolding hit
hit_first X s h = hit_more X s 0 h

-- the place of the receiver of eight bytes or more
receiver_long : (s : List ℕ) → 8 ≤ length s → last_from 6 1 s ≡ receiver_at s
unfolding receiver_at
receiver_long s h = sym (simp (le-ltb _ _ h))

pub receiver_short : (X : ℕ) (s : List ℕ) → length s < 8 → (r : Walk) → r.end ≡ 0 → r.hit ≡ false → Walked X s r
unfolding receiver_at hit
receiver_short X s h r e q = let z : receiver_at s ≡ 0 = simp (lt-ltb _ _ h) in record { end = e ∙ sym z; hit = q ∙ ap (λ (x : ℕ). hit X (take x s)) (sym z) }

last_here : (left k : ℕ) (s : List ℕ) → get_or s (suc k) 0 ≡ 0xff → last_from (suc left) k s ≡ k
unfolding last_from
last_here left k s e = simp (eq-eqb _ _ e)

last_later : (left k : ℕ) (s : List ℕ) → (get_or s (suc k) 0 ≡ 0xff → ⊥) → last_from (suc left) k s ≡ last_from left (suc k) s
unfolding last_from
last_later left k s o = simp (ne_eqb _ _ o)

-- k servers are passed, the receiver is at k or later, and h says whether one of those passed is faulty
pub record Passing (X : ℕ) (s : List ℕ) (h : Bool) (k : ℕ) : Type 0 where
  pub begun : 1 ≤ k
  pub most : k ≤ 7
  pub ahead : last_from (7 - k) k s ≡ receiver_at s
  pub mark : h ≡ hit X (take k s)

module _ (X : ℕ) (s : List ℕ) (wide : 8 ≤ length s) where
  pub passing_starts : (h : Bool) → h ≡ has X (get_or s 0 0) → Passing X s h 1
  passing_starts h e = record { begun = omega arith; most = omega arith; ahead = receiver_long s wide; mark = e ∙ hit_first X s (omega arith) }

  module _ (h : Bool) (k : ℕ) (p : Passing X s h k) where
    found : (r : Walk) → r.end ≡ k → r.hit ≡ h → k ≡ receiver_at s → Walked X s r
    found r e q z = record { end = e ∙ z; hit = q ∙ p.mark ∙ ap (λ (x : ℕ). hit X (take x s)) z }

    -- no fill comes: the receiver is the eighth server
    pub passing_ends : 7 ≤ k → (r : Walk) → r.end ≡ 7 → r.hit ≡ h → Walked X s r
    unfolding last_from
    passing_ends l r e q =
        let z : k ≡ 7 = omega arith in
        let a = p.ahead in
        found r (e ∙ sym z) q (z ∙ rw z at a)

    module _ (l : k < 7) where
      left : 7 - k ≡ suc (7 - (k + 1))
      left = omega arith

      pub passing_stops : get_or s (k + 1) 0 ≡ 0xff → (r : Walk) → r.end ≡ k → r.hit ≡ h → Walked X s r
      passing_stops f r e q =
          let a = rw left at p.ahead in
          let g : get_or s (suc k) 0 ≡ 0xff = rw (add-one k) at f in
          found r e q (sym (last_here (7 - (k + 1)) k s g) ∙ a)

      pub passing_goes : (get_or s (k + 1) 0 ≡ 0xff → ⊥) → (b : Bool) → b ≡ has X (get_or s k 0) → Passing X s (h || b) (k + 1)
      passing_goes o b e =
          let a = rw left at p.ahead in
          let g : get_or s (suc k) 0 ≡ 0xff → ⊥ = rw (add-one k) at o in
          record {
            begun = omega arith;
            most = omega arith;
            ahead = ap (λ (j : ℕ). last_from (7 - (k + 1)) j s) (add-one k) ∙ sym (last_later (7 - (k + 1)) k s g) ∙ a;
            mark = rw (p.mark, e) (hit_more X s k (omega arith));
          }

-- the first two servers of a route are there, so the look-out starts after them
place_starts : (l : List ℕ) → 2 ≤ length (path l) → 2 + length (path (drop 2 l)) ≡ length (path l)
unfolding path
place_starts [] h = absurd (omega arith)
place_starts (b ∷ []) h =
    cases (eqb b 255) (λ e. absurd (let z : length (path (b ∷ [])) ≡ 0 = simp e in omega arith)) (λ e. absurd (let z : length (path (b ∷ [])) ≡ 1 = simp e in omega arith))
place_starts (a ∷ b ∷ l) h =
    cases (eqb a 255)
    (λ e. absurd (let z : length (path (a ∷ b ∷ l)) ≡ 0 = simp e in omega arith))
    λ e. cases (eqb b 255)
    (λ g. absurd (let z : length (path (a ∷ b ∷ l)) ≡ 1 = simp (e, g) in omega arith))
    λ g. let z : length (path (a ∷ b ∷ l)) ≡ suc (suc (length (path l))) = simp (e, g) in omega arith

-- from place k on: the servers passed, one more and those still to come make up the path
last_path : (left k : ℕ) (s : List ℕ) (wide : 8 ≤ length s) → left + k ≡ 7 → Passed s wide (suc k)
    → (last_from left k s + 1 ≡ length (path (take 8 s))) × (k ≤ last_from left k s) × (last_from left k s ≤ 7)
unfolding last_from
last_path zero k s wide e a = let q = path_ends s wide (suc k) (omega arith) (omega arith) a in (omega arith, omega arith, omega arith)
last_path (suc left) k s wide e a =
    cases (eqb (get_or s (suc k) 0) 0xff)
    (λ t. let z : last_from (suc left) k s ≡ k = simp t in
    let q = path_stops s wide (suc k) (omega arith) a (eqb-true _ _ t) in
    (omega arith, omega arith, omega arith))
    λ t. let z : last_from (suc left) k s ≡ last_from left (suc k) s = simp t in
    let q = path_passes s wide (suc k) (omega arith) a (eqb-false _ _ t) in
    let ih = last_path left (suc k) s wide (omega arith) (rw (add-one (suc k)) at q) in
    (omega arith, omega arith, omega arith)

module _ (s : List ℕ) (wide : 8 ≤ length s) (two : 2 ≤ length (path (take 8 s))) where
  pub receiver_path : (receiver_at s + 1 ≡ length (path (take 8 s))) × (1 ≤ receiver_at s) × (receiver_at s ≤ 7)
  receiver_path = rw (← (receiver_long s wide)) (last_path 6 1 s wide refl (place_starts (take 8 s) two))

  pub walked_route : (X : ℕ) (r : Walk) → Walked X s r
      → (r.end + 1 ≡ length (path (take 8 s))) × (1 ≤ r.end) × (r.end ≤ 7) × (r.hit ≡ hit X (take r.end s))
  walked_route X r w = let q = receiver_path in let e = w.end in rw e (q.0, q.1, q.2, w.hit)
