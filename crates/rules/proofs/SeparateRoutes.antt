-- What routes that have only their receiver in common need of a network, for arbitrary sets of servers.
--     fan_meets     a set that has a server of each of the routes, the receiver aside, has more than f servers
--     crossing      a route from outside a set into it has a link that leads into it
--     fan_crosses   such routes into a set W from outside it cross f + 1 different incoming neighbours of W outside F: V−F−W → W, by Definition 1
-- The servers at which the routes enter W are all different, as no two routes share one. Assumes nothing.
use mathlib.Core.Path.{◌≡◌, refl, ap, ◌∙◌}
use mathlib.Core.Bool.{not, ◌&&◌}
use mathlib.Core.List.{List, []}
use Prim.Native.Nat.{ℕ, zero, suc, ◌+◌, ◌-◌, ◌≤◌, ◌<◌}
use native.Mathlib.Omega.{arith}
use lib.ListN.{length, get_or}
use Rattle.facts.specs.Lists.{Each}
use Rattle.facts.proofs.Bools.{cases, clash, both}
use Rattle.facts.proofs.Lists.{at_mem}
use Rattle.sets.specs.Sets.{Set, In, Out, has, count}
use Rattle.sets.proofs.Counts.{count_different}
use Rattle.network.specs.Links.{Links, linked_in}
use Rattle.split.proofs.Neighbours.{some_of}
use Rattle.condition.specs.Condition.{neighbour, Arrow}
use Rattle.rules.specs.Blocks.{Route, source_of, receiver_of}
use Rattle.rules.specs.Routable.{Passes, Disjoint}

-- a link of p that leads from outside W into W
abbrev pub Entry : Set → Route → Type 0
Entry W p = (i : ℕ) × (suc i < length p) × Out W (get_or p i 0) × In W (get_or p (suc i) 0)

pub crossing : (W : Set) (p : Route) → 2 ≤ length p → Out W (source_of p) → In W (receiver_of p) → Entry W p
crossing W p two out into = walk (length p - 1) 0 (omega arith) out into
  where
    -- k links from place i on, which is outside W
    walk : (k i : ℕ) → i + k ≡ length p - 1 → Out W (get_or p i 0) → In W (get_or p (length p - 1) 0) → Entry W p
    walk zero i e o t = let z : length p - 1 ≡ i = omega arith in clash (W (get_or p i 0)) (rw z at t) o
    walk (suc k) i e o t = cases (W (get_or p (suc i) 0)) (λ q. (i, omega arith, o, q)) (λ q. walk k (suc i) (omega arith) q t)

module _ (n f : ℕ) (links : Links) (F A r : ℕ) (ps : List Route) (d : Disjoint n f links F A r ps) where
  pub fan_meets : (K : Set) → Each (λ p. (x : ℕ) × In K x × Passes p x) ps → f < count n K
  fan_meets K h =
      let e = d.enough in
      let c = count_different n (length ps) K (λ (j x : ℕ). Passes (get_or ps j []) x) (λ j k. met j k) d.separate in
      omega arith
    where
      met : (j : ℕ) → j < length ps → (x : ℕ) × (x < n) × In K x × Passes (get_or ps j []) x
      met j k =
          let m = at_mem ps [] j k in
          let (x, e, w) = h (get_or ps j []) m in
          let (i, l, q) = w in
          (x, rw q at ((d.routes (get_or ps j []) m).servers i (omega arith)), e, w)

  pub fan_crosses : (W : Set) → In W r → ((i : ℕ) → i < n → In (has A) i → Out W i) → Arrow n f (linked_in links) (λ (i : ℕ). not (has F i) && not (W i)) W
  unfolding neighbour
  fan_crosses W into out = fan_meets (λ (i : ℕ). (not (has F i) && not (W i)) && neighbour n (linked_in links) W i) entered
    where
      entered : Each (λ p. (x : ℕ) × In (λ (i : ℕ). (not (has F i) && not (W i)) && neighbour n (linked_in links) W i) x × Passes p x) ps
      entered p m =
          let w = d.routes p m in
          let s = out (source_of p) (w.servers 0 (omega arith)) (d.start p m) in
          let t : In W (receiver_of p) = ap W (d.end p m) ∙ into in
          let (i, l, o, e) = crossing W p w.two s t in
          let c = w.clear i (omega arith) in
          let x = get_or p i 0 in
          let y = get_or p (suc i) 0 in
          let b = some_of n (λ (j : ℕ). W j && linked_in links x j) y (w.servers (suc i) l) (both (W y) (linked_in links x y) e (w.linked i l)) in
          (x, cc, (i, omega arith, refl))
