-- Routes laid over the lent bytes, one after the other.
--     operands_long                  a route takes eight bytes; routes_long, routes_many: so many have the routes of a flow
--     routes-..                      the loop over the starts of a flow: to lay the routes left over what is there gives the whole
-- Assumes nothing.
use mathlib.Core.Path.{◌≡◌, refl, sym, ap, ◌∙◌}
use mathlib.Core.List.Memᴰ
use mathlib.Core.List.{List, [], ◌∷◌, ◌++◌, map}
use Prim.Native.Nat.{ℕ, ◌+◌, ◌-◌, ◌*◌, ◌≤◌}
use native.Mathlib.Omega.{arith}
use lib.ListN.{length, take, drop, replicate, length-append, length-map, length-replicate}
use Rattle.facts.specs.Lists.{Each}
use Rattle.facts.specs.Laid.{laid}
use Rattle.facts.proofs.Stores.{laid_append, laid_mid, length_laid}
use Rattle.sets.specs.Sets.{size}
use Rattle.sets.specs.Members.{members}
use Rattle.rules.specs.Blocks.{Route, operand}
use Rattle.rules.proofs.Lists.{length_members}
use Rattle.flow.specs.declared.Flow.{Flow}
use Rattle.flow.specs.Routes.{trail, routes_of}
use Rattle.separate.proofs.Laying.{trail_long}
use Rattle.routes.specs.Routing.{operands}

-- lengths

operand_eight : (p : Route) → length p ≤ 8 → length (operand p) ≡ 8
unfolding operand
operand_eight p h =
    let a = length-append p (replicate (8 - length p) 0xff) in
    let b = length-replicate {A = ℕ} (8 - length p) 0xff in
    omega arith

pub operands_long : (ps : List Route) → Each (λ p. length p ≤ 8) ps → length (operands ps) ≡ 8 * length ps
unfolding operands
operands_long [] h = refl
operands_long (p ∷ ps) h =
    let ih = operands_long ps (λ q m. h q (Memᴰ.tail m)) in
    let a = length-append (operand p) (operands ps) in
    let b = operand_eight p (h p (Memᴰ.head refl)) in
    omega arith

module _ (φ : Flow) (r : ℕ) where
  pub operand_long : (x : ℕ) → length (operand (trail φ r 7 x)) ≡ 8
  operand_long x = operand_eight (trail φ r 7 x) (trail_long φ r 7 x)

  pub routes_many : length (routes_of φ r) ≡ size φ.start
  unfolding routes_of
  routes_many = length-map (members φ.start) (trail φ r 7) ∙ length_members φ.start

  pub routes_long : length (operands (routes_of φ r)) ≡ 8 * size φ.start
  unfolding routes_of
  routes_long =
      operands_long (routes_of φ r) (λ p m. let (x, o, e) = Memᴰ.of_map (trail φ r 7) (members φ.start) m in rw e at (trail_long φ r 7 x))
      ∙ ap (λ (k : ℕ). 8 * k) routes_many

-- lay_routes

module _ (φ : Flow) (r : ℕ) (old : List ℕ) where
  -- the routes that start at these servers
  abbrev later : List ℕ → List ℕ
  later xs = operands (map (trail φ r 7) xs)

  pub record Routes (lent : List ℕ) (at : ℕ) (left : List ℕ) : Type 0 where
    pub long : length lent ≡ length old
    pub room : at + length (later left) ≤ length old
    pub whole : laid at (later left) lent ≡ laid 0 (operands (routes_of φ r)) old

  pub routes_start : length (operands (routes_of φ r)) ≤ length old → (of : ℕ) → of ≡ φ.start → Routes old 0 (members of)
  unfolding routes_of
  routes_start h of e = rw e record { long = refl; room = omega arith; whole = refl }

  module _ (lent : List ℕ) (at : ℕ) (left : List ℕ) (s : Routes lent at left) where
    pub routes_end : left ≡ [] → lent ≡ laid 0 (operands (routes_of φ r)) old
    unfolding operands laid
    routes_end e = rw e at s.whole

    module _ (x : ℕ) (next : List ℕ) (e : left ≡ x ∷ next) where
      next_is : later left ≡ operand (trail φ r 7 x) ++ later next
      unfolding operands
      next_is = rw e refl

      pub routes_room : at + 8 ≤ length lent
      routes_room =
          let m = s.room in
          let l = s.long in
          let a = ap length next_is ∙ length-append (operand (trail φ r 7 x)) (later next) in
          let o = operand_long φ r x in
          omega arith

      pub routes_go : (route mid : List ℕ) → route ≡ operand (trail φ r 7 x) → mid ≡ route → Routes (take at lent ++ (mid ++ drop (at + 8 - at) (drop at lent))) (at + 8) next
      routes_go route mid c d =
          let m = s.room in
          let n = next_is in
          let a = ap length n ∙ length-append (operand (trail φ r 7 x)) (later next) in
          let o = operand_long φ r x in
          let k : at + 8 - at ≡ length (operand (trail φ r 7 x)) = omega arith in
          let p = routes_room in
          let l = laid_mid at (operand (trail φ r 7 x)) lent (omega arith) in
          let t = laid_append at (operand (trail φ r 7 x)) (later next) lent in
          let w = s.whole in
          rw (d, c, k, l) record {
            long = length_laid at (operand (trail φ r 7 x)) lent ∙ s.long;
            room = omega arith;
            whole = rw (sym o) (sym t ∙ (rw n at w));
          }
