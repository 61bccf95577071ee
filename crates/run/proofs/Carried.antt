-- What carriages over routes bring, on plain lists. The loop goes over the routes of a block.
--     brought_is    what the route's carriage brings
--     heard_next    one carriage more
--     along         the walk along a route
--     Arriving, ..  the loop: arrivals_start, arrivals_go, arrivals_end
-- Assumes nothing.
use mathlib.Core.Path.{◌≡◌, refl, sym, ap, ◌∙◌}
use mathlib.Core.Bool.{Bool, cond}
use mathlib.Core.List.{List, [], ◌∷◌, ◌++◌, map}
use Prim.Native.Nat.{ℕ, suc, ◌+◌, ◌≤◌, ◌<◌}
use native.Mathlib.Omega.{arith}
use lib.ListN.{length, get_or, take}
use lib.Seq.{get_or-take}
use lib.Dec.{eqb}
use Rattle.facts.proofs.Bools.{cases}
use Rattle.route.specs.Route.{path}
use Rattle.rules.specs.Blocks.{Route, Carriage, carriage_of, routes_at}
use Rattle.rules.proofs.Groups.{routes_length}
use Rattle.steps.specs.Hearing.{hit, message, brought, heard}
use Rattle.carriage.specs.declared.walk.Walk.{Walk}
use Rattle.carriage.specs.Walks.{Walked}
use Rattle.carriage.specs.Openings.{RoutesThere, RouteThere}
use Rattle.carriage.proofs.Walking.{walked_route}
use Rattle.carriage.proofs.Operands.{before_is, receiver_is, route_server}
use Rattle.run.specs.Speaking.{Adds, Speaks}
use Rattle.run.specs.declared.hearing.Against.{Against}
use Rattle.run.proofs.Speaking.{adds_none, adds_then, adds_speaks}

module _ (s : List ℕ) (end : ℕ) (w : end + 1 ≡ length (path (take 8 s))) (few : end ≤ 7) where
  brought_is : (X : ℕ) (table : List ℕ) (k : ℕ) (source : ℕ → ℕ) (b : Bool) → b ≡ hit X (take end s) → 1 ≤ end
      → (r : ℕ) → r ≡ cond b (message table k) (source (get_or s 0 0)) → r ≡ brought X table k source (carriage_of (path (take 8 s)))
  unfolding brought
  brought_is X table k source b p one r q =
      let z = get_or-take end s 0 0 (omega arith) in
      q ∙ sym (rw (before_is s end w few, z, ← p) refl)

-- one carriage more: its receiver hears what it brings, then the rest; every other server hears the rest alone
heard_next : (X : ℕ) (table : List ℕ) (number : ℕ) (source : ℕ → ℕ) (c : Carriage) (cs : List Carriage) (r arrival : ℕ)
    → c.receiver ≡ r → arrival ≡ brought X table number source c
    → (i : ℕ) → heard X table number source (c ∷ cs) i ≡ cond (eqb r i) (arrival ∷ []) [] ++ heard X table (suc number) source cs i
unfolding heard
heard_next X table number source c cs r arrival is p i =
    let later = heard X table (suc number) source cs i in
    let h : heard X table number source (c ∷ cs) i ≡ cond (eqb c.receiver i) (brought X table number source c ∷ []) [] ++ later =
    cases (eqb c.receiver i) (λ e. rw e refl) (λ e. rw e refl) in
    h ∙ (λ j. cond (eqb (is j) i) (sym p j ∷ []) [] ++ later)

-- the bytes are a route's operand, and the walk goes to its receiver
pub record OnRoute (X : ℕ) (s : List ℕ) (r : Walk) : Type 0 where
  pub end : r.end + 1 ≡ length (path (take 8 s))
  pub some : 1 ≤ r.end
  pub few : r.end ≤ 7
  pub wide : 8 ≤ length s
  pub from_server : get_or s 0 0 < 8
  pub to_server : get_or s r.end 0 < 8
  pub hit : r.hit ≡ hit X (take r.end s)

-- the walk along a route of a block
pub along : (X : ℕ) (s : List ℕ) → RouteThere s → (r : Walk) → Walked X s r → OnRoute X s r
along X s there r w =
    let (end, one, few, hit) = walked_route s there.wide there.servers.two X r w in
    record {
      end = end;
      some = one;
      few = few;
      wide = there.wide;
      from_server = route_server s there r.end end few 0 (omega arith);
      to_server = route_server s there r.end end few r.end (omega arith);
      hit = hit;
    }

-- k routes are behind: with what those left bring, what is held so far becomes what the whole speaks against
pub record Arriving (X : ℕ) (table : List ℕ) (first : ℕ) (source : ℕ → ℕ) (whole : ℕ → List ℕ) (against : Against) (left : List Route) (k : ℕ) : Type 0 where
  pub few : k + length left ≤ 1048576
  pub same : (b : Against) → Adds against (heard X table (first + k) source (map carriage_of left)) b → Speaks whole b

module _ (X : ℕ) (table : List ℕ) (first : ℕ) (source : ℕ → ℕ) where
  pub arrivals_start : (s : List ℕ) (at count : ℕ) → RoutesThere s at count
      → Arriving X table first source (heard X table first source (map carriage_of (routes_at s at count))) (record { zero = 0; one = 0 }) (routes_at s at count) 0
  arrivals_start s at count there =
      let y : first + 0 ≡ first = omega arith in
      let l = routes_length s at count in
      let f = there.fits in
      let g = there.short in
      record { few = omega arith; same = rw y (λ b h. adds_speaks _ b h) }

  module _ (whole : ℕ → List ℕ) (against : Against) (left : List Route) (k : ℕ) (so : Arriving X table first source whole against left k) where
    pub arrivals_end : left ≡ [] → Speaks whole against
    unfolding heard
    arrivals_end h = let e = rw h at so.same in e against (adds_none against _ (λ i. refl))

    module _ (s : List ℕ) (later : List Route) (is : left ≡ path (take 8 s) ∷ later) where
      pub arrivals_fit : first ≤ 4294967296 → first + k < 18446744073709551616
      arrivals_fit h = let f = so.few in omega arith

      pub arrivals_go : (r : Walk) → OnRoute X s r → (arrival : ℕ) → arrival ≡ cond r.hit (message table (first + k)) (source (get_or s 0 0))
          → (next : Against) → Adds against (λ (i : ℕ). cond (eqb (get_or s r.end 0) i) (arrival ∷ []) []) next
          → Arriving X table first source whole next later (k + 1)
      arrivals_go r a arrival p next q =
          let brings = brought_is s r.end a.end a.few X table (first + k) source r.hit a.hit a.some arrival p in
          let y : first + (k + 1) ≡ suc (first + k) = omega arith in
          let all = rw is at so.same in
          let l = ap length is in
          let f = so.few in
          record {
            few = omega arith;
            same = rw y (λ b a'. all b (adds_then against next b _ _ _ q a' (heard_next X table (first + k) source (carriage_of (path (take 8 s))) (map carriage_of later) (get_or s r.end 0) arrival (receiver_is s r.end a.end a.few) brings)));
          }
