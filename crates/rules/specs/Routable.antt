-- What a plan shows of its network: routes that have nothing in common but their receiver, for every F of at most f servers and every cut of V−F.
-- Nothing here speaks of bytes or of the order of blocks, and nothing of the commands 12 and 14. Changes from the paper: a route has at most eight
-- servers, which says nothing where n is at most 8; that A, B and F are apart and F has at most f servers is said where `Propagates` is used.
--     Passes p x                   <-> x is on the route p, as its source or as a relay
--     Disjoint n f links F A r ps  <-> ps are f + 1 routes or more from A to r that exclude F, with no server but r on two of them
--     Propagates n f links F A B   <-> A propagates in V−F to B: Definition 2 of Tseng and Vaidya
--     Cut n F Z                    <-> Z and the rest of V−F are two parts that are not empty
--     Served n f links F Z         <-> there are A, one of these two parts, and S such that A propagates to S−A and S to the rest of V−F
--     Routable n f links           <-> every cut of V−F is served, for every F of at most f servers
use Rattle.std.specs.Prelude.{◌≡◌, ◌⊎◌, true, not, ◌&&◌, List, [], ℕ, suc, ◌^◌, ◌≤◌, ◌<◌, length, get_or}
use Rattle.facts.specs.Lists.{Each}
use Rattle.sets.specs.Sets.{In, has, minus, within, full, count}
use Rattle.network.specs.Links.{Links}
use Rattle.rules.specs.Blocks.{Route, source_of, receiver_of}
use Rattle.rules.specs.Rules.{IsRoute}

abbrev pub Passes : Route → ℕ → Type 0
Passes p x = (i : ℕ) × (suc i < length p) × (get_or p i 0 ≡ x)

pub record Disjoint (n f : ℕ) (links : Links) (F A r : ℕ) (ps : List Route) : Type 0 where
  pub enough : f < length ps
  pub start : Each (λ p. In (has A) (source_of p)) ps
  pub end : Each (λ p. receiver_of p ≡ r) ps
  pub routes : Each (IsRoute n links F) ps
  pub separate : (j k x : ℕ) → j < length ps → k < length ps → Passes (get_or ps j []) x → Passes (get_or ps k []) x → j ≡ k

abbrev pub Propagates : ℕ → ℕ → Links → (F A B : ℕ) → Type 0
Propagates n f links F A B = (r : ℕ) → In (has B) r → (ps : List Route) × Disjoint n f links F A r ps

pub record Cut (n F Z : ℕ) : Type 0 where
  pub inside : within Z (minus (full n) F) ≡ true
  pub some : 0 < count n (has Z)
  pub others : 0 < count n (λ (i : ℕ). not (has F i) && not (has Z i))

pub record Served (n f : ℕ) (links : Links) (F Z : ℕ) : Type 0 where
  pub side : ℕ
  pub quorum : ℕ
  pub part : (side ≡ Z) ⊎ (side ≡ minus (minus (full n) F) Z)
  pub inward : Propagates n f links F side (minus quorum side)
  pub outward : Propagates n f links F quorum (minus (minus (full n) F) quorum)

abbrev pub Routable : ℕ → ℕ → Links → Type 0
Routable n f links = (F : ℕ) → F < 2 ^ n → count n (has F) ≤ f → (Z : ℕ) → Cut n F Z → Served n f links F Z
