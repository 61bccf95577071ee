-- The routes of a block, one after the other, on plain lists.
--     path_is, ..   the servers of a route: its path is the part of the operand before the fill
--     part_from      the bytes from a place on; operand: those of the next route
--     routes-..     the routes left, the next one in front; route_there: its operand is whole; reports-..: the same of reports
--     route_server  the servers of a route are below 8; source_is: the first is its source
-- Assumes nothing.
use mathlib.Core.Path.{◌≡◌, refl, sym, ap, ◌∙◌}
use mathlib.Core.List.Memᴰ
use mathlib.Core.List.{List, [], ◌∷◌}
use Prim.Native.Nat.{ℕ, suc, ◌+◌, ◌-◌, ◌≤◌, ◌<◌}
use native.Mathlib.Omega.{arith}
use lib.ListN.{length, get_or, take, drop, length-drop}
use lib.Seq.{take-take, get_or-take}
use Rattle.route.specs.Route.{path}
use Rattle.route.proofs.Paths.{path_part}
use Rattle.plan.specs.Check.{route_at}
use Rattle.plan.proofs.Groups.{part_rest}
use Rattle.rules.specs.Blocks.{carriage_of, routes_at, reports_at}
use Rattle.carriage.specs.Openings.{RoutesThere, RouteThere, ReportsThere}

module _ (s : List ℕ) (end : ℕ) (w : end + 1 ≡ length (path (take 8 s))) (few : end ≤ 7) where
  path_is : path (take 8 s) ≡ take (end + 1) s
  path_is = path_part (take 8 s) ∙ ap (λ (x : ℕ). take x (take 8 s)) (sym w) ∙ take-take (end + 1) 8 s (omega arith)

  last_is : length (path (take 8 s)) - 1 ≡ end
  last_is = omega arith

  server_is : (i : ℕ) → i ≤ end → get_or (path (take 8 s)) i 0 ≡ get_or s i 0
  server_is i h = ap (λ (x : List ℕ). get_or x i 0) path_is ∙ get_or-take (end + 1) s i 0 (omega arith)

  pub before_is : (carriage_of (path (take 8 s))).before ≡ take end s
  before_is = ap (λ (x : ℕ). take x (path (take 8 s))) last_is ∙ ap (λ (x : List ℕ). take end x) path_is ∙ take-take end (end + 1) s (omega arith)

  pub receiver_is : (carriage_of (path (take 8 s))).receiver ≡ get_or s end 0
  receiver_is = ap (λ (x : ℕ). get_or (path (take 8 s)) x 0) last_is ∙ server_is end (omega arith)

-- the bytes from a place on, as the code takes them
abbrev pub part_from : List ℕ → ℕ → List ℕ
part_from s at = take (length s - at) (drop at s)

-- the operand of the next route: the block from the byte after the command on
abbrev pub operand : List ℕ → ℕ → List ℕ
operand s at = part_from s (at + 1)

-- the next route, and the others
module _ (s : List ℕ) (at : ℕ) where
  split : (m : ℕ) → routes_at s at (suc m) ≡ path (take 8 (operand s at)) ∷ routes_at s (at + 9) m
  unfolding routes_at route_at
  split m = rw (part_rest s (at + 1)) refl

  pub routes_none : (left : ℕ) → left ≡ 0 → routes_at s at left ≡ []
  unfolding routes_at
  routes_none left z = rw z refl

  module _ (left : ℕ) (some' : left ≡ 0 → ⊥) where
    pub routes_next : routes_at s at left ≡ path (take 8 (operand s at)) ∷ routes_at s (at + 9) (left - 1)
    routes_next = let z : suc (left - 1) ≡ left = omega arith in rw z at (split (left - 1))

    module _ (so : RoutesThere s at left) where
      pub routes_go : RoutesThere s (at + 9) (left - 1)
      routes_go = record {
        fits = let f = so.fits in omega arith;
        short = so.short;
        servers = let e = rw routes_next at so.servers in λ p m. e p (Memᴰ.tail m);
      }

      pub route_there : RouteThere (operand s at)
      route_there = record {
        wide = let f = so.fits in rw (part_rest s (at + 1)) (simp length-drop (omega arith));
        servers = let e = rw routes_next at so.servers in e (path (take 8 (operand s at))) (Memᴰ.head refl);
      }

-- the next command of reports, and the others
module _ (s : List ℕ) (at : ℕ) where
  tells : (m : ℕ) → reports_at s at (suc m) ≡ record { receiver = get_or s (at + 1) 0; reporters = get_or s (at + 2) 0 } ∷ reports_at s (at + 3) m
  unfolding reports_at
  tells m = refl

  pub reports_none : (left : ℕ) → left ≡ 0 → reports_at s at left ≡ []
  unfolding reports_at
  reports_none left z = rw z refl

  module _ (left : ℕ) (some' : left ≡ 0 → ⊥) where
    pub reports_next : reports_at s at left ≡ record { receiver = get_or s (at + 1) 0; reporters = get_or s (at + 2) 0 } ∷ reports_at s (at + 3) (left - 1)
    reports_next = let z : suc (left - 1) ≡ left = omega arith in rw z at (tells (left - 1))

    pub reports_go : (each : ℕ) → ReportsThere s at left each → ReportsThere s (at + 3) (left - 1) each
    reports_go each so = record {
      fits = let f = so.fits in omega arith;
      short = so.short;
      few = so.few;
      told = let e = rw reports_next at so.told in λ p m. e p (Memᴰ.tail m);
    }

-- the servers of a route
module _ (s : List ℕ) (r : RouteThere s) (end : ℕ) (w : end + 1 ≡ length (path (take 8 s))) (few : end ≤ 7) where
  pub route_server : (i : ℕ) → i ≤ end → get_or s i 0 < 8
  route_server i l = rw (server_is s end w few i l) at (r.servers.eight i (omega arith))

  pub source_is : 1 ≤ end → get_or s 0 0 ≡ get_or (carriage_of (path (take 8 s))).before 0 0
  source_is l = sym (ap (λ (x : List ℕ). get_or x 0 0) (before_is s end w few) ∙ get_or-take end s 0 0 (omega arith))
