-- What the routes of an accepted plan are, whatever their block.
--     Proper n p         a route of servers below n, none twice, with an operand of eight bytes that leads back to it
--     ProperBlock n b    a block of such routes
--     plan_proper        blocks that are within the rules are such
-- Assumes nothing.
use mathlib.Core.Path.{◌≡◌}
use mathlib.Core.List.{List}
use Prim.Native.Nat.{ℕ, ◌≤◌, ◌<◌}
use lib.ListN.{length, get_or}
use Rattle.facts.specs.Lists.{Each}
use Rattle.network.specs.Links.{Links}
use Rattle.route.specs.Route.{path}
use Rattle.plan.specs.Due.{DueBlock}
use Rattle.rules.specs.Blocks.{Route, Block, operand}
use Rattle.rules.specs.Rules.{IsRoute, InOrder}
use Rattle.rules.proofs.Routes.{operand_path, operand_long}
use Rattle.rules.proofs.Order.{order_of}

pub record Proper (n : ℕ) (p : Route) : Type 0 where
  pub two : 2 ≤ length p
  pub servers : (i : ℕ) → i < length p → get_or p i 0 < n
  pub once : (i j : ℕ) → i < j → j < length p → get_or p i 0 ≡ get_or p j 0 → ⊥
  pub long : length (operand p) ≡ 8
  pub back : path (operand p) ≡ p

pub record ProperBlock (n : ℕ) (b : Block) : Type 0 where
  pub inward : Each (Proper n) b.inward
  pub among : Each (Proper n) b.among
  pub outward : Each (Proper n) b.outward

module _ (n f : ℕ) (links : Links) (few : n ≤ 8) where
  proper : (F : ℕ) (ps : List Route) → Each (IsRoute n links F) ps → Each (Proper n) ps
  proper F ps h = λ p m. let g = h p m in
      record { two = g.two; servers = g.servers; once = g.once; long = operand_long n links F few p g; back = operand_path n links F few p g }

  pub plan_proper : (ds : List DueBlock) (bs : List Block) → InOrder n f links ds bs → Each (ProperBlock n) bs
  plan_proper ds bs o = λ b m. let (d, k, h) = order_of n f links ds bs o b m in
      let F = b.faults in
      record { inward = proper F b.inward h.inward.routes; among = proper F b.among h.among.routes; outward = proper F b.outward h.outward.routes }
