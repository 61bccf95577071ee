-- The sources of a block's carriages, by the rules of an accepted plan.
--     sources_below   every source of a kind is a server of V
--     inward_side     every source of 11 is in A
-- Assumes nothing.
use mathlib.Core.Path.{◌≡◌, sym, ◌∙◌, subst}
use mathlib.Core.Bool.{true, not, ◌&&◌}
use mathlib.Core.List.{List, map}
use Prim.Native.Nat.{ℕ, ◌<◌}
use native.Mathlib.Omega.{arith}
use lib.Dec.{eqb}
use borrow.Author.Tests.{ltb-true}
use Rattle.facts.specs.Lists.{Each}
use Rattle.facts.proofs.Bools.{by_cond, and_left}
use Rattle.sets.specs.Sets.{In, has, minus, within, full}
use Rattle.sets.proofs.Members.{has_minus, has_full, within_in}
use Rattle.network.specs.Links.{Links}
use Rattle.sets.specs.Members.{members}
use Rattle.plan.specs.Due.{DueBlock}
use Rattle.rules.specs.Blocks.{Route, source_of, Report, Block, Carriage, carriage_of, report_carriages}
use Rattle.rules.specs.Rules.{IsRoute, IsReport, InBlock}
use Rattle.rules.proofs.Lists.{members_in}
use Rattle.steps.proofs.Ways.{route_source}
use Rattle.steps.proofs.Chosen.{each_map, each_report}
use Rattle.part.specs.Own.{source, carriages_of}

-- what holds of the first server of each route holds of the source of each of their carriages
routes_each : (Q : ℕ → Type 0) (n : ℕ) (links : Links) (F : ℕ) (ps : List Route) → Each (IsRoute n links F) ps → Each (λ p. Q (source_of p)) ps
    → Each (λ c. Q (source c)) (map carriage_of ps)
routes_each Q n links F ps r h = each_map carriage_of (λ c. Q (source c)) ps (λ p m. subst Q (sym (route_source n links F p (r p m))) (h p m))

routes_below : (n : ℕ) (links : Links) (F : ℕ) (ps : List Route) → Each (IsRoute n links F) ps → Each (λ c. source c < n) (map carriage_of ps)
routes_below n links F ps r =
    routes_each (λ (s : ℕ). s < n) n links F ps r (λ p m. (r p m).servers 0 (let two = (r p m).two in omega arith))

-- the members of a part of V−F are below n
reporters_below : (n F s : ℕ) → within s (minus (full n) F) ≡ true → Each (λ m. m < n) (members s)
reporters_below n F s w i m =
    let e = within_in s (minus (full n) F) w i (members_in s i m).0 in
    let a : (has (full n) i && not (has F i)) ≡ true = sym (has_minus (full n) F i) ∙ e in
    ltb-true i n (sym (has_full n i) ∙ and_left (has (full n) i) (not (has F i)) a)

reports_below : (n f : ℕ) (links : Links) (F : ℕ) (rs : List Report) → Each (IsReport n f links F) rs → Each (λ c. source c < n) (report_carriages rs)
reports_below n f links F rs h = each_report (λ c. source c < n) rs (λ r m x l. reporters_below n F r.reporters (h r m).sound x l)

module _ (n f : ℕ) (links : Links) (d : DueBlock) (b : Block) (g : InBlock n f links d b) where
  pub sources_below : (kind : ℕ) → Each (λ c. source c < n) (carriages_of kind b)
  unfolding carriages_of
  sources_below kind =
      let Below : List Carriage → Type 0 = λ cs. Each (λ c. source c < n) cs in
      by_cond Below (eqb kind 0x11) _ _ (λ e. routes_below n links b.faults b.inward g.inward.routes)
      (λ e. by_cond Below (eqb kind 0x12) _ _ (λ e. routes_below n links b.faults b.among g.among.routes)
      (λ e. by_cond Below (eqb kind 0x13) _ _ (λ e. routes_below n links b.faults b.outward g.outward.routes)
      (λ e. reports_below n f links b.faults b.reports g.reports)))

  pub inward_side : Each (λ c. In (has b.side) (source c)) (carriages_of 0x11 b)
  unfolding carriages_of
  inward_side = routes_each (In (has b.side)) n links b.faults b.inward g.inward.routes g.inward.start
