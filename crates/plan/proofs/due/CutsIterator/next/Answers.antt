use mathlib.Core.Path.{◌≡◌, sym, ap, ◌∙◌}
use mathlib.Core.Bool.{true}
use mathlib.Core.List.{◌∷◌}
use Prim.Native.Nat.{◌-◌, ◌<◌}
use native.Mathlib.Omega.{arith}
use lib.ListN.{length}
use Rattle.sets.specs.Sets.{meet, minus}
use Rattle.sets.specs.Members.{list_from}
use Rattle.plan.specs.Due.{is_part}
use Rattle.plan.specs.Ahead.{parts_left}
use Rattle.plan.proofs.Lists.{list_done}
use Rattle.plan.proofs.Scans.{scan_inside, scan_on, scan_takes, scan_skips}
use Rattle.plan.proofs.due.CutsIterator.next.Goals as goal
use Rattle.plan.proofs.due.CutsIterator.next.Goals.{After-is_part}

-- the next one of the sets within the set
module _ (c : goal.After-is_part) where
  small : c.args.self.now.sound < 256
  small = omega arith

  on : c.loop-next.next < c.next_apart-next.result
  on = rw (c.next_apart-next.ensures, c.minus-others.ensures) (scan_on c.args.self.now.sound small c.loop-next.next c.loop-next.invariant.inside)

  inside : meet c.next_apart-next.result (minus 255 c.args.self.now.sound) ≡ 0
  inside = rw (c.next_apart-next.ensures, c.minus-others.ensures) (scan_inside c.args.self.now.sound small c.loop-next.next c.loop-next.invariant.inside)

  taken : c.is_part.result ≡ true
      → parts_left c.args.self.now ≡ c.loop-next.next ∷ list_from (c.args.self.now.sound - c.next_apart-next.result) c.next_apart-next.result (is_part c.args.self.now.sound)
  taken t =
      c.loop-next.invariant.left
      ∙ rw (c.next_apart-next.ensures, c.minus-others.ensures) (scan_takes c.args.self.now.sound small c.loop-next.next c.loop-next.invariant.inside c.loop-next-test.true (sym c.is_part.ensures ∙ t))

pub invariant_of-self : goal.invariant_of-self
invariant_of-self c = record { inside = rw c.loop-next.invariant.same (inside (goal.at.invariant_of-self c).After-is_part) }

pub returns-then-is_part-clause-steps : goal.returns-then-is_part-clause-steps
returns-then-is_part-clause-steps c = rw c.loop-next.invariant.same (taken (goal.at.returns-then-is_part-clause-steps c).After-is_part c.if-is_part.true)

pub returns-then-is_part-clause-goes : goal.returns-then-is_part-clause-goes
returns-then-is_part-clause-goes c =
    let e = ap length (taken (goal.at.returns-then-is_part-clause-goes c).After-is_part c.if-is_part.true) in
    record { on = λ u. (tt, tt, rw c.loop-next.invariant.same (omega (arith, e))); keeps = tt; rests = λ u. tt }

pub loop-next-smaller : goal.loop-next-smaller
loop-next-smaller c = let o = on (goal.at.loop-next-smaller c).After-is_part in omega arith

pub loop-next-preserved : goal.loop-next-preserved
loop-next-preserved c =
    let i = c.loop-next.invariant in
    record {
      same = i.same;
      inside = inside (goal.at.loop-next-preserved c).After-is_part;
      left =
          i.left
          ∙ rw (c.next_apart-next.ensures, c.minus-others.ensures) (scan_skips c.args.self.now.sound (omega arith) c.loop-next.next i.inside c.loop-next-test.true (sym c.is_part.ensures ∙ c.if-is_part.false));
    }

pub invariant_of-self-2 : goal.invariant_of-self-2
invariant_of-self-2 c = record { inside = rw c.loop-next.invariant.same c.loop-next.invariant.inside }

pub returns-clause-steps : goal.returns-clause-steps
returns-clause-steps c =
    let i = c.loop-next.invariant in
    (i.left ∙ list_done _ _ _ c.loop-next-test.false, rw i.same (list_done _ _ _ c.loop-next-test.false))
