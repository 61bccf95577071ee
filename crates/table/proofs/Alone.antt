-- P10 for every S of one server: there is no other member of S, so the block has no route of 12, and step 3 has no arrival to compare.
-- Assumes nothing.
use mathlib.Core.Path.{◌≡◌, refl, ap, ◌∙◌}
use mathlib.Core.Bool.{cond, not, ◌&&◌, and-false}
use mathlib.Core.List.{List, [], ◌∷◌, map}
use Prim.Native.Nat.{ℕ, ◌<◌}
use native.Mathlib.Omega.{arith}
use lib.ListN.{length}
use borrow.Author.Tests.{eq-eqb}
use Rattle.sets.specs.Sets.{has}
use Rattle.sets.specs.Members.{members}
use Rattle.plan.specs.Due.{due}
use Rattle.rules.specs.Blocks.{Route, decode_plan}
use Rattle.rules.specs.Rules.{sources_for, pairs_of, ends_of}
use Rattle.rules.proofs.Lists.{length_members}
use Rattle.rules.proofs.Order.{order_of}
use Rattle.rules.proofs.Main.{decodes}
use Rattle.steps.specs.Hearing.{heard, all}
use Rattle.steps.specs.Steps.{held, compare}
use Rattle.steps.proofs.Eight.{values_at}
use Rattle.table.specs.Rows.{KeepsAlone}

-- a list of one has no pair of two different members
one_pair : (l : List ℕ) → length l ≡ 1 → pairs_of l l ≡ []
unfolding pairs_of sources_for
one_pair [] e = absurd (omega arith)
one_pair (x ∷ []) e = rw (eq-eqb x x refl) refl
one_pair (x ∷ y ∷ ys) e = absurd (omega arith)

no_route : (ps : List Route) → map ends_of ps ≡ [] → ps ≡ []
no_route [] e = refl
no_route (p ∷ ps) e = let l : length (map ends_of (p ∷ ps)) ≡ 0 = ap length e in absurd (omega arith)

-- without arrivals step 3 keeps each t
kept : (S faulty : ℕ) (messages : List ℕ) (number : ℕ) (t : List ℕ) (i : ℕ) → i < 8 → held (compare faulty messages number [] S t) i ≡ held t i
unfolding compare heard all
kept S faulty messages number t i h =
    values_at (λ (j : ℕ). cond (has S j && not (all (held t j) (heard faulty messages number (held t) [] j))) 2 (held t j)) i h ∙ rw (and-false (has S i)) refl

pub keeps_alone : KeepsAlone
keeps_alone card plan n f links e accepted b m one faulty messages number t i h =
    let (d, k, r) = order_of n f links (due n f) (decode_plan n f plan) (decodes card plan n f links e accepted).0 b m in
    let none = no_route b.among (r.among.order ∙ one_pair (members b.quorum) (length_members b.quorum ∙ one)) in
    rw none (kept b.quorum faulty messages number t i h)
