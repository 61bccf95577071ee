-- Sums over the k servers from i on.
--     sum_from k i f    the sum of f
--     sum_same         of two that agree there; sum_none of nothing; sum_plus of a sum; sum_one of one server
--     added_counts     the counts of servers, added up
-- Assumes nothing.
use mathlib.Core.Path.{◌≡◌, refl, ap}
use mathlib.Core.Bool.{cond}
use mathlib.Core.List.{List}
use Prim.Native.Nat.{ℕ, zero, suc, ◌+◌, ◌≤◌, ◌<◌}
use native.Mathlib.Omega.{arith}
use lib.Dec.{eqb}
use borrow.Author.Tests.{eqb-true, eqb-false, ne_eqb}
use Rattle.facts.proofs.Bools.{cases}
use Rattle.rules.specs.Blocks.{Route}
use Rattle.load.specs.Load.{relayed, counts_from, added}

unfoldable pub sum_from : ℕ → ℕ → (ℕ → ℕ) → ℕ
sum_from zero i f = 0
sum_from (suc k) i f = f i + sum_from k (suc i) f

pub sum_same : (k i : ℕ) (f g : ℕ → ℕ) → ((j : ℕ) → j < i + k → f j ≡ g j) → sum_from k i f ≡ sum_from k i g
unfolding sum_from
sum_same zero i f g h = refl
sum_same (suc k) i f g h =
    let here = h i (omega arith) in
    let later = sum_same k (suc i) f g (λ j l. h j (omega arith)) in
    omega arith

pub sum_none : (k i : ℕ) → sum_from k i (λ j. 0) ≡ 0
unfolding sum_from
sum_none zero i = refl
sum_none (suc k) i = let ih = sum_none k (suc i) in omega arith

pub sum_plus : (k i : ℕ) (f g : ℕ → ℕ) → sum_from k i (λ j. f j + g j) ≡ sum_from k i f + sum_from k i g
unfolding sum_from
sum_plus zero i f g = refl
sum_plus (suc k) i f g = let ih = sum_plus k (suc i) f g in omega arith

-- one of the servers, and before or after them none
one_none : (k i b : ℕ) → b < i → sum_from k i (λ j. cond (eqb b j) 1 0) ≡ 0
unfolding sum_from
one_none zero i b h = refl
one_none (suc k) i b h =
    let ih = one_none k (suc i) b (omega arith) in
    let e = ne_eqb b i (λ q. omega arith) in
    rw e (omega arith)

pub sum_one : (k i b : ℕ) → i ≤ b → b < i + k → sum_from k i (λ j. cond (eqb b j) 1 0) ≡ 1
unfolding sum_from
sum_one zero i b h l = absurd (omega arith)
sum_one (suc k) i b h l =
    cases (eqb b i)
    (λ e. let q = eqb-true b i e in let z = one_none k (suc i) b (omega arith) in rw e (omega arith))
    (λ e. let q = eqb-false b i e in let ih = sum_one k (suc i) b (omega (arith, q)) (omega arith) in rw e (omega arith))

pub added_counts : (k i : ℕ) (ps : List Route) → added (counts_from k i ps) ≡ sum_from k i (λ j. relayed j ps)
unfolding counts_from added sum_from
added_counts zero i ps = refl
added_counts (suc k) i ps = ap (λ (x : ℕ). relayed i ps + x) (added_counts k (suc i) ps)
