-- A route laid out as the eight bytes of its operand, on plain lists: the route from x on, laid from place i on, gives the operand of the whole.
--     Laying         what is laid so far, and the rest laid after it, are the operand
--     laying-..      the loop of `operand`: its start, a step, the step to the receiver, and the eighth server
-- Assumes nothing.
use mathlib.Core.Path.{◌≡◌, refl, ap, ◌∙◌}
use mathlib.Core.Bool.{Bool, true, false}
use mathlib.Core.List.{List, ◌++◌}
use Prim.Native.Nat.{ℕ, zero, suc, ◌+◌, ◌-◌, ◌≤◌, ◌<◌}
use native.Mathlib.Numerals.{add-one}
use native.Mathlib.Omega.{arith}
use lib.ListN.{length, get_or, set, drop, replicate}
use Rattle.facts.specs.Laid.{laid}
use Rattle.facts.proofs.Bools.{cases}
use Rattle.facts.proofs.Stores.{laid_whole}
use Rattle.sets.specs.Sets.{has, lowest}
use Rattle.rules.specs.Blocks.{operand}
use Rattle.flow.specs.declared.Flow.{Flow}
use Rattle.flow.specs.Routes.{trail}

pub trail_long : (φ : Flow) (r k x : ℕ) → length (trail φ r k x) ≤ suc k
unfolding trail
trail_long φ r zero x = omega arith
trail_long φ r (suc k) x =
    let ih = trail_long φ r k (lowest (get_or φ.out x 0)) in
    cases (has φ.ends x) (λ e. rw e (omega arith)) (λ e. rw e (omega arith))

drop_fill : (k n b : ℕ) → drop k (replicate n b) ≡ replicate (n - k) b
drop_fill zero n b = let e : n - 0 ≡ n = omega arith in rw e refl
drop_fill (suc k) zero b = let e : 0 - suc k ≡ 0 = omega arith in rw e refl
drop_fill (suc k) (suc n) b = let e : suc n - suc k ≡ n - k = omega arith in rw e (drop_fill k n b)

abbrev pub Laying : Flow → (r start i x : ℕ) → List ℕ → Type 0
Laying φ r start i x route = laid i (trail φ r (7 - i) x) route ≡ operand (trail φ r 7 start)

pub laying_starts : (φ : Flow) (r start : ℕ) → Laying φ r start 0 start (replicate 8 255)
unfolding operand
laying_starts φ r start =
    let p = trail φ r 7 start in
    laid_whole p (replicate 8 255) (trail_long φ r 7 start) ∙ ap (λ (l : List ℕ). p ++ l) (drop_fill (length p) 8 255)

module _ (φ : Flow) (r start i x : ℕ) (route : List ℕ) (so : Laying φ r start i x route) where
  pub laying_ends : i < 7 → (b : Bool) → b ≡ has φ.ends x → b ≡ true → set (set route i x) (i + 1) r ≡ operand (trail φ r 7 start)
  unfolding trail laid
  laying_ends h b e t = let s : 7 - i ≡ suc (7 - (i + 1)) = omega arith in let l = rw s at so in let a = add-one i in cc

  pub laying_goes : i < 7 → (b : Bool) → b ≡ has φ.ends x → b ≡ false → (y : ℕ) → y ≡ lowest (get_or φ.out x 0) → Laying φ r start (i + 1) y (set route i x)
  unfolding trail laid
  laying_goes h b e t y n = let s : 7 - i ≡ suc (7 - (i + 1)) = omega arith in let l = rw s at so in let a = add-one i in cc

  pub laying_full : i ≡ 7 → set route 7 r ≡ operand (trail φ r 7 start)
  unfolding trail laid
  laying_full e = rw e at so
