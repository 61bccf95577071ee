-- Flows whose routes go where they may, and which keep their units at the two sides of every server, in numbers. A circle of steps may be in such
-- a flow: no count notices it, and no route comes to it.
--     one b        == 1 where b holds, else 0
--     Kept ..     <-> so many routes start, and at each side as many units come in as go out, but for one that is lacking at the entry sides of
--                     `lackIn` and at the leaving sides of `lackOut`
--     Valid ..    <-> nothing is lacking
-- Assumes nothing.
use mathlib.Core.Path.{◌≡◌}
use mathlib.Core.Bool.{Bool, true, false, cond}
use mathlib.Core.List.{List}
use Prim.Native.Nat.{ℕ, ◌+◌, ◌<◌}
use lib.ListN.{length, get_or}
use Rattle.sets.specs.Sets.{Set, In, has, count}
use Rattle.flow.specs.declared.Flow.{Flow}
use Rattle.flow.specs.Search.{out_in}

unfoldable pub one : Bool → ℕ
one b = cond b 1 0

pub record Kept (rows : List ℕ) (inner last sources k : ℕ) (lackIn lackOut : Set) (φ : Flow) : Type 0 where
  pub long : length φ.out ≡ 8
  pub passes : (x : ℕ) → In (has φ.used) x → In (has inner) x
  pub starts : (x : ℕ) → In (has φ.start) x → In (has sources) x
  pub ending : (x : ℕ) → In (has φ.ends) x → In (has last) x
  pub steps : (x y : ℕ) → out_in φ x y ≡ true → In (has (get_or rows x 0)) y × In (has inner) y
  pub entry : (x : ℕ) → x < 8 → one (has φ.start x) + count 8 (λ (p : ℕ). out_in φ p x) + one (lackIn x) ≡ one (has φ.used x)
  pub leaving : (x : ℕ) → x < 8 → one (has φ.used x) + one (lackOut x) ≡ one (has φ.ends x) + count 8 (out_in φ x)
  pub value : count 8 (has φ.start) ≡ k

unfoldable pub nowhere : Set
nowhere i = false

abbrev pub Valid : List ℕ → (inner last sources k : ℕ) → Flow → Type 0
Valid rows inner last sources k φ = Kept rows inner last sources k nowhere nowhere φ
