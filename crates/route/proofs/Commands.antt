-- The command at a place: what the tests say of it, on plain lists.
-- Assumes nothing.
use mathlib.Core.Path.{◌≡◌, sym, ◌∙◌}
use mathlib.Core.Bool.{true}
use mathlib.Core.List.{List}
use Prim.Native.Nat.{ℕ, ◌-◌, ◌≤◌, ◌<◌}
use lib.ListN.{length, get_or}
use lib.Dec.{ltb}
use borrow.Author.Tests.{lt-ltb, le-ltb, eq-eqb, ne_eqb}
use Rattle.route.specs.Commands.{width, is_cut}

module _ (s : List ℕ) (at : ℕ) where
  pub cut_none : length s ≤ at → true ≡ is_cut s at
  unfolding is_cut
  cut_none h = sym (simp (le-ltb at (length s) h))

  module _ (h : at < length s) (w : ℕ) (e : w ≡ width (get_or s at 0)) where
    pub cut_unknown : w ≡ 0 → true ≡ is_cut s at
    unfolding is_cut
    cut_unknown z = sym (simp (lt-ltb at (length s) h, eq-eqb (width (get_or s at 0)) 0 (sym e ∙ z)))

    pub cut_short : (w ≡ 0 → ⊥) → ltb (length s - at) w ≡ is_cut s at
    unfolding is_cut
    cut_short o = rw e (sym (simp (lt-ltb at (length s) h, ne_eqb (width (get_or s at 0)) 0 (λ q. o (e ∙ q)))))
