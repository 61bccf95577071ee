-- run.in cut into its parts: what a part that is whole, cut short or not there is, and what zeros after run.in are to it.
-- Assumes nothing.
use mathlib.Core.Path.{◌≡◌, refl, sym, ap, ◌∙◌}
use mathlib.Core.List.{List, [], ◌++◌}
use Prim.Native.Nat.{ℕ, ◌+◌, ◌-◌, ◌≤◌, ◌<◌}
use native.Mathlib.Omega.{arith}
use lib.ListN.{length, take, drop, replicate, length-drop, drop_of_length-le, get_or-eq_default, get_or-append}
use lib.Seq.{take_all, take-nil, take-append-le, drop-append-le}
use Rattle.transcript.specs.Text.{faulty_of, inputs_of, table_of}

module _ (l : List ℕ) where
  pub faulty_none : length l ≤ 0 → 0 ≡ faulty_of l
  unfolding faulty_of
  faulty_none h = sym (get_or-eq_default l 0 h)

  -- all that stands from a place on
  rest : (k at : ℕ) → length l ≤ k + at → take k (drop at l) ≡ drop at l
  rest k at h = let e = length-drop at l in take_all k (drop at l) (omega arith)

  module _ (n : ℕ) where
    pub inputs_whole : take (n + 1 - 1) (drop 1 l) ≡ inputs_of n l
    unfolding inputs_of
    inputs_whole = let e : n + 1 - 1 ≡ n = omega arith in rw e refl

    pub inputs_short : length l < n + 1 → take (length l - 1) (drop 1 l) ≡ inputs_of n l
    unfolding inputs_of
    inputs_short h = rest (length l - 1) 1 (omega arith) ∙ sym (rest n 1 (omega arith))

    pub inputs_none : length l ≡ 0 → [] ≡ inputs_of n l
    unfolding inputs_of
    inputs_none h = sym (ap (take n) (drop_of_length-le l {i = 1} (omega arith)) ∙ take-nil n)

    pub table_whole : take (length l - (n + 1)) (drop (n + 1) l) ≡ table_of n l
    unfolding table_of
    table_whole = let e : n + 1 ≡ 1 + n = omega arith in rest (length l - (n + 1)) (n + 1) (omega arith) ∙ ap (λ (k : ℕ). drop k l) e

    pub table_none : length l < n + 1 → [] ≡ table_of n l
    unfolding table_of
    table_none h = sym (drop_of_length-le l {i = 1 + n} (omega arith))

    -- zeros after a run.in with all its inputs

    module _ (m : ℕ) (h : n < length l) where
      pub faulty_silent : faulty_of (l ++ replicate m 0) ≡ faulty_of l
      unfolding faulty_of
      faulty_silent = get_or-append l (replicate m 0) 0 0 (omega arith)

      pub inputs_silent : inputs_of n (l ++ replicate m 0) ≡ inputs_of n l
      unfolding inputs_of
      inputs_silent =
          let k = length-drop 1 l in
          ap (take n) (drop-append-le 1 l (replicate m 0) (omega arith)) ∙ take-append-le n (drop 1 l) (replicate m 0) (omega arith)

      pub table_silent : table_of n (l ++ replicate m 0) ≡ table_of n l ++ replicate m 0
      unfolding table_of
      table_silent = drop-append-le (1 + n) l (replicate m 0) (omega arith)
