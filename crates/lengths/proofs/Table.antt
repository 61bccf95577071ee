-- The table of lengths, of 27 entries: one test is computed over it, and one law carries it to every n and f.
--     length-..   the three answers of `plan_length`
-- Assumes nothing.
use mathlib.Core.Path.{◌≡◌, refl}
use mathlib.Core.Bool.{Bool, true, ◌&&◌}
use mathlib.Core.List.{List, [], ◌∷◌}
use Prim.Native.Nat.{ℕ, zero, suc, ◌+◌, ◌≤◌, ◌<◌}
use native.Mathlib.Nat.{add-zero, add-suc, suc-add, zero-add}
use native.Mathlib.Omega.{arith}
use lib.ListN.{length, get_or}
use lib.Dec.{eqb, leb}
use borrow.Author.Tests.{eqb-true, le-leb, lt-leb}
use Rattle.facts.proofs.Bools.{cases, and_left, and_right}
use Rattle.facts.proofs.Tables.{every_entry, entry}
use Rattle.sets.specs.Sets.{has, meet, minus, within, full, count, size, first_in, lowest}
use Rattle.sets.specs.Members.{list_from}
use Rattle.plan.specs.Due.{is_part, blocks_of, blocks_of_all, due}
use Rattle.planner.specs.Plan.{block_length, lengths, plan_length}
use Rattle.planner.proofs.Short.{length_few}
use Rattle.lengths.specs.Length.{length_for, Length}

abbrev table : List (List ℕ)
table =
    (1 ∷ 1 ∷ 1 ∷ []) ∷
    (1 ∷ 1 ∷ 1 ∷ []) ∷
    (14 ∷ 23 ∷ 32 ∷ []) ∷
    (67 ∷ 196 ∷ 277 ∷ []) ∷
    (218 ∷ 923 ∷ 1550 ∷ []) ∷
    (601 ∷ 3276 ∷ 6681 ∷ []) ∷
    (1520 ∷ 10025 ∷ 24215 ∷ []) ∷
    (3655 ∷ 28106 ∷ 78443 ∷ []) ∷
    (8510 ∷ 74471 ∷ 235548 ∷ []) ∷ []

-- three entries for each number of servers from n on
abbrev every_row : ℕ → List (List ℕ) → Bool
every_row n [] = true
every_row n (row ∷ rows) = (eqb (length row) 3 && every_entry (λ (f x : ℕ). eqb x (plan_length n f)) 0 row) && every_row (suc n) rows

row_from : (rows : List (List ℕ)) (i : ℕ) → every_row i rows ≡ true → (k : ℕ) → k < length rows
    → (eqb (length (get_or rows k [])) 3 && every_entry (λ (f x : ℕ). eqb x (plan_length (i + k) f)) 0 (get_or rows k [])) ≡ true
row_from [] i e k h = absurd (omega arith)
row_from (row ∷ rows) i e zero h = rw add-zero (and_left (eqb (length row) 3 && every_entry (λ (f x : ℕ). eqb x (plan_length i f)) 0 row) (every_row (suc i) rows) e)
row_from (row ∷ rows) i e (suc k) h =
    rw (add-suc, ← suc-add) (row_from rows (suc i) (and_right (eqb (length row) 3 && every_entry (λ (f x : ℕ). eqb x (plan_length i f)) 0 row) (every_row (suc i) rows) e) k (omega arith))

computed : every_row 0 table ≡ true
unfolding due blocks_of blocks_of_all list_from is_part has meet minus within full count size first_in lowest block_length lengths plan_length
computed = refl

module _ (n f : ℕ) (a : n ≤ 8) (b : f ≤ 2) where
  table_at : get_or (get_or table n []) f 0 ≡ plan_length n f
  table_at =
      let row = get_or table n [] in
      let r = rw zero-add at (row_from table 0 computed n (omega arith)) in
      let l = eqb-true (length row) 3 (and_left (eqb (length row) 3) (every_entry (λ (f x : ℕ). eqb x (plan_length n f)) 0 row) r) in
      let e = and_right (eqb (length row) 3) (every_entry (λ (f x : ℕ). eqb x (plan_length n f)) 0 row) r in
      eqb-true (get_or row f 0) (plan_length n f) (entry (λ (f x : ℕ). eqb x (plan_length n f)) row e f (omega arith))

  pub length_at : Length n f (get_or (get_or table n []) f 0)
  unfolding length_for
  length_at = record {
    all = let e = table_at in let x = le-leb n 8 a in let y = le-leb f 2 b in cc;
    plan = λ x y. table_at;
    few = rw table_at (length_few n f a b);
  }

pub length_many : (n f : ℕ) → 8 < n → Length n f 0
unfolding length_for
length_many n f h = record {
  all = let x = lt-leb n 8 h in cc;
  plan = λ x y. absurd (omega arith);
  few = omega arith;
}

pub length_bound : (n f : ℕ) → 2 < f → Length n f 0
unfolding length_for
length_bound n f h = record {
  all = let y = lt-leb f 2 h in cases (leb n 8) (λ x. cc) (λ x. cc);
  plan = λ x y. absurd (omega arith);
  few = omega arith;
}
