-- The inputs and the lent buffer as bytes.
--     bits_all             the test of the inputs, one for all
--     Taking, taking-..    the loop that takes the servers with input 1
--     unsure_first         where no server is sure, each t is 2
--     Writing, writing-..  the loop that writes the decided bits: those written, then the bytes as they were
-- Assumes nothing.
use mathlib.Core.Path.{◌≡◌, refl, sym, ap, ◌∙◌}
use mathlib.Core.Bool.{Bool, true, false, cond, ◌&&◌, ◌||◌}
use mathlib.Core.List.{List, [], ◌∷◌, ◌++◌}
use Prim.Native.Nat.{ℕ, zero, suc, ◌+◌, ◌≤◌, ◌<◌}
use native.Mathlib.Numerals.{add-one}
use native.Mathlib.Omega.{arith}
use lib.ListN.{length, get_or, set, drop, replicate, length-set, get_or-eq_default}
use lib.Seq.{drop-cons, set_at, append_snoc}
use lib.Dec.{eqb, ltb}
use borrow.Author.Tests.{lt-ltb, eq-eqb, ne_eqb, eqb-true, eqb-false, ltb-true, ltb-false}
use Rattle.std.specs.List.{list_all}
use Rattle.std.specs.Prelude.{nat_lt}
use Rattle.facts.proofs.Bools.{cases}
use Rattle.sets.specs.Sets.{has, single, union}
use Rattle.sets.proofs.Members.{has_empty, has_union, has_single}
use Rattle.steps.specs.Steps.{held, values_from, values}
use Rattle.steps.specs.Run.{are_bits, decided}
use Rattle.run.specs.Speaking.{bit_of, work_of, bits_of, works_of}
use Rattle.steps.proofs.Eight.{values_long, values_at, values_ext}
use Rattle.steps.proofs.Decides.{bits_at}

-- the inputs are bits

pub bits_all : (s : List ℕ) → list_all (λ (x : ℕ). nat_lt x 2) s ≡ are_bits s
unfolding are_bits
bits_all [] = refl
bits_all (x ∷ s) = ap (λ (b : Bool). ltb x 2 && b) (bits_all s)

-- the inputs are the values

bit_is : (v j x : ℕ) → x < 2 → has v j ≡ eqb x 1 → bit_of v j ≡ x
unfolding bit_of
bit_is v j x h e =
    cases (eqb x 1)
    (λ q. let z = eqb-true x 1 q in rw (e ∙ q) (sym z))
    (λ q. let z = eqb-false x 1 q in rw (e ∙ q) (omega arith))

-- v are the servers below i with input 1
module _ (inputs : List ℕ) where
  pub record Taking (v i : ℕ) : Type 0 where
    pub within : i ≤ length inputs
    pub passed : (j : ℕ) → j < i → has v j ≡ eqb (get_or inputs j 0) 1
    pub ahead : (j : ℕ) → i ≤ j → has v j ≡ false

  pub taking_starts : Taking 0 0
  taking_starts = record { within = omega arith; passed = λ j h. absurd (omega arith); ahead = λ j h. has_empty j }

  module _ (few : length inputs ≤ 8) (v i : ℕ) (t : Taking v i) where
    module _ (h : i < length inputs) where
      pub taking_skips : (get_or inputs i 0 ≡ 1 → ⊥) → Taking v (i + 1)
      taking_skips o = record {
        within = omega arith;
        passed = λ j l. cases (eqb j i)
            (λ e. let z = eqb-true j i e in rw z (t.ahead i (omega arith) ∙ sym (ne_eqb (get_or inputs i 0) 1 o)))
            (λ e. let z = eqb-false j i e in t.passed j (omega arith));
        ahead = λ j l. t.ahead j (omega arith);
      }

      module _ (s u : ℕ) (es : s ≡ single i) (eu : u ≡ union v s) where
        has_now : (j : ℕ) → has u j ≡ (has v j || eqb i j)
        has_now j = let a = has_union v s j in let b = has_single i j in let l = lt-ltb i 8 (omega arith) in cc

        pub taking_adds : get_or inputs i 0 ≡ 1 → Taking u (i + 1)
        taking_adds o = record {
          within = omega arith;
          passed = λ j l. cases (eqb j i)
              (λ e. let z = eqb-true j i e in let p = has_now i in let a = t.ahead i (omega arith) in let q = eq-eqb i i refl in let r = eq-eqb (get_or inputs i 0) 1 o in rw z (cc))
              (λ e. let z = eqb-false j i e in let p = has_now j in let a = t.passed j (omega arith) in let q = ne_eqb i j (λ y. z (sym y)) in cases (has v j) (λ y. cc) (λ y. cc));
          ahead = λ j l. let p = has_now j in let a = t.ahead j (omega arith) in let q = ne_eqb i j (λ y. omega arith) in cc;
        }

    pub taking_done : are_bits inputs ≡ true → length inputs ≤ i → bits_of v ≡ values (held inputs)
    taking_done bits h = values_ext (bit_of v) (held inputs) (λ j l. bit_is v j (get_or inputs j 0) (bits_at inputs bits j) (cases (ltb j i)
        (λ e. t.passed j (ltb-true j i e))
        (λ e. let z = ltb-false j i e in t.ahead j z ∙ sym (ap (λ (x : ℕ). eqb x 1) (get_or-eq_default inputs 0 (omega arith))))))

pub unsure_first : (t : ℕ) → works_of 0 t ≡ replicate 8 2
unfolding values values_from work_of
unsure_first t = values_ext (work_of 0 t) (λ (i : ℕ). 2) (λ i h. rw (has_empty i) refl)

-- the decided bits are written

values_snoc : (k lo : ℕ) (g : ℕ → ℕ) → values_from (suc k) lo g ≡ values_from k lo g ++ (g (lo + k) ∷ [])
unfolding values_from
values_snoc zero lo g = let z : lo + 0 ≡ lo = omega arith in rw z refl
values_snoc (suc k) lo g = let z : suc lo + k ≡ lo + suc k = omega arith in let ih = values_snoc k (suc lo) g in ap (λ (l : List ℕ). g lo ∷ l) (rw z at ih)

module _ (n X v : ℕ) (old : List ℕ) where
  abbrev pub Writing : (lent : List ℕ) (i : ℕ) → Type 0
  Writing lent i = (i ≤ n) × (length lent ≡ length old) × (lent ≡ decided i X (bits_of v) ++ drop i old)

  pub writing_starts : Writing old 0
  unfolding decided values_from
  writing_starts = (omega arith, refl, refl)

  module _ (few : n ≤ 8) (room : n ≤ length old) (lent : List ℕ) (i : ℕ) (w : Writing lent i) where
    pub writing_done : n ≤ i → lent ≡ decided n X (bits_of v) ++ drop n old
    writing_done h = let z : i ≡ n = omega arith in rw z at w.2

    module _ (h : i < n) (b : Bool) (e : b ≡ has X i) where
      goes : (x : ℕ) → x ≡ cond (has X i) 2 (held (bits_of v) i) → Writing (set lent i x) (i + 1)
      unfolding decided
      goes x q =
          let a = add-one i in
          let d = drop-cons old i 0 (omega arith) in
          let g : ℕ → ℕ = λ j. cond (has X j) 2 (held (bits_of v) j) in
          let m = values_snoc i 0 g in
          let l = values_long i 0 g in
          let z : 0 + i ≡ i = omega arith in
          let p = set_at (decided i X (bits_of v)) (get_or old i 0) (drop (suc i) old) x i l in
          let r = append_snoc (decided i X (bits_of v)) x (drop (suc i) old) in
          let y = w.2 in
          (omega arith, length-set lent i x ∙ w.1, cc)

      pub writing_faulty : b ≡ true → Writing (set lent i 2) (i + 1)
      writing_faulty t = goes 2 (rw (sym e ∙ t) refl)

      pub writing_sound : b ≡ false → (x : ℕ) → x ≡ bit_of v i → Writing (set lent i x) (i + 1)
      writing_sound t x q = goes x (rw (sym e ∙ t) (q ∙ sym (values_at (bit_of v) i (omega arith))))
