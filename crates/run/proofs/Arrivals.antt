-- What arrives at a server: values that are 0, 1 or 2, and what they settle.
--     common_settled   the common value of arrivals is what they settle by what they speak against
--     heard_small      what is heard is 0, 1 or 2 if what is held is
--     works_small      the t of every server is 0, 1 or 2; bits_small: so is its v
-- Assumes nothing.
use mathlib.Core.Path.{◌≡◌, refl, sym, subst}
use mathlib.Core.List.Memᴰ
use mathlib.Core.List.{List, [], ◌∷◌}
use Prim.Native.Nat.{ℕ, zero, suc, ◌<◌}
use native.Mathlib.Omega.{arith}
use lib.Dec.{eqb, ltb}
use lib.ListN.{get_or, get_or-eq_default}
use borrow.Author.Tests.{ltb-true, ltb-false}
use Rattle.facts.proofs.Bools.{cases, by_cond}
use Rattle.sets.specs.Sets.{has}
use Rattle.rules.specs.Blocks.{Carriage}
use Rattle.facts.specs.Lists.{Each}
use Rattle.rules.proofs.Groups.{each_cons}
use Rattle.steps.specs.Hearing.{hit, message, brought, heard, all, common}
use Rattle.steps.specs.Steps.{held, values, values_from}
use Rattle.run.specs.Speaking.{bit_of, work_of, bits_of, works_of, settled, against}
use Rattle.steps.proofs.Eight.{values_at, values_long}
use Rattle.steps.proofs.Same.{message_small}

settled_cons : (x : ℕ) (xs : List ℕ) → x < 3 → common (x ∷ xs) ≡ settled (against 0 (x ∷ xs)) (against 1 (x ∷ xs))
unfolding common settled against all
settled_cons zero xs h = cases (all 0 xs) (λ e. rw e refl) (λ e. rw e refl)
settled_cons (suc zero) xs h = cases (all 1 xs) (λ e. rw e refl) (λ e. rw e refl)
settled_cons (suc (suc zero)) xs h = cases (all 2 xs) (λ e. rw e refl) (λ e. rw e refl)
settled_cons (suc (suc (suc x))) xs h = absurd (omega arith)

pub common_settled : (l : List ℕ) → Each (λ x. x < 3) l → common l ≡ settled (against 0 l) (against 1 l)
unfolding common settled against all
common_settled [] s = refl
common_settled (x ∷ xs) s = settled_cons x xs (s x (Memᴰ.head refl))

pub heard_small : (X : ℕ) (table : List ℕ) (k : ℕ) (h : ℕ → ℕ) → ((i : ℕ) → h i < 3) → (cs : List Carriage) (r : ℕ) → Each (λ x. x < 3) (heard X table k h cs r)
unfolding heard brought
heard_small X table k h s [] r = λ x m. elim m [ ]
heard_small X table k h s (c ∷ cs) r =
    let ih = heard_small X table (suc k) h s cs r in
    let b : brought X table k h c < 3 = by_cond (λ (x : ℕ). x < 3) (hit X c.before) (message table k) (h (get_or c.before 0 0)) (λ e. message_small table k) (λ e. s (get_or c.before 0 0)) in
    by_cond (λ (l : List ℕ). Each (λ x. x < 3) l) (eqb c.receiver r) (brought X table k h c ∷ heard X table (suc k) h cs r) (heard X table (suc k) h cs r)
    (λ e. each_cons (λ x. x < 3) (brought X table k h c) (heard X table (suc k) h cs r) b ih)
    (λ e. ih)

values_small : (g : ℕ → ℕ) → ((i : ℕ) → g i < 3) → (i : ℕ) → held (values g) i < 3
unfolding values
values_small g s i =
    cases (ltb i 8)
    (λ e. subst (λ (x : ℕ). x < 3) (sym (values_at g i (ltb-true i 8 e))) (s i))
    (λ e. let long = values_long 8 0 g in let z = ltb-false i 8 e in rw (get_or-eq_default (values_from 8 0 g) 0 {n = i} (omega arith)) (omega arith))

bit_small : (ones i : ℕ) → bit_of ones i < 3
unfolding bit_of
bit_small ones i = by_cond (λ (x : ℕ). x < 3) (has ones i) 1 0 (λ e. omega arith) (λ e. omega arith)

work_small : (sure ones i : ℕ) → work_of sure ones i < 3
unfolding work_of
work_small sure ones i = by_cond (λ (x : ℕ). x < 3) (has sure i) (bit_of ones i) 2 (λ e. bit_small ones i) (λ e. omega arith)

pub bits_small : (ones i : ℕ) → held (bits_of ones) i < 3
bits_small ones = values_small (bit_of ones) (bit_small ones)

pub works_small : (sure ones i : ℕ) → held (works_of sure ones) i < 3
works_small sure ones = values_small (work_of sure ones) (work_small sure ones)
