-- What the changes of a flow change: one server or one step at a time, in tests and in numbers.
--     count_put, count_drop      one member more, or one less, is one more or one less in the count
--     has_put, has_drop          a set with one server more, and with one less; one_put and one_drop in numbers, count_start in its size
--     step_put, step_drop        the steps with one more, and with one less; step_long, unstep_long: eight rows as before
--     into_put, into_drop        how many steps lead to a server then; from_put and from_drop, how many lead from it
-- Each equation names the server or the step by a test for equality, so that sums of them are closed by arithmetic. Assumes nothing.
use mathlib.Core.Path.{◌≡◌, refl, sym, ap, ◌∙◌}
use mathlib.Core.Bool.{Bool, true, false, cond, not, ◌&&◌, ◌||◌}
use Prim.Native.Nat.{ℕ, ◌+◌, ◌<◌}
use native.Mathlib.Omega.{arith}
use lib.Dec.{eqb}
use lib.ListN.{length, get_or, set, length-set}
use lib.Seq.{get_or-set_same, get_or-set_other}
use borrow.Author.Tests.{eqb-true, eqb-false, eq-eqb, ne_eqb, lt-ltb}
use Rattle.facts.proofs.Bools.{cases}
use Rattle.sets.specs.Sets.{Set, In, Out, has, single, union, minus, count}
use Rattle.sets.proofs.Members.{has_union, has_minus, has_single}
use Rattle.sets.proofs.Counts.{count_same, count_without, without}
use Rattle.flow.specs.declared.Flow.{Flow}
use Rattle.flow.specs.Search.{out_in, with_step, without_step}
use Rattle.flow.proofs.Kept.{one, nowhere}

-- tests and counts

pub eqb_self : (x : ℕ) → eqb x x ≡ true
eqb_self x = eq-eqb x x refl

pub eqb_swap : (x y : ℕ) → eqb x y ≡ eqb y x
eqb_swap x y =
    cases (eqb x y)
    (λ e. let s = eq-eqb y x (sym (eqb-true x y e)) in cc)
    (λ e. let s = ne_eqb y x (λ q. eqb-false x y e (sym q)) in cc)

-- q is p less x, which is in p
pub count_drop : (n x : ℕ) (p q : Set) → x < n → In p x → ((i : ℕ) → i < n → q i ≡ (not (eqb x i) && p i)) → count n q + 1 ≡ count n p
count_drop n x p q k e h =
    let c = count_without n x p k e in
    let s = count_same n q (without x p) (λ i l. h i l ∙ ap (λ (b : Bool). not b && p i) (eqb_swap x i)) in
    omega arith

-- q is p and x, which is not in p
pub count_put : (n x : ℕ) (p q : Set) → x < n → Out p x → ((i : ℕ) → i < n → q i ≡ (eqb x i || p i)) → count n q ≡ count n p + 1
count_put n x p q k e h =
    let s = eqb_self x in
    let a = h x k in
    sym (count_drop n x q p k (cc) (λ i l. rest i (h i l)))
  where
    rest : (i : ℕ) → q i ≡ (eqb x i || p i) → p i ≡ (not (eqb x i) && q i)
    rest i b =
        cases (eqb x i)
        (λ t. let z = eqb-true x i t in let o : p i ≡ false = rw (← z) e in cc)
        (λ t. cc)

pub one_nowhere : (x : ℕ) → one (nowhere x) ≡ 0
unfolding one nowhere
one_nowhere x = refl

pub one_true : (b : Bool) → b ≡ true → one b ≡ 1
unfolding one
one_true b e = cc

pub one_false : (b : Bool) → b ≡ false → one b ≡ 0
unfolding one
one_false b e = cc

pub one_most : (b : Bool) → one b < 2
unfolding one
one_most true = omega arith
one_most false = omega arith

-- what counts as one is so
pub one_is : (b : Bool) → 0 < one b → b ≡ true
unfolding one
one_is true h = refl
one_is false h = absurd (omega arith)

-- the same where b holds; else nothing changes

count_put_if : (n x : ℕ) (b : Bool) (p q : Set) → x < n → (b ≡ true → Out p x) → ((i : ℕ) → i < n → q i ≡ (eqb x i && b || p i)) → count n q ≡ count n p + one b
unfolding one
count_put_if n x true p q k o h = count_put n x p q k (o refl) (λ i l. let a = h i l in cases (eqb x i) (λ e. cc) (λ e. cc))
count_put_if n x false p q k o h = let s = count_same n q p (λ i l. let a = h i l in cases (eqb x i) (λ e. cc) (λ e. cc)) in omega arith

count_drop_if : (n x : ℕ) (b : Bool) (p q : Set) → x < n → (b ≡ true → In p x) → ((i : ℕ) → i < n → q i ≡ (not (eqb x i && b) && p i)) → count n q + one b ≡ count n p
unfolding one
count_drop_if n x true p q k o h = count_drop n x p q k (o refl) (λ i l. let a = h i l in cases (eqb x i) (λ e. cc) (λ e. cc))
count_drop_if n x false p q k o h = let s = count_same n q p (λ i l. let a = h i l in cases (eqb x i) (λ e. cc) (λ e. cc)) in omega arith

and_swap : (a b : Bool) → a && b ≡ b && a
and_swap true true = refl
and_swap true false = refl
and_swap false true = refl
and_swap false false = refl

-- a set with one server more

pub has_put : (s x y : ℕ) → x < 8 → has (union s (single x)) y ≡ (eqb x y || has s y)
has_put s x y k =
    let a = has_union s (single x) y in
    let b = has_single x y in
    let c = lt-ltb x 8 k in
    cases (has s y) (λ e. cases (eqb x y) (λ f. cc) (λ f. cc)) (λ e. cases (eqb x y) (λ f. cc) (λ f. cc))

pub has_drop : (s x y : ℕ) → x < 8 → has (minus s (single x)) y ≡ (not (eqb x y) && has s y)
has_drop s x y k =
    let a = has_minus s (single x) y in
    let b = has_single x y in
    let c = lt-ltb x 8 k in
    cases (has s y) (λ e. cases (eqb x y) (λ f. cc) (λ f. cc)) (λ e. cases (eqb x y) (λ f. cc) (λ f. cc))

-- the numbers of a test q that is p and x
put_number : (x y : ℕ) (p q : Set) → Out p x → q y ≡ (eqb x y || p y) → one (q y) ≡ one (p y) + one (eqb x y)
unfolding one
put_number x y p q o e =
    cases (eqb x y)
    (λ f. let z = eqb-true x y f in let g : p y ≡ false = rw (← z) o in rw (e, f, g) refl)
    (λ f. rw (e, f) (omega arith))

drop_number : (x y : ℕ) (p q : Set) → In p x → q y ≡ (not (eqb x y) && p y) → one (q y) + one (eqb x y) ≡ one (p y)
unfolding one
drop_number x y p q o e =
    cases (eqb x y)
    (λ f. let z = eqb-true x y f in let g : p y ≡ true = rw (← z) o in rw (e, f, g) refl)
    (λ f. rw (e, f) (omega arith))

pub one_put : (s x y : ℕ) → x < 8 → Out (has s) x → one (has (union s (single x)) y) ≡ one (has s y) + one (eqb x y)
one_put s x y k o = put_number x y (has s) (has (union s (single x))) o (has_put s x y k)

pub one_drop : (s x y : ℕ) → x < 8 → In (has s) x → one (has (minus s (single x)) y) + one (eqb x y) ≡ one (has s y)
one_drop s x y k o = drop_number x y (has s) (has (minus s (single x))) o (has_drop s x y k)

pub count_start : (s x : ℕ) → x < 8 → Out (has s) x → count 8 (has (union s (single x))) ≡ count 8 (has s) + 1
count_start s x k o = count_put 8 x (has s) (has (union s (single x))) k o (λ i l. has_put s x i k)

-- steps

pub step_long : (x y : ℕ) (φ : Flow) → length φ.out ≡ 8 → length (with_step x y φ).out ≡ 8
unfolding with_step
step_long x y φ h = length-set φ.out x _ ∙ h

pub unstep_long : (x y : ℕ) (φ : Flow) → length φ.out ≡ 8 → length (without_step x y φ).out ≡ 8
unfolding without_step
unstep_long x y φ h = length-set φ.out x _ ∙ h

module _ (x y : ℕ) (k : x < 8) (l : y < 8) (φ : Flow) (long : length φ.out ≡ 8) where
  -- a row that is set anew
  row_set : (s p : ℕ) → get_or (set φ.out x s) p 0 ≡ cond (eqb x p) s (get_or φ.out p 0)
  row_set s p =
      cases (eqb x p)
      (λ e. let z = eqb-true x p e in rw (e, ← z) (get_or-set_same φ.out x s 0 (omega arith)))
      (λ e. rw e (get_or-set_other φ.out x p s 0 (λ q. eqb-false x p e (sym q))))

  pub step_put : (p z : ℕ) → out_in (with_step x y φ) p z ≡ (eqb x p && eqb y z || out_in φ p z)
  unfolding out_in with_step
  step_put p z =
      let s = union (get_or φ.out x 0) (single y) in
      let a = row_set s p in
      let b = has_put (get_or φ.out x 0) y z l in
      cases (eqb x p)
      (λ e. let q = eqb-true x p e in let r : get_or φ.out x 0 ≡ get_or φ.out p 0 = rw q refl in cc)
      (λ e. cc)

  pub step_drop : (p z : ℕ) → out_in (without_step x y φ) p z ≡ (not (eqb x p && eqb y z) && out_in φ p z)
  unfolding out_in without_step
  step_drop p z =
      let s = minus (get_or φ.out x 0) (single y) in
      let a = row_set s p in
      let b = has_drop (get_or φ.out x 0) y z l in
      cases (eqb x p)
      (λ e. let q = eqb-true x p e in let r : get_or φ.out x 0 ≡ get_or φ.out p 0 = rw q refl in cc)
      (λ e. cc)

  -- the steps to z and the steps from p, where the step from x to y is new
  module _ (new : out_in φ x y ≡ false) where
    pub into_put : (z : ℕ) → count 8 (λ (p : ℕ). out_in (with_step x y φ) p z) ≡ count 8 (λ (p : ℕ). out_in φ p z) + one (eqb y z)
    into_put z =
        count_put_if 8 x (eqb y z) (λ (p : ℕ). out_in φ p z) (λ (p : ℕ). out_in (with_step x y φ) p z) k
        (λ e. let q = eqb-true y z e in rw (← q) new)
        (λ p h. step_put p z)

    pub from_put : (p : ℕ) → count 8 (out_in (with_step x y φ) p) ≡ count 8 (out_in φ p) + one (eqb x p)
    from_put p =
        count_put_if 8 y (eqb x p) (out_in φ p) (out_in (with_step x y φ) p) l
        (λ e. let q = eqb-true x p e in rw (← q) new)
        (λ z h. step_put p z ∙ ap (λ (b : Bool). b || out_in φ p z) (and_swap (eqb x p) (eqb y z)))

  -- where it was there
  module _ (old : out_in φ x y ≡ true) where
    pub into_drop : (z : ℕ) → count 8 (λ (p : ℕ). out_in (without_step x y φ) p z) + one (eqb y z) ≡ count 8 (λ (p : ℕ). out_in φ p z)
    into_drop z =
        count_drop_if 8 x (eqb y z) (λ (p : ℕ). out_in φ p z) (λ (p : ℕ). out_in (without_step x y φ) p z) k
        (λ e. let q = eqb-true y z e in rw (← q) old)
        (λ p h. step_drop p z)

    pub from_drop : (p : ℕ) → count 8 (out_in (without_step x y φ) p) + one (eqb x p) ≡ count 8 (out_in φ p)
    from_drop p =
        count_drop_if 8 y (eqb x p) (out_in φ p) (out_in (without_step x y φ) p) l
        (λ e. let q = eqb-true x p e in rw (← q) old)
        (λ z h. step_drop p z ∙ ap (λ (b : Bool). not b && out_in φ p z) (and_swap (eqb x p) (eqb y z)))
