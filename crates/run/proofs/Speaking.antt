-- What arrivals speak against, as lists and as the code's sets.
--     adds_none     nothing is heard: what is held stays
--     adds_then     first some arrivals, then others
--     adds_speaks   beside nothing: what is heard alone
--     adds_one      one arrival more
--     speaks-..     both sets as one number, and back
-- Assumes nothing.
use mathlib.Core.Path.{◌≡◌, refl, sym, ap, ◌∙◌}
use mathlib.Core.Bool.{Bool, true, false, cond, not, ◌&&◌, ◌||◌}
use mathlib.Core.List.{List, [], ◌∷◌, ◌++◌}
use Prim.Native.Nat.{ℕ, ◌+◌, ◌*◌, ◌/◌, ◌%◌, ◌<◌}
use native.Mathlib.Omega.{arith}
use lib.Dec.{eqb}
use borrow.Author.Tests.{lt-ltb}
use Rattle.facts.proofs.Bools.{cases}
use Rattle.sets.specs.Sets.{has, single, union}
use Rattle.sets.proofs.Members.{has_union, has_single, has_empty}
use Rattle.steps.specs.Hearing.{all}
use Rattle.run.specs.Speaking.{Adds, Speaks, against}
use Rattle.run.specs.declared.hearing.Against.{Against}

or_assoc : (a b c : Bool) → ((a || b) || c) ≡ (a || (b || c))
or_assoc true b c = refl
or_assoc false b c = refl

or_none : (a : Bool) → a ≡ (a || false)
or_none true = refl
or_none false = refl

against_append : (x : ℕ) (l m : List ℕ) → against x (l ++ m) ≡ (against x l || against x m)
unfolding against all
against_append x [] m = refl
against_append x (y ∷ l) m =
    let ih = against_append x l m in
    cases (eqb y x) (λ e. rw e ih) (λ e. rw e refl)

pub adds_none : (a : Against) (hears : ℕ → List ℕ) → ((i : ℕ) → hears i ≡ []) → Adds a hears a
unfolding against all
adds_none a hears e = record { zero = λ i. rw (e i) (or_none (has a.zero i)); one = λ i. rw (e i) (or_none (has a.one i)) }

-- the same for either value
then : (x s s' s'' : ℕ) (l m w : List ℕ) (i : ℕ) → has s' i ≡ (has s i || against x l) → has s'' i ≡ (has s' i || against x m) → w ≡ l ++ m
    → has s'' i ≡ (has s i || against x w)
then x s s' s'' l m w i p q e = rw (e, against_append x l m, q, p) (or_assoc (has s i) (against x l) (against x m))

pub adds_then : (a b c : Against) (h k w : ℕ → List ℕ) → Adds a h b → Adds b k c → ((i : ℕ) → w i ≡ h i ++ k i) → Adds a w c
adds_then a b c h k w p q e = record {
  zero = λ i. then 0 a.zero b.zero c.zero (h i) (k i) (w i) i (p.zero i) (q.zero i) (e i);
  one = λ i. then 1 a.one b.one c.one (h i) (k i) (w i) i (p.one i) (q.one i) (e i);
}

pub adds_speaks : (hears : ℕ → List ℕ) (b : Against) → Adds (record { zero = 0; one = 0 }) hears b → Speaks hears b
adds_speaks hears b p = record {
  zero = λ i. p.zero i ∙ ap (λ (z : Bool). z || against 0 (hears i)) (has_empty i);
  one = λ i. p.one i ∙ ap (λ (z : Bool). z || against 1 (hears i)) (has_empty i);
}

-- one arrival at server r, the same for either value x
against_one : (x y : ℕ) (b : Bool) → against x (cond b (y ∷ []) []) ≡ (b && not (eqb y x))
unfolding against all
against_one x y true = cases (eqb y x) (λ e. rw e refl) (λ e. rw e refl)
against_one x y false = refl

part_has : (x y r here : ℕ) → r < 8 → here ≡ single r → (i : ℕ) → has (cond (eqb y x) 0 here) i ≡ (eqb r i && not (eqb y x))
part_has x y r here l p i =
    let t = lt-ltb r 8 l in
    let v : has here i ≡ eqb r i = rw p (has_single r i ∙ ap (λ (z : Bool). z && eqb r i) t) in
    cases (eqb y x)
    (λ e. rw (e, has_empty i) (cases (eqb r i) (λ b. rw b refl) (λ b. rw b refl)))
    (λ e. rw (e, v) (cases (eqb r i) (λ b. rw b refl) (λ b. rw b refl)))

one_more : (x s r y here part s' : ℕ) → r < 8 → here ≡ single r → part ≡ cond (eqb y x) 0 here → s' ≡ union s part
    → (i : ℕ) → has s' i ≡ (has s i || against x (cond (eqb r i) (y ∷ []) []))
one_more x s r y here part s' l p q e i =
    ap (λ (z : ℕ). has z i) e
    ∙ has_union s part i
    ∙ ap (λ (z : Bool). has s i || z) (ap (λ (z : ℕ). has z i) q ∙ part_has x y r here l p i ∙ sym (against_one x y (eqb r i)))

pub adds_one : (a : Against) (r y : ℕ) → r < 8 → (here : ℕ) → here ≡ single r
    → (z o : ℕ) → z ≡ cond (eqb y 0) 0 here → o ≡ cond (eqb y 1) 0 here
    → (b : Against) → b.zero ≡ union a.zero z → b.one ≡ union a.one o
    → Adds a (λ (i : ℕ). cond (eqb r i) (y ∷ []) []) b
adds_one a r y l here h z o p q b e f = record {
  zero = one_more 0 a.zero r y here z b.zero l h p e;
  one = one_more 1 a.one r y here o b.one l h q f;
}

-- both sets as one number
pub speaks_packed : (hears : ℕ → List ℕ) (z o : ℕ) → z < 256 → Speaks hears (record { zero = z; one = o })
    → Speaks hears (record { zero = (o * 256 + z) % 256; one = (o * 256 + z) / 256 })
speaks_packed hears z o l p =
    let low : (o * 256 + z) % 256 ≡ z = omega arith in
    let high : (o * 256 + z) / 256 ≡ o = omega arith in
    record { zero = λ i. rw low (p.zero i); one = λ i. rw high (p.one i) }

pub speaks_unpacked : (hears : ℕ → List ℕ) (sets : ℕ) → Speaks hears (record { zero = sets % 256; one = sets / 256 })
    → (a : Against) → a.zero ≡ sets % 256 → a.one ≡ sets / 256 → Speaks hears a
speaks_unpacked hears sets p a z o = record { zero = λ i. ap (λ (s : ℕ). has s i) z ∙ p.zero i; one = λ i. ap (λ (s : ℕ). has s i) o ∙ p.one i }
