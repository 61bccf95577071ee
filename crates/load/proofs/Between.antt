-- How often a server stands between source and receiver of a route: once if it relays the route, else never.
--     between_relays   the operand of a proper route tells its relays
--     between_sum      over the eight servers that makes the route's servers less two
--     between_beyond   no server from n on
--     between_few      no byte stands more often than there are bytes
-- Assumes nothing.
use mathlib.Core.Path.{◌≡◌, refl, sym, ◌∙◌}
use mathlib.Core.Bool.{false, cond, not, ◌&&◌, and-true}
use mathlib.Core.List.{List, [], ◌∷◌, ◌++◌}
use Prim.Native.Nat.{ℕ, zero, suc, ◌+◌, ◌-◌, ◌≤◌, ◌<◌}
use native.Mathlib.Nat.{zero-add}
use native.Mathlib.Omega.{arith}
use lib.Dec.{eqb}
use lib.ListN.{length, get_or, drop, replicate}
use borrow.Author.Tests.{lt-ltb, ne_eqb, eqb-true}
use Rattle.facts.proofs.Bools.{cases}
use Rattle.sets.specs.Sets.{has, single}
use Rattle.sets.proofs.Members.{has_union, has_minus, has_single, has_empty}
use Rattle.route.specs.Route.{servers_of}
use Rattle.rules.specs.Blocks.{Route, operand}
use Rattle.load.specs.Load.{relays_of}
use Rattle.load.specs.Tally.{between}
use Rattle.load.proofs.Proper.{Proper}
use Rattle.load.proofs.Sums.{sum_from, sum_same, sum_none, sum_plus, sum_one}

-- servers below n, none twice

abbrev Low : ℕ → List ℕ → Type 0
Low n q = (j : ℕ) → j < length q → get_or q j 0 < n

abbrev Once : List ℕ → Type 0
Once q = (j k : ℕ) → j < k → k < length q → get_or q j 0 ≡ get_or q k 0 → ⊥

low_tail : (n b : ℕ) (bs : List ℕ) → Low n (b ∷ bs) → Low n bs
low_tail n b bs low j h = low (suc j) (omega arith)

once_tail : (b : ℕ) (bs : List ℕ) → Once (b ∷ bs) → Once bs
once_tail b bs once j k h l e = once (suc j) (suc k) (omega arith) (omega arith) e

-- the set of servers

single_is : (b i : ℕ) → b < 8 → has (single b) i ≡ eqb b i
single_is b i h = has_single b i ∙ simp (lt-ltb b 8 h)

absent : (q : List ℕ) (x : ℕ) → Low 8 q → ((j : ℕ) → j < length q → get_or q j 0 ≡ x → ⊥) → has (servers_of q) x ≡ false
unfolding servers_of
absent [] x low out = has_empty x
absent (b ∷ bs) x low out =
    let u = has_union (single b) (servers_of bs) x in
    let s = single_is b x (low 0 (omega arith)) in
    let e = ne_eqb b x (out 0 (omega arith)) in
    let ih = absent bs x (low_tail 8 b bs low) (λ j h. out (suc j) (omega arith)) in
    cc

-- the bytes from one on, up to the last before the fill

-- the last has the fill next, or nothing
last_none : (i d m : ℕ) → between i (d ∷ replicate m 255) ≡ 0
unfolding between
last_none i d zero = refl
last_none i d (suc m) = refl

module _ (i m : ℕ) where
  between_more : (b c : ℕ) (cs : List ℕ) → c < 8 → between i (b ∷ c ∷ (cs ++ replicate m 255)) ≡ cond (eqb b i) 1 0 + between i (c ∷ (cs ++ replicate m 255))
  unfolding between
  between_more b c cs h = simp (ne_eqb c 255 (λ e. omega arith))

  stood : (b : ℕ) (bs : List ℕ) → Low 8 (b ∷ bs) → Once (b ∷ bs)
      → between i (b ∷ (bs ++ replicate m 255)) ≡ cond (has (servers_of (b ∷ bs)) i && not (eqb (get_or (b ∷ bs) (length bs) 0) i)) 1 0
  unfolding servers_of
  stood b [] low once =
      let z = last_none i b m in
      let u = has_union (single b) 0 i in
      let s = single_is b i (low 0 (omega arith)) in
      let n = has_empty i in
      cases (eqb b i) (λ e. cc) (λ e. cc)
  stood b (c ∷ cs) low once =
      let next = between_more b c cs (low 1 (omega arith)) in
      let ih = stood c cs (low_tail 8 b (c ∷ cs) low) (once_tail b (c ∷ cs) once) in
      let u = has_union (single b) (servers_of (c ∷ cs)) i in
      let s = single_is b i (low 0 (omega arith)) in
      cases (eqb b i)
      (λ e. let q = eqb-true b i e in
      let a = absent (c ∷ cs) i (low_tail 8 b (c ∷ cs) low) (λ j h g. once 0 (suc j) (omega arith) (omega arith) (q ∙ sym g)) in
      let d = ne_eqb (get_or (c ∷ cs) (length cs) 0) i (λ g. once 0 (suc (length cs)) (omega arith) (omega arith) (q ∙ sym g)) in
      next ∙ rw (u, s, e, ih, a, d) refl)
      (λ e. next ∙ rw (u, s, e, ih) (zero-add _))

-- a route by its operand
module _ (n : ℕ) (few : n ≤ 8) where
  low_eight : (q : List ℕ) → Low n q → Low 8 q
  low_eight q low j h = let l = low j h in omega arith

  pub between_relays : (i : ℕ) (p : Route) → Proper n p → between i (drop 1 (operand p)) ≡ cond (has (relays_of p) i) 1 0
  unfolding operand relays_of servers_of
  between_relays i [] g = absurd (let t = g.two in omega arith)
  between_relays i (s ∷ []) g = absurd (let t = g.two in omega arith)
  between_relays i (s ∷ b ∷ bs) g =
      let low = low_eight (s ∷ b ∷ bs) g.servers in
      let d = get_or (b ∷ bs) (length bs) 0 in
      let z : length (s ∷ b ∷ bs) - 1 ≡ suc (length bs) = omega arith in
      let stands = stood i (8 - length (s ∷ b ∷ bs)) b bs (low_tail 8 s (b ∷ bs) low) (once_tail s (b ∷ bs) g.once) in
      let source = single_is s i (low 0 (omega arith)) in
      let last = single_is d i (low (suc (length bs)) (omega arith)) in
      cases (eqb s i)
      (λ e. let q = eqb-true s i e in
      let a = absent (b ∷ bs) i (low_tail 8 s (b ∷ bs) low) (λ j h t. g.once 0 (suc j) (omega arith) (omega arith) (q ∙ sym t)) in
      stands ∙ simp (z, has_minus, has_union (single s), source, last, e, a))
      (λ e. stands ∙ simp (z, has_minus, has_union (single s), source, last, e, and-true))

  sum_stood : (m b : ℕ) (bs : List ℕ) → Low 8 (b ∷ bs) → sum_from 8 0 (λ i. between i (b ∷ (bs ++ replicate m 255))) ≡ length bs
  sum_stood m b [] low = sum_same 8 0 _ (λ i. 0) (λ i h. last_none i b m) ∙ sum_none 8 0
  sum_stood m b (c ∷ cs) low =
      let on : ℕ → ℕ = λ i. between i (c ∷ (cs ++ replicate m 255)) in
      let here : ℕ → ℕ = λ i. cond (eqb b i) 1 0 in
      let more = sum_same 8 0 (λ i. between i (b ∷ c ∷ (cs ++ replicate m 255))) (λ i. here i + on i) (λ i h. between_more i m b c cs (low 1 (omega arith))) in
      let plus = sum_plus 8 0 here on in
      let one = sum_one 8 0 b (omega arith) (low 0 (omega arith)) in
      let ih = sum_stood m c cs (low_tail 8 b (c ∷ cs) low) in
      omega arith

  pub between_sum : (p : Route) → Proper n p → sum_from 8 0 (λ i. between i (drop 1 (operand p))) ≡ length p - 2
  unfolding operand
  between_sum [] g = absurd (let t = g.two in omega arith)
  between_sum (s ∷ []) g = absurd (let t = g.two in omega arith)
  between_sum (s ∷ b ∷ bs) g =
      let total = sum_stood (8 - length (s ∷ b ∷ bs)) b bs (low_tail 8 s (b ∷ bs) (low_eight (s ∷ b ∷ bs) g.servers)) in
      omega arith

  beyond : (i m b : ℕ) (bs : List ℕ) → n ≤ i → Low n (b ∷ bs) → between i (b ∷ (bs ++ replicate m 255)) ≡ 0
  beyond i m b [] h low = last_none i b m
  beyond i m b (c ∷ cs) h low =
      let l = low 0 (omega arith) in
      let k = low 1 (omega arith) in
      let e = ne_eqb b i (λ q. omega arith) in
      between_more i m b c cs (omega arith) ∙ rw (e, beyond i m c cs h (low_tail n b (c ∷ cs) low)) refl

  pub between_beyond : (i : ℕ) (p : Route) → n ≤ i → Proper n p → between i (drop 1 (operand p)) ≡ 0
  unfolding operand
  between_beyond i [] h g = absurd (let t = g.two in omega arith)
  between_beyond i (s ∷ []) h g = absurd (let t = g.two in omega arith)
  between_beyond i (s ∷ b ∷ bs) h g = beyond i (8 - length (s ∷ b ∷ bs)) b bs h (low_tail n s (b ∷ bs) g.servers)

pub between_few : (i : ℕ) (l : List ℕ) → between i l ≤ length l
unfolding between
between_few i [] = omega arith
between_few i (b ∷ []) = omega arith
between_few i (b ∷ c ∷ bs) =
    let ih = between_few i (c ∷ bs) in
    cases (eqb c 0xff) (λ e. rw e (omega arith)) (λ e. cases (eqb b i) (λ q. rw (e, q) (omega arith)) (λ q. rw (e, q) (omega arith)))
