-- What reaches a server over a turn is what it hears in the run. All that a source gives in one kind is one value, repeated, so that of its row nothing
-- counts but that a value is left for each of its later carriages: `delivered_heard` goes by induction on the carriages, and `used_given` keeps this.
--     given_first      a source gives its value for its first carriage
--     used_given       and one for each later carriage after that; given_long: it gives at most one for each carriage
--     received_cons    a byte in front moves the later ones by one place
--     message_given    what a sound way brings is what the source gave
--     heard_sources    what is heard depends on what the sources hold
--     received_to and the five after it: what one carriage adds, to the server or past it
--     delivered_heard  each arrival, as the server reads it, is what the run brings
-- Assumes nothing.
use mathlib.Core.Path.{◌≡◌, refl, sym, ap, ap₂, ◌∙◌}
use mathlib.Core.Bool.{cond, true, false}
use mathlib.Core.List.Memᴰ
use mathlib.Core.List.{List, [], ◌∷◌}
use Prim.Native.Nat.{ℕ, suc, ◌≤◌, ◌<◌}
use native.Mathlib.Omega.{arith}
use lib.Dec.{eqb, ltb}
use lib.ListN.{length, get_or}
use borrow.Author.Tests.{eq-eqb, ltb-false}
use Rattle.facts.specs.Lists.{Each}
use Rattle.facts.proofs.Bools.{cases, by_cond}
use Rattle.rules.specs.Blocks.{Carriage}
use Rattle.steps.specs.Hearing.{hit, silence, read, message, brought, heard}
use Rattle.part.specs.Own.{source, given, received}
use Rattle.part.specs.Beside.{used, delivered}

-- what a source gives

given_first : (x : ℕ) (c : Carriage) (cs : List Carriage) → get_or (given x (source c) (c ∷ cs)) 0 silence ≡ x
unfolding given
given_first x c cs = let e = eq-eqb (source c) (source c) refl in rw e refl

used_given : (x : ℕ → ℕ) (gave : ℕ → List ℕ) (c : Carriage) (cs : List Carriage) (j : ℕ) → gave j ≡ given (x j) j (c ∷ cs)
    → used (source c) gave j ≡ given (x j) j cs
unfolding given
used_given x gave c cs j e =
    cases (eqb (source c) j)
    (λ q. rw q (rw e (rw q refl)))
    (λ q. rw q (rw e (rw q refl)))

pub given_long : (x i : ℕ) (cs : List Carriage) → length (given x i cs) ≤ length cs
unfolding given
given_long x i [] = omega arith
given_long x i (c ∷ cs) =
    let ih = given_long x i cs in
    by_cond (λ (l : List ℕ). length l ≤ suc (length cs)) (eqb (source c) i) _ _ (λ e. omega arith) (λ e. omega arith)

-- what a server reads

received_cons : (y : ℕ) (arrived : List ℕ) (j i : ℕ) (cs : List Carriage) → received (y ∷ arrived) (suc j) i cs ≡ received arrived j i cs
unfolding received message
received_cons y arrived j i [] = refl
received_cons y arrived j i (c ∷ cs) =
    let here = received_cons y arrived (suc j) i cs in
    let past = received_cons y arrived j i cs in
    cases (eqb c.receiver i) (λ e. rw (e, here) refl) (λ e. rw e past)

-- 0, 1 and 2 are read as they are
as_it_is : (x : ℕ) → x < 3 → read x ≡ x
unfolding read
as_it_is x h = cases (ltb x 2) (λ e. rw e refl) (λ e. let l = ltb-false x 2 e in let two : x ≡ 2 = omega arith in rw two refl)

-- the first byte of what arrives, as the server reads it
message_given : (X : ℕ) (table : List ℕ) (k : ℕ) (x : ℕ → ℕ) (c : Carriage) (y : ℕ) (rest : List ℕ) → x (source c) < 3 → y ≡ x (source c)
    → message (cond (hit X c.before) (get_or table k silence) y ∷ rest) 0 ≡ brought X table k x c
unfolding message brought
message_given X table k x c y rest small e =
    let is = as_it_is (x (source c)) small in
    cases (hit X c.before) (λ q. rw q refl) (λ q. rw q (rw e is))

pub heard_sources : (X : ℕ) (table : List ℕ) (k : ℕ) (x y : ℕ → ℕ) (cs : List Carriage) (r : ℕ) → Each (λ c. x (source c) ≡ y (source c)) cs
    → heard X table k x cs r ≡ heard X table k y cs r
unfolding heard brought
heard_sources X table k x y [] r h = refl
heard_sources X table k x y (c ∷ cs) r h =
    let ih = heard_sources X table (suc k) x y cs r (λ d m. h d (Memᴰ.tail m)) in
    let e = h c (Memᴰ.head refl) in
    cases (eqb c.receiver r) (λ q. cc) (λ q. cc)

-- one carriage, to the server or past it

received_to : (a : List ℕ) (j r : ℕ) (c : Carriage) (cs : List Carriage) → eqb c.receiver r ≡ true
    → received a j r (c ∷ cs) ≡ message a j ∷ received a (suc j) r cs
unfolding received
received_to a j r c cs q = rw q refl

received_past : (a : List ℕ) (j r : ℕ) (c : Carriage) (cs : List Carriage) → eqb c.receiver r ≡ false → received a j r (c ∷ cs) ≡ received a j r cs
unfolding received
received_past a j r c cs q = rw q refl

delivered_to : (X : ℕ) (table : List ℕ) (k : ℕ) (gave : ℕ → List ℕ) (c : Carriage) (cs : List Carriage) (r : ℕ) → eqb c.receiver r ≡ true
    → delivered X table k gave (c ∷ cs) r
    ≡ cond (hit X c.before) (get_or table k silence) (get_or (gave (source c)) 0 silence) ∷ delivered X table (suc k) (used (source c) gave) cs r
unfolding delivered
delivered_to X table k gave c cs r q = rw q refl

delivered_past : (X : ℕ) (table : List ℕ) (k : ℕ) (gave : ℕ → List ℕ) (c : Carriage) (cs : List Carriage) (r : ℕ) → eqb c.receiver r ≡ false
    → delivered X table k gave (c ∷ cs) r ≡ delivered X table (suc k) (used (source c) gave) cs r
unfolding delivered
delivered_past X table k gave c cs r q = rw q refl

heard_to : (X : ℕ) (table : List ℕ) (k : ℕ) (x : ℕ → ℕ) (c : Carriage) (cs : List Carriage) (r : ℕ) → eqb c.receiver r ≡ true
    → heard X table k x (c ∷ cs) r ≡ brought X table k x c ∷ heard X table (suc k) x cs r
unfolding heard
heard_to X table k x c cs r q = rw q refl

heard_past : (X : ℕ) (table : List ℕ) (k : ℕ) (x : ℕ → ℕ) (c : Carriage) (cs : List Carriage) (r : ℕ) → eqb c.receiver r ≡ false
    → heard X table k x (c ∷ cs) r ≡ heard X table (suc k) x cs r
unfolding heard
heard_past X table k x c cs r q = rw q refl

-- the servers below n give x, each on its carriages, and every source is below n
module _ (n X : ℕ) (table : List ℕ) (x : ℕ → ℕ) (small : (j : ℕ) → j < n → x j < 3) where
  pub delivered_heard : (cs : List Carriage) → Each (λ c. source c < n) cs → (k : ℕ) (gave : ℕ → List ℕ) → ((j : ℕ) → j < n → gave j ≡ given (x j) j cs)
      → (r : ℕ) → received (delivered X table k gave cs r) 0 r cs ≡ heard X table k x cs r
  unfolding received delivered heard
  delivered_heard [] below k gave e r = refl
  delivered_heard (c ∷ cs) below k gave e r =
      let l = below c (Memᴰ.head refl) in
      let ih = delivered_heard cs (λ d m. below d (Memᴰ.tail m)) (suc k) (used (source c) gave) (λ j h. used_given x gave c cs j (e j h)) r in
      let later = delivered X table (suc k) (used (source c) gave) cs r in
      let y = get_or (gave (source c)) 0 silence in
      let own : y ≡ x (source c) = ap (λ (row : List ℕ). get_or row 0 silence) (e (source c) l) ∙ given_first (x (source c)) c cs in
      let first = message_given X table k x c y later (small (source c) l) own in
      let rest = received_cons (cond (hit X c.before) (get_or table k silence) y) later 0 r cs ∙ ih in
      cases (eqb c.receiver r)
      (λ q. received_to (delivered X table k gave (c ∷ cs) r) 0 r c cs q
      ∙ (ap (λ (a : List ℕ). message a 0 ∷ received a 1 r cs) (delivered_to X table k gave c cs r q)
      ∙ (ap₂ (λ (z : ℕ) (zs : List ℕ). z ∷ zs) first rest ∙ sym (heard_to X table k x c cs r q))))
      (λ q. received_past (delivered X table k gave (c ∷ cs) r) 0 r c cs q
      ∙ (ap (λ (a : List ℕ). received a 0 r cs) (delivered_past X table k gave c cs r q) ∙ (ih ∙ sym (heard_past X table k x c cs r q))))
