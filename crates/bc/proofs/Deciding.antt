-- One block of Algorithm BC whose F is the actual faulty set: all sound servers take one bit, or none changes.
--     some_none                    a list with no server of X does not meet X
--     all_below_at, all_below_true   a test of all servers below n, both ways
--     gets                         arrivals that are all x agree on x, for a bit and for ⊥
--     clear                        a path that excludes X brings its source's value
--     spread                       Propagate gives x to a server if all sources hold x
--     equal                        after Equality all of S hold one value, and if it is a bit they held it before
--     last                         after the second Propagate all servers of V − X hold it
--     adopts, stays                after `adopt` the sound servers hold it if it is a bit, else their v is as before
--     outcome                      the sound servers' v after the block
-- Assumes nothing.
use mathlib.Core.Path.{◌≡◌, refl, sym, ap, ◌∙◌}
use mathlib.Core.Bool.{Bool, true, false, cond, not, ◌&&◌, ◌||◌}
use mathlib.Core.List.Memᴰ
use mathlib.Core.List.{List, [], ◌∷◌, map}
use Prim.Native.Nat.{ℕ, zero, suc, ◌<◌}
use native.Mathlib.Omega.{arith}
use lib.Dec.{eqb, ltb}
use borrow.Author.Tests.{ltb-true, eqb-true, eqb-false, eq-eqb, le-ltb, lt-ltb}
use lib.ListN.{length}
use Rattle.sets.specs.Sets.{Set, In, Out}
use Rattle.facts.specs.Lists.{Each}
use Rattle.facts.proofs.Bools.{cases, clash, and_left, and_right}
use Rattle.bc.specs.Algorithm.{Path, on_way, Choice, Values, some, arrives, all_are, agreed, propagate, all_below, equality, adopt, rest, within, case1, case2, step_j, bc_block}
use Rattle.bc.specs.Allowed.{PathOf, Separate, Sound}

pub some_none : (X : Set) (l : List ℕ) → Each (λ s. Out X s) l → some X l ≡ false
unfolding some
some_none X [] h = refl
some_none X (s ∷ ss) h =
    let a = h s (Memᴰ.head refl) in
    let ih = some_none X ss (λ i m. h i (Memᴰ.tail m)) in
    cc

pub all_below_at : (n : ℕ) (p : Set) → all_below n p ≡ true → (i : ℕ) → i < n → p i ≡ true
unfolding all_below
all_below_at zero p h i k = absurd (omega arith)
all_below_at (suc n) p h i k =
    cases (eqb i n)
    (λ e. let z = eqb-true i n e in rw z (and_left (p n) (all_below n p) h))
    (λ e. all_below_at n p (and_right (p n) (all_below n p) h) i (omega (arith, eqb-false i n e)))

pub all_below_true : (n : ℕ) (p : Set) → ((i : ℕ) → i < n → p i ≡ true) → all_below n p ≡ true
unfolding all_below
all_below_true zero p h = refl
all_below_true (suc n) p h =
    let a = h n (omega arith) in
    let ih = all_below_true n p (λ i k. h i (omega arith)) in
    cc

all_are_lem : (X : Set) (w : Values) (x : ℕ) (ps : List Path) → Each (λ p. arrives X w p ≡ x) ps → all_are x (map (arrives X w) ps) ≡ true
unfolding all_are
all_are_lem X w x [] h = refl
all_are_lem X w x (p ∷ ps) h =
    let a = eq-eqb (arrives X w p) x (h p (Memᴰ.head refl)) in
    let ih = all_are_lem X w x ps (λ q m. h q (Memᴰ.tail m)) in
    cc

alike : (X : Set) (w : Values) (x y f : ℕ) (ps : List Path) → length ps ≡ suc f → Each (λ p. arrives X w p ≡ x) ps
    → all_are y (map (arrives X w) ps) ≡ eqb x y
unfolding all_are
alike X w x y f [] k h = absurd (omega arith)
alike X w x y f (p ∷ ps) k h =
    let a = h p (Memᴰ.head refl) in
    cases (eqb x y)
    (λ e. let z = eqb-true x y e in let r = all_are_lem X w x (p ∷ ps) h in cc)
    (λ e. cc)

pub gets : (X : Set) (w : Values) (x f : ℕ) → x < 3 → (ps : List Path) → length ps ≡ suc f → Each (λ p. arrives X w p ≡ x) ps
    → agreed (map (arrives X w) ps) ≡ x
unfolding agreed
gets X w x f small ps k h =
    let a = alike X w x 0 f ps k h in
    let c = alike X w x 1 f ps k h in
    cases (eqb x 0)
    (λ e. let z = eqb-true x 0 e in cc)
    (λ e. cases (eqb x 1)
    (λ q. let z = eqb-true x 1 q in cc)
    (λ q. let z : x ≡ 2 = omega (arith, eqb-false x 0 e, eqb-false x 1 q) in cc))

-- what a block with F = X does to the sound servers' v
pub record Outcome (n : ℕ) (X : Set) (b : Choice) (v : Values) : Type 0 where
  pub value : ℕ
  pub decided : value < 2 → (j : ℕ) → j < n → Out X j → bc_block n X b v j ≡ value
  pub unmoved : (value < 2 → ⊥) → (j : ℕ) → j < n → Out X j → bc_block n X b v j ≡ v j
  pub taken : (x : ℕ) → x < 2 → ((i : ℕ) → i < n → In b.A i → v i ≡ x) → value ≡ x

-- what all of S hold after Equality
pub record Equal (n : ℕ) (X : Set) (b : Choice) (t : Values) : Type 0 where
  pub value : ℕ
  pub small : value < 3
  pub all : (i : ℕ) → In b.S i → equality n X b.S b.between t i ≡ value
  pub before : value < 2 → (i : ℕ) → In b.S i → t i ≡ value
  pub taken : (x : ℕ) → x < 2 → ((i : ℕ) → In b.S i → t i ≡ x) → value ≡ x

module _ (n f : ℕ) (X : Set) (b : Choice) (g : Sound n f b) (theirs : (i : ℕ) → i < n → b.F i ≡ X i) where
  pub clear : (w : Values) (p : Path) → PathOf n b.F p → arrives X w p ≡ w p.source
  unfolding arrives
  clear w p q =
      let a = some_none X (on_way p) (λ s m. sym (theirs s (q.servers s m)) ∙ q.clear s m) in
      cc

  pub spread : (P D : Set) (paths : ℕ → List Path) (t : Values) (x : ℕ) → x < 3 → ((s : ℕ) → s < n → In P s → t s ≡ x)
      → (i : ℕ) → In D i → Separate n f b.F P (paths i) → propagate X D paths t i ≡ x
  unfolding propagate
  spread P D paths t x small h i d q =
      let a = gets X t x f small (paths i) q.enough
      (λ p m. clear t p (q.paths p m) ∙ h p.source ((q.paths p m).servers p.source (Memᴰ.head refl)) (q.start p m)) in
      cc

  module _ (t : Values) where
    keeps : ℕ → Bool
    keeps j = ltb (t j) 2 && all_below n (λ (i : ℕ). not (b.S i) || (eqb i j || eqb (arrives X t (b.between j i)) (t j)))

    from : (i j : ℕ) → In b.S i → In b.S j → (i ≡ j → ⊥) → arrives X t (b.between j i) ≡ t i
    from i j a c d = let q = g.between j i c a d in clear t (b.between j i) q.0 ∙ ap t q.1

    keeps_bit : (j : ℕ) → keeps j ≡ true → t j < 2
    unfolding keeps
    keeps_bit j k = ltb-true (t j) 2 (and_left (ltb (t j) 2) _ k)

    keeps_all : (j : ℕ) → In b.S j → keeps j ≡ true → (i : ℕ) → In b.S i → t i ≡ t j
    unfolding keeps
    keeps_all j c k i a =
        let h = all_below_at n (λ (i : ℕ). not (b.S i) || (eqb i j || eqb (arrives X t (b.between j i)) (t j))) (and_right (ltb (t j) 2) _ k) i (g.S-below i a) in
        cases (eqb i j)
        (λ e. ap t (eqb-true i j e))
        (λ e.
        let z = from i j a c (eqb-false i j e) in
        let y : eqb (arrives X t (b.between j i)) (t j) ≡ true = cc in
        sym z ∙ eqb-true _ _ y)

    keeps_true : (j : ℕ) → In b.S j → t j < 2 → ((i : ℕ) → In b.S i → t i ≡ t j) → keeps j ≡ true
    unfolding keeps
    keeps_true j c k h =
        let a = lt-ltb (t j) 2 k in
        let r = all_below_true n (λ (i : ℕ). not (b.S i) || (eqb i j || eqb (arrives X t (b.between j i)) (t j)))
        (λ i l. cases (b.S i)
        (λ s. cases (eqb i j) (λ e. cc)
        (λ e. let y = eq-eqb _ _ (from i j s c (eqb-false i j e) ∙ h i s) in cc))
        (λ s. cc)) in
        cc

    keeps_carry : (i j : ℕ) → In b.S i → In b.S j → keeps i ≡ true → keeps j ≡ true
    keeps_carry i j a c k =
        let z = keeps_all i a k j c in
        let y = keeps_bit i k in
        keeps_true j c (rw z y) (λ l s. keeps_all i a k l s ∙ sym z)

    kept : (j : ℕ) → In b.S j → equality n X b.S b.between t j ≡ cond (keeps j) (t j) 2
    unfolding equality keeps
    kept j c = cc

    pub equal : Equal n X b t
    equal = let r = g.S-some in
        cases (keeps r.0)
        (λ k. record {
          value = t r.0;
          small = let z = keeps_bit r.0 k in omega arith;
          all = λ i s. (let a = keeps_carry r.0 i r.1 s k in let c = kept i s in let d = keeps_all r.0 r.1 k i s in cc);
          before = λ _ i s. keeps_all r.0 r.1 k i s;
          taken = λ x l h. h r.0 r.1;
        })
        (λ k. record {
          value = 2;
          small = omega arith;
          all = λ i s. (let c = kept i s in cases (keeps i) (λ e. clash (keeps r.0) (keeps_carry i r.0 s r.1 e) k) (λ e. cc));
          before = λ l i s. absurd (omega arith);
          taken = λ x l h. (let z = h r.0 r.1 in
              clash (keeps r.0) (keeps_true r.0 r.1 (rw z l) (λ i s. h i s ∙ sym z)) k);
        })

    -- t after the second Propagate
    abbrev pub final : Values
    final = propagate X (rest b) b.outward (equality n X b.S b.between t)

    pub last : (i : ℕ) → i < n → Out X i → final i ≡ equal.value
    unfolding propagate
    last i k o =
        let a = theirs i k in
        cases (b.S i)
        (λ s. let c = equal.all i s in cc)
        (λ s. spread b.S (rest b) b.outward (equality n X b.S b.between t) equal.value equal.small
        (λ l _ m. equal.all l m) i (cc) (g.outward i k (a ∙ o) s))

    module _ (v : Values) (D : Set) (kind : (j : ℕ) → j < n → Out X j → D j ≡ false → In b.S j × (t j ≡ v j)) where
      pub adopts : equal.value < 2 → (j : ℕ) → j < n → Out X j → adopt D final v j ≡ equal.value
      unfolding adopt
      adopts l j k o =
          let a = last j k o in
          let z = lt-ltb _ _ l in
          let y : ltb (final j) 2 ≡ true = rw a z in
          cases (D j)
          (λ d. cc)
          (λ d. let q = kind j k o d in let e = equal.before l j q.0 in let h = q.1 in cc)

      pub stays : (equal.value < 2 → ⊥) → (j : ℕ) → j < n → Out X j → adopt D final v j ≡ v j
      unfolding adopt
      stays l j k o =
          let a = last j k o in
          let z = le-ltb equal.value 2 (omega (arith, l)) in
          let y : ltb (final j) 2 ≡ false = rw a z in
          cases (D j) (λ d. cc) (λ d. cc)

  module _ (v : Values) where
    -- what S − A take in Case 2
    abbrev taking : Set
    taking i = b.S i && not (b.A i)

    abbrev first : Values
    first = propagate X taking b.inward v

    abbrev adopting : Set
    adopting i = not (b.F i) && not (b.A i && b.S i)

    kind1 : (j : ℕ) → j < n → Out X j → rest b j ≡ false → In b.S j × (v j ≡ v j)
    kind1 j k o e = let a = theirs j k in (cases (b.S j) (λ s. s) (λ s. cc), refl)

    both_in : (j : ℕ) → j < n → Out X j → adopting j ≡ false → In b.S j × In b.A j
    both_in j k o e =
        let a = theirs j k in
        cases (b.S j)
        (λ s. cases (b.A j) (λ q. (s, q)) (λ q. (s, cc)))
        (λ s. cases (b.A j) (λ q. (cc, q)) (λ q. (cc, cc)))

    kind2 : (j : ℕ) → j < n → Out X j → adopting j ≡ false → In b.S j × (first j ≡ v j)
    unfolding propagate
    kind2 j k o e = let q = both_in j k o e in let s = q.0 in let a = q.1 in (s, cc)

    first_is : (x : ℕ) → x < 2 → ((i : ℕ) → i < n → In b.A i → v i ≡ x) → (i : ℕ) → In b.S i → first i ≡ x
    unfolding propagate
    first_is x l h i s =
        let k = g.S-below i s in
        cases (b.A i)
        (λ a. let z = h i k a in cc)
        (λ a. spread b.A taking b.inward v x (omega arith) h i (cc) (g.inward i k s a))

    -- step (j) leaves a sound server alone
    alone : (w : Values) (j : ℕ) → j < n → Out X j → step_j X b w j ≡ w j
    unfolding step_j
    alone w j k o = let a = theirs j k in cc

    block1 : within n b.S b.A ≡ true → (j : ℕ) → j < n → Out X j → bc_block n X b v j ≡ adopt (rest b) (final v) v j
    unfolding bc_block case1
    block1 e j k o = let a = alone (case1 n X b v) j k o in rw e a

    block2 : within n b.S b.A ≡ false → (j : ℕ) → j < n → Out X j → bc_block n X b v j ≡ adopt adopting (final first) v j
    unfolding bc_block case2
    block2 e j k o = let a = alone (case2 n X b v) j k o in rw e a

    in_a : within n b.S b.A ≡ true → (i : ℕ) → In b.S i → In b.A i
    unfolding within
    in_a e i s = let a = all_below_at n (λ (i : ℕ). not (b.S i) || b.A i) e i (g.S-below i s) in cc

    pub outcome : Outcome n X b v
    outcome =
        cases (within n b.S b.A)
        (λ e. record {
          value = (equal v).value;
          decided = λ l j k o. block1 e j k o ∙ adopts v v (rest b) kind1 l j k o;
          unmoved = λ l j k o. block1 e j k o ∙ stays v v (rest b) kind1 l j k o;
          taken = λ x l h. (equal v).taken x l (λ i s. h i (g.S-below i s) (in_a e i s));
        })
        (λ e. record {
          value = (equal first).value;
          decided = λ l j k o. block2 e j k o ∙ adopts first v adopting kind2 l j k o;
          unmoved = λ l j k o. block2 e j k o ∙ stays first v adopting kind2 l j k o;
          taken = λ x l h. (equal first).taken x l (λ i s. first_is x l h i s);
        })
