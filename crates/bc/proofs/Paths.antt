-- Paths that are pairwise apart, and what the arrivals on them agree on.
--     some_witness    a list with a server of X has one to show; some_member the other way
--     pigeon          paths that are apart and each have a server of X are no more than the servers of X
--     find_clear      one of the paths has no server of X, or each has one
--     clear_one       of f + 1 paths that are apart one has no server of X, if X has at most f
--     all_are_each     if all of a list are a, each is
--     agreed_cases    a property of ⊥ and of an element of a list is one of what the list agrees on
--     arrives_clear   on a path without a server of X the source's value arrives; source_out: its source is not in X
--     agreed_clear    a property of ⊥ and of every sound server's value is one of what f + 1 paths agree on
-- Assumes nothing.
use mathlib.Core.Path.{◌≡◌, refl, sym, ◌∙◌, subst}
use mathlib.Core.Logic.{◌⊎◌, inl, inr, ⊎_elim}
use mathlib.Core.Bool.{true, false}
use mathlib.Core.List.Memᴰ
use mathlib.Core.List.{List, [], ◌∷◌, map, Memᴰ}
use Prim.Native.Nat.{ℕ, ◌≤◌, ◌<◌}
use native.Mathlib.Omega.{arith}
use lib.Dec.{eqb}
use lib.ListN.{length}
use borrow.Author.Tests.{ne_eqb, eqb-true}
use Rattle.facts.proofs.Bools.{cases, by_cond, clash, is_false, bools}
use Rattle.sets.specs.Sets.{Set, In, Out, count}
use Rattle.sets.proofs.Counts.{without, count_without}
use Rattle.facts.specs.Lists.{Each}
use Rattle.bc.specs.Algorithm.{Path, on_way, Values, some, arrives, all_are, agreed}
use Rattle.bc.specs.Allowed.{AllApart, Separate}

pub some_witness : (X : Set) (l : List ℕ) → some X l ≡ true → (s : ℕ) × Memᴰ s l × In X s
unfolding some
some_witness X [] e = clash false e refl
some_witness X (s ∷ ss) e =
    cases (X s)
    (λ q. (s, Memᴰ.head refl, q))
    (λ q. let h : some X ss ≡ true = rw q at e in let w = some_witness X ss h in (w.0, Memᴰ.tail w.1, w.2))

some_has : (X : Set) (s : ℕ) (l : List ℕ) → Memᴰ s l → In X s → some X l ≡ true
unfolding some
some_has X s l (Memᴰ.head {x} {xs} e) q = cc
some_has X s l (Memᴰ.tail {x} {xs} m) q = let ih = some_has X s xs m q in cases (X x) (λ a. cc) (λ a. cc)

pub some_member : (X : Set) (l : List ℕ) (s : ℕ) → Memᴰ s l → In X s → some X l ≡ true
some_member X l s = some_has X s l

pub pigeon : (n : ℕ) (X : Set) (ps : List Path) → AllApart ps → Each (λ p. Each (λ s. s < n) (on_way p)) ps
    → Each (λ p. some X (on_way p) ≡ true) ps → length ps ≤ count n X
pigeon n X [] a b h = omega arith
pigeon n X (p ∷ ps) a b h =
    let w = some_witness X (on_way p) (h p (Memᴰ.head refl)) in
    let s = w.0 in
    let c = count_without n s X (b p (Memᴰ.head refl) s w.1) w.2 in
    let ih = pigeon n (without s X) ps a.1 (λ q m. b q (Memᴰ.tail m)) (λ q m. still q m s w.1) in
    omega arith
  where
    still : (q : Path) → Memᴰ q ps → (s : ℕ) → Memᴰ s (on_way p) → some (without s X) (on_way q) ≡ true
    still q m s k =
        let w = some_witness X (on_way q) (h q (Memᴰ.tail m)) in
        let e = ne_eqb w.0 s (λ z. a.0 q m s k (Memᴰ.cast (sym z) w.1)) in
        let r = w.2 in
        some_member (without s X) (on_way q) w.0 w.1 (cc)

pub find_clear : (X : Set) (ps : List Path) → ((p : Path) × Memᴰ p ps × (some X (on_way p) ≡ false)) ⊎ Each (λ p. some X (on_way p) ≡ true) ps
find_clear X [] = inr (λ p m. elim m [ ])
find_clear X (p ∷ ps) =
    cases (some X (on_way p)) (λ e. ⊎_elim (λ w. inl (w.0, Memᴰ.tail w.1, w.2)) (λ a. inr (λ q m. both e a q m)) (find_clear X ps)) (λ e. inl (p, Memᴰ.head refl, e))
  where
    both : some X (on_way p) ≡ true → Each (λ q. some X (on_way q) ≡ true) ps → (q : Path) → Memᴰ q (p ∷ ps) → some X (on_way q) ≡ true
    both e a q (Memᴰ.head z) = rw z e
    both e a q (Memᴰ.tail m) = a q m

pub clear_one : (n f : ℕ) (X F P : Set) (ps : List Path) → count n X ≤ f → Separate n f F P ps
    → (p : Path) × Memᴰ p ps × (some X (on_way p) ≡ false)
clear_one n f X F P ps h d = go (find_clear X ps)
  where
    go : ((p : Path) × Memᴰ p ps × (some X (on_way p) ≡ false)) ⊎ Each (λ p. some X (on_way p) ≡ true) ps
        → (p : Path) × Memᴰ p ps × (some X (on_way p) ≡ false)
    go (inl w) = w
    go (inr a) = let e = pigeon n X ps d.apart (λ p m. (d.paths p m).servers) a in let l = d.enough in absurd (omega arith)

all_are_one : (a y : ℕ) (l : List ℕ) → all_are a l ≡ true → Memᴰ y l → y ≡ a
unfolding all_are
all_are_one a y l e (Memᴰ.head {x} {xs} q) = let t : eqb x a ≡ true = search bools in q ∙ eqb-true x a t
all_are_one a y l e (Memᴰ.tail {x} {xs} m) = all_are_one a y xs (search bools) m

pub all_are_each : (a : ℕ) (l : List ℕ) → all_are a l ≡ true → (y : ℕ) → Memᴰ y l → y ≡ a
all_are_each a l e y m = all_are_one a y l e m

pub agreed_cases : (Q : ℕ → Type 0) (l : List ℕ) → Q 2 → (y : ℕ) → Memᴰ y l → Q y → Q (agreed l)
unfolding agreed
agreed_cases Q l two y m q =
    by_cond Q (all_are 0 l) _ _
    (λ e. subst Q (all_are_each 0 l e y m) q)
    (λ e. by_cond Q (all_are 1 l) _ _ (λ g. subst Q (all_are_each 1 l g y m) q) (λ g. two))

pub arrives_clear : (X : Set) (w : Values) (p : Path) → some X (on_way p) ≡ false → arrives X w p ≡ w p.source
unfolding arrives
arrives_clear X w p e = cc

pub source_out : (X : Set) (p : Path) → some X (on_way p) ≡ false → Out X p.source
source_out X p e = is_false (X p.source) (λ q. clash (some X (on_way p)) (some_member X (on_way p) p.source (Memᴰ.head refl) q) e)

pub agreed_clear : (n f : ℕ) (X F P : Set) (ps : List Path) → count n X ≤ f → Separate n f F P ps
    → (w : Values) (Q : ℕ → Type 0) → Q 2 → ((i : ℕ) → i < n → Out X i → Q (w i)) → Q (agreed (map (arrives X w) ps))
agreed_clear n f X F P ps h d w Q two q =
    let c = clear_one n f X F P ps h d in
    let p = c.0 in
    let v = q p.source ((d.paths p c.1).servers p.source (Memᴰ.head refl)) (source_out X p c.2) in
    agreed_cases Q (map (arrives X w) ps) two (arrives X w p) (Memᴰ.map (arrives X w) c.1) (subst Q (sym (arrives_clear X w p c.2)) v)
