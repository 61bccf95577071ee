-- Agreement of Algorithm BC, from two facts about one block: a bit that all sound servers hold stays, and bits stay bits.
--     search_below       a server below n in p, or none is
--     bc_append          iterations one after the other
--     keep, bits_keep    the two facts over a list of blocks
--     reach              blocks with F = X, one of whose A all hold one bit, bring all sound servers to one bit
--     meet               after `mid` all sound servers hold one bit
--     agreement_from     Agreement, from the two facts
--     held_of, bits_of_lem   the two facts, from Validity
--     agreement_of       Agreement, from Validity
-- Assumes nothing.
use mathlib.Core.Path.{◌≡◌, refl, sym, ap, ◌∙◌}
use mathlib.Core.Logic.{◌⊎◌, inl, inr, ⊎_elim}
use mathlib.Core.Bool.{true, false, not, ◌&&◌}
use mathlib.Core.List.Memᴰ
use mathlib.Core.List.{List, [], ◌∷◌, ◌++◌, Memᴰ}
use Prim.Native.Nat.{ℕ, zero, suc, ◌≤◌, ◌<◌}
use native.Mathlib.Omega.{arith}
use lib.Dec.{eqb, ltb}
use borrow.Author.Tests.{ltb-true, ltb-false, eqb-true, eqb-false}
use Rattle.sets.specs.Sets.{Set, In, Out, count}
use Rattle.facts.specs.Lists.{Each}
use Rattle.facts.proofs.Bools.{cases, and_left, and_right, not_true}
use Rattle.bc.specs.Algorithm.{Choice, Values, bc_block, bc}
use Rattle.bc.specs.Allowed.{Sound, Covers}
use Rattle.bc.specs.Theorems.{Bits, Validity, Agreement}
use Rattle.bc.proofs.Deciding.{outcome}

-- a bit that all sound servers hold stays
abbrev pub Held : Type 0
Held =
    (n f : ℕ) (X : Set) → count n X ≤ f → (b : Choice) → Sound n f b → (v : Values) → (c : ℕ) → c < 2
    → ((i : ℕ) → i < n → Out X i → v i ≡ c) → (j : ℕ) → j < n → Out X j → bc_block n X b v j ≡ c

-- bits stay bits
abbrev pub BitsStay : Type 0
BitsStay =
    (n f : ℕ) (X : Set) → count n X ≤ f → (b : Choice) → Sound n f b → (v : Values) → Bits n X v → Bits n X (bc_block n X b v)

-- all sound servers hold c
abbrev pub AllHold : ℕ → Set → Values → ℕ → Type 0
AllHold n X v c = (i : ℕ) → i < n → Out X i → v i ≡ c

pub search_below : (n : ℕ) (p : Set) → ((i : ℕ) × (i < n) × In p i) ⊎ ((i : ℕ) → i < n → Out p i)
search_below zero p = inr (λ i k. absurd (omega arith))
search_below (suc n) p =
    cases (p n)
    (λ e. inl (n, omega arith, e))
    (λ e. ⊎_elim
    (λ (w : (i : ℕ) × (i < n) × In p i). inl (w.0, omega arith, w.2))
    (λ (h : (i : ℕ) → i < n → Out p i). inr (λ i k. cases (eqb i n)
    (λ q. ap p (eqb-true i n q) ∙ e)
    (λ q. h i (omega (arith, eqb-false i n q)))))
    (search_below n p))

pub bc_append : (n : ℕ) (X : Set) (xs ys : List Choice) (v : Values) → bc n X (xs ++ ys) v ≡ bc n X ys (bc n X xs v)
unfolding bc
bc_append n X [] ys v = refl
bc_append n X (x ∷ xs) ys v = bc_append n X xs ys (bc_block n X x v)

module _ (held : Held) (bits : BitsStay) where
  module _ (n f : ℕ) (X : Set) (few : count n X ≤ f) where
    keep : (bs : List Choice) → Each (Sound n f) bs → (v : Values) (c : ℕ) → c < 2 → AllHold n X v c → AllHold n X (bc n X bs v) c
    unfolding bc
    keep [] g v c l h = h
    keep (b ∷ bs) g v c l h =
        keep bs (λ a m. g a (Memᴰ.tail m)) (bc_block n X b v) c l (held n f X few b (g b (Memᴰ.head refl)) v c l h)

    bits_keep : (bs : List Choice) → Each (Sound n f) bs → (v : Values) → Bits n X v → Bits n X (bc n X bs v)
    unfolding bc
    bits_keep [] g v h = h
    bits_keep (b ∷ bs) g v h =
        bits_keep bs (λ a m. g a (Memᴰ.tail m)) (bc_block n X b v) (bits n f X few b (g b (Memᴰ.head refl)) v h)

    -- all sound servers hold one bit
    abbrev One : Values → Type 0
    One v = (c : ℕ) × (c < 2) × AllHold n X v c

    abbrev Theirs : Choice → Type 0
    Theirs b = (i : ℕ) → i < n → b.F i ≡ X i

    A-sound : (b : Choice) → Sound n f b → Theirs b → (i : ℕ) → i < n → In b.A i → Out X i
    A-sound b g t i k a = sym (t i k) ∙ g.A-out i a

    reach : (bs : List Choice) → Each (Sound n f) bs → Each Theirs bs → (v : Values) (b : Choice) → Memᴰ b bs
        → (x : ℕ) → x < 2 → ((i : ℕ) → i < n → In b.A i → v i ≡ x) → One (bc n X bs v)
    unfolding bc
    reach [] g t v b m x l h = elim m [ ]
    reach (y ∷ ys) g t v b (Memᴰ.head e) x l h =
        let gy = g y (Memᴰ.head refl) in
        let o = outcome n f X y gy (t y (Memᴰ.head refl)) v in
        let z = o.taken x l (λ i k a. h i k (rw e a)) in
        (x, l, keep ys (λ a m. g a (Memᴰ.tail m)) (bc_block n X y v) x l (λ i k s. o.decided (rw z l) i k s ∙ z))
    reach (y ∷ ys) g t v b (Memᴰ.tail m) x l h =
        let gy = g y (Memᴰ.head refl) in
        let o = outcome n f X y gy (t y (Memᴰ.head refl)) v in
        cases (ltb o.value 2)
        (λ e. let q = ltb-true o.value 2 e in
        (o.value, q, keep ys (λ a m. g a (Memᴰ.tail m)) (bc_block n X y v) o.value q (o.decided q)))
        (λ e. let q = ltb-false o.value 2 e in
        reach ys (λ a m. g a (Memᴰ.tail m)) (λ a m. t a (Memᴰ.tail m)) (bc_block n X y v) b m x l
        (λ i k a. o.unmoved (λ r. omega arith) i k (A-sound b (g b (Memᴰ.tail m)) (t b (Memᴰ.tail m)) i k a) ∙ h i k a))

    module _ (mid : List Choice) (g : Each (Sound n f) mid) (cov : Covers n X mid) (v : Values) (h : Bits n X v) where
      zeros : Set
      zeros i = not (X i) && eqb (v i) 0

      ones : Set
      ones i = not (X i) && not (eqb (v i) 0)

      cutting : (a : ℕ) → a < n → In zeros a → (c : ℕ) → c < n → In ones c → One (bc n X mid v)
      unfolding zeros ones
      cutting a k p c l q =
          let w = cov.cut (λ (i : ℕ). eqb (v i) 0) a k (not_true (X a) (and_left _ _ p)) (and_right (not (X a)) _ p)
          c l (not_true (X c) (and_left _ _ q)) (not_true (eqb (v c) 0) (and_right (not (X c)) _ q)) in
          let gb = g w.0 w.1 in
          let tb = cov.theirs w.0 w.1 in
          ⊎_elim
          (λ (e : (i : ℕ) → i < n → Out X i → w.0.A i ≡ eqb (v i) 0). reach mid g cov.theirs v w.0 w.1 0 (omega arith)
          (λ i r s. eqb-true (v i) 0 (sym (e i r (A-sound w.0 gb tb i r s)) ∙ s)))
          (λ (e : (i : ℕ) → i < n → Out X i → w.0.A i ≡ not (eqb (v i) 0)). reach mid g cov.theirs v w.0 w.1 1 (omega arith)
          (λ i r s.
          let o = A-sound w.0 gb tb i r s in
          let z = eqb-false (v i) 0 (not_true (eqb (v i) 0) (sym (e i r o) ∙ s)) in
          let y = h i r o in
          omega (arith, z)))
          w.2

      no_zeros : ((i : ℕ) → i < n → Out zeros i) → AllHold n X v 1
      unfolding zeros
      no_zeros e i k o =
          let z = e i k in
          let y : eqb (v i) 0 ≡ false = cases (eqb (v i) 0) (λ q. cc) (λ q. q) in
          let x = eqb-false (v i) 0 y in
          let w = h i k o in
          omega (arith, x)

      no_ones : ((i : ℕ) → i < n → Out ones i) → AllHold n X v 0
      unfolding ones
      no_ones e i k o =
          let z = e i k in
          let y : eqb (v i) 0 ≡ true = cases (eqb (v i) 0) (λ q. q) (λ q. cc) in
          eqb-true (v i) 0 y

      meet : One (bc n X mid v)
      meet =
          ⊎_elim
          (λ (p : (i : ℕ) × (i < n) × In zeros i). ⊎_elim
          (λ (q : (i : ℕ) × (i < n) × In ones i). cutting p.0 p.1 p.2 q.0 q.1 q.2)
          (λ (q : (i : ℕ) → i < n → Out ones i). (0, omega arith, keep mid g v 0 (omega arith) (no_ones q)))
          (search_below n ones))
          (λ (p : (i : ℕ) → i < n → Out zeros i). (1, omega arith, keep mid g v 1 (omega arith) (no_zeros p)))
          (search_below n zeros)

  pub agreement_from : Agreement
  agreement_from n f X few pre mid post g cov v h i j k o l r =
      let gpre : Each (Sound n f) pre = λ a m. g a (Memᴰ.append_left post (Memᴰ.append_left mid m)) in
      let gmid : Each (Sound n f) mid = λ a m. g a (Memᴰ.append_left post (Memᴰ.append_right pre m)) in
      let gpost : Each (Sound n f) post = λ a m. g a (Memᴰ.append_right (pre ++ mid) m) in
      let u = bc n X pre v in
      let w = meet n f X few mid gmid cov u (bits_keep n f X few pre gpre v h) in
      let e = keep n f X few post gpost (bc n X mid u) w.0 w.1 w.2 in
      let a = bc_append n X (pre ++ mid) post v in
      let c = bc_append n X pre mid v in
      rw a (rw c (e i k o ∙ sym (e j l r)))

-- the two facts are Validity of one block
only : (n f : ℕ) (b : Choice) → Sound n f b → Each (Sound n f) (b ∷ [])
only n f b g a m = let e = Memᴰ.eq_of_singleton m in rw e g

pub held_of : Validity → Held
unfolding bc
held_of valid n f X few b g v c l h j k o =
    let w = valid n f X few (b ∷ []) (only n f b g) v (λ i r s. rw (h i r s) l) j k o in
    w.3 ∙ h w.0 w.1 w.2

pub bits_of_lem : Validity → BitsStay
unfolding bc
bits_of_lem valid n f X few b g v h j k o =
    let w = valid n f X few (b ∷ []) (only n f b g) v h j k o in
    let e = w.3 in
    rw e (h w.0 w.1 w.2)

pub agreement_of : Validity → Agreement
agreement_of valid = agreement_from (held_of valid) (bits_of_lem valid)
