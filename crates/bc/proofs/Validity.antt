-- Validity of Algorithm BC. Each step, block and list of blocks keeps a property Q that the values of all sound servers have; t may also be ⊥.
--     sure                              a bit that has Q or is ⊥ has Q
--     propagate_keeps, equality_keeps   the steps on t, for a property of ⊥ too; spread_keeps: Equality, then Propagate
--     adopt_keeps, step_j_keeps          the steps on v, where ⊥ does not enter
--     case1_keeps, case2_keeps          the two cases of a block
--     block_keeps, bc_keeps             a block, and a list of blocks
--     validity                          what a sound server holds at the end is some sound server's input
-- Assumes nothing.
use mathlib.Core.Path.{◌≡◌, refl}
use mathlib.Core.Logic.{◌⊎◌, inl, inr}
use mathlib.Core.Bool.{true, not, ◌&&◌, ◌||◌}
use mathlib.Core.List.Memᴰ
use mathlib.Core.List.{List, [], ◌∷◌, map}
use Prim.Native.Nat.{ℕ, ◌≤◌, ◌<◌}
use native.Mathlib.Omega.{arith}
use lib.Dec.{eqb, ltb}
use borrow.Author.Tests.{ltb-true}
use Rattle.facts.proofs.Bools.{by_cond, bools}
use Rattle.sets.specs.Sets.{Set, In, Out, count}
use Rattle.facts.specs.Lists.{Each}
use Rattle.bc.specs.Algorithm.{Path, Choice, Values, arrives, all_below, agreed, propagate, equality, adopt, rest, within, case1, case2, step_j, bc_block, bc}
use Rattle.bc.specs.Allowed.{Separate, Sound}
use Rattle.bc.specs.Theorems.{Validity}
use Rattle.bc.proofs.Paths.{agreed_clear}

-- the values of all sound servers have Q
abbrev pub Holds : ℕ → Set → (ℕ → Type 0) → Values → Type 0
Holds n X Q v = (i : ℕ) → i < n → Out X i → Q (v i)

-- a value that has Q or is ⊥
abbrev pub OrUnsure : (ℕ → Type 0) → ℕ → Type 0
OrUnsure Q x = Q x ⊎ (x ≡ 2)

pub sure : (Q : ℕ → Type 0) (x : ℕ) → OrUnsure Q x → ltb x 2 ≡ true → Q x
sure Q x (inl q) e = q
sure Q x (inr z) e = let l = ltb-true x 2 e in absurd (omega arith)

module _ (n f : ℕ) (X : Set) (h : count n X ≤ f) where
  pub propagate_keeps : (F P D : Set) (paths : ℕ → List Path) → ((i : ℕ) → i < n → In D i → Separate n f F P (paths i))
      → (Q : ℕ → Type 0) → Q 2 → (t : Values) → Holds n X Q t → Holds n X Q (propagate X D paths t)
  unfolding propagate
  propagate_keeps F P D paths d Q two t q i k o = by_cond Q (D i) _ _ (λ e. agreed_clear n f X F P (paths i) h (d i k e) t Q two q) (λ e. q i k o)

  pub equality_keeps : (D : Set) (paths : ℕ → ℕ → Path) (Q : ℕ → Type 0) → Q 2 → (t : Values) → Holds n X Q t → Holds n X Q (equality n X D paths t)
  unfolding equality
  equality_keeps D paths Q two t q j k o =
      by_cond Q (D j) _ _
      (λ e.
      by_cond Q (ltb (t j) 2 && all_below n (λ (i : ℕ). not (D i) || (eqb i j || eqb (arrives X t (paths j i)) (t j)))) _ _ (λ g. q j k o) (λ g. two))
      (λ e. q j k o)

  pub adopt_keeps : (D : Set) (Q : ℕ → Type 0) (t v : Values) → Holds n X (OrUnsure Q) t → Holds n X Q v → Holds n X Q (adopt D t v)
  unfolding adopt
  adopt_keeps D Q t v p q j k o = by_cond Q (D j && ltb (t j) 2) _ _ (λ e. sure Q (t j) (p j k o) (search bools)) (λ e. q j k o)

  module _ (b : Choice) (s : Sound n f b) (Q : ℕ → Type 0) (v : Values) (q : Holds n X Q v) where
    -- Equality(S), then Propagate(S, V − F − S)
    pub spread_keeps : (t : Values) → Holds n X (OrUnsure Q) t
        → Holds n X (OrUnsure Q) (propagate X (rest b) b.outward (equality n X b.S b.between t))
    spread_keeps t p =
        propagate_keeps b.F b.S (rest b) b.outward (λ i k e. s.outward i k (search bools) (search bools)) (OrUnsure Q) (inr refl)
        (equality n X b.S b.between t)
        (equality_keeps b.S b.between (OrUnsure Q) (inr refl) t p)

    pub case1_keeps : Holds n X Q (case1 n X b v)
    unfolding case1
    case1_keeps = adopt_keeps (rest b) Q _ v (spread_keeps v (λ i k o. inl (q i k o))) q

    pub case2_keeps : Holds n X Q (case2 n X b v)
    unfolding case2
    case2_keeps =
        adopt_keeps (λ (i : ℕ). not (b.F i) && not (b.A i && b.S i)) Q _ v
        (spread_keeps (propagate X (λ (i : ℕ). b.S i && not (b.A i)) b.inward v)
        (propagate_keeps b.F b.A (λ (i : ℕ). b.S i && not (b.A i)) b.inward (λ i k e. s.inward i k (search bools) (search bools))
        (OrUnsure Q) (inr refl) v (λ i k o. inl (q i k o))))
        q

    pub step_j_keeps : Holds n X Q (step_j X b v)
    unfolding step_j
    step_j_keeps k l o =
        by_cond Q (b.F k && ltb (agreed (map (arrives X v) (b.reports k))) 2) _ _
        (λ e. sure Q _ (agreed_clear n f X b.F (λ (i : ℕ). not (b.F i)) (b.reports k) h (s.reports k l (search bools)) v (OrUnsure Q) (inr refl) (λ i m p. inl (q i m p))) (search bools))
        (λ e. q k l o)

  pub block_keeps : (b : Choice) → Sound n f b → (Q : ℕ → Type 0) (v : Values) → Holds n X Q v → Holds n X Q (bc_block n X b v)
  unfolding bc_block
  block_keeps b s Q v q =
      step_j_keeps b s Q _
      (by_cond (Holds n X Q) (within n b.S b.A) (case1 n X b v) (case2 n X b v) (λ e. case1_keeps b s Q v q) (λ e. case2_keeps b s Q v q))

  pub bc_keeps : (bs : List Choice) → Each (Sound n f) bs → (Q : ℕ → Type 0) (v : Values) → Holds n X Q v → Holds n X Q (bc n X bs v)
  unfolding bc
  bc_keeps [] s Q v q = q
  bc_keeps (b ∷ bs) s Q v q = bc_keeps bs (λ c m. s c (Memᴰ.tail m)) Q (bc_block n X b v) (block_keeps b (s b (Memᴰ.head refl)) Q v q)

pub validity : Validity
validity n f X h bs s v bits j k o =
    bc_keeps n f X h bs s (λ (x : ℕ). (i : ℕ) × (i < n) × Out X i × (x ≡ v i)) v (λ i l p. (i, l, p, refl)) j k o
