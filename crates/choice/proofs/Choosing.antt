-- The side and the quorum, as they are looked up in the table: a set meets every weak set exactly if the table does not mark what it leaves of V−F.
--     looked       what the table says of the servers that a set leaves
--     meets_is     the answer of `meets_all`
--     without-..   the three answers of `without`
--     thinning-..  the loop of `thinned`
--     choice-..    the four answers of `choose`
-- Assumes nothing.
use mathlib.Core.Path.{◌≡◌, refl, sym, ap, ◌∙◌}
use mathlib.Core.Bool.{Bool, true, false, not}
use mathlib.Core.List.{List}
use Prim.Native.Nat.{ℕ, suc, ◌≤◌, ◌<◌}
use lib.ListN.{get_or}
use borrow.Author.Tests.{lt-ltb, le-ltb}
use Rattle.facts.proofs.Bools.{cases}
use Rattle.sets.specs.Sets.{has, single, meet, minus, full}
use Rattle.sets.proofs.Members.{minus_small, apart_meet, has_minus}
use Rattle.network.specs.Links.{Links}
use Rattle.planner.specs.Choice.{meets_all, side_of, without, thinned, quorum_of}
use Rattle.planner.proofs.Hitting.{sound_small}
use Rattle.choice.specs.WeakTable.{WeakTable}
use Rattle.choice.specs.declared.Chosen.{Chosen}
use Rattle.choice.specs.Choice.{Thinned, Choice}
use Rattle.choice.proofs.Smaller.{less_apart}

sound_apart : (n F : ℕ) → meet (minus (full n) F) F ≡ 0
sound_apart n F =
    apart_meet n (minus (full n) F) F (sound_small n F)
    (λ i k. let m = has_minus (full n) F i in cases (has F i) (λ p. cases (has (full n) i) (λ q. cc) (λ q. cc)) (λ p. cases (has (minus (full n) F) i) (λ q. cc) (λ q. cc)))

module _ (n f : ℕ) (links : Links) (F sound : ℕ) (table : List Bool) (all : sound ≡ minus (full n) F) (t : WeakTable n f links F table) where
  -- what S leaves of V−F is marked exactly if S misses a weak set
  looked : (S left : ℕ) → left ≡ minus sound S → meets_all n f links F S ≡ not (get_or table left false)
  unfolding meets_all
  looked S left e =
      let m : left ≡ minus (minus (full n) F) S = e ∙ ap (λ (x : ℕ). minus x S) all in
      let x = t.entry (minus (minus (full n) F) S) (minus_small n (minus (full n) F) S (sound_small n F)) (less_apart n (minus (full n) F) S F (sound_small n F) (sound_apart n F)) in
      cc

  pub meets_is : (S left : ℕ) → left ≡ minus sound S → not (get_or table left false) ≡ meets_all n f links F S
  meets_is S left e = sym (looked S left e)

module _ (n f : ℕ) (links : Links) (F S x : ℕ) (b : Bool) (e : b ≡ has S x) where
  pub without_none : b ≡ false → S ≡ without n f links F S x
  unfolding without
  without_none h = cc

  module _ (h : b ≡ true) (alone less : ℕ) (p : alone ≡ single x) (q : less ≡ minus S alone) (m : Bool) (l : m ≡ meets_all n f links F less) where
    less_is : less ≡ minus S (single x)
    less_is = q ∙ ap (minus S) p

    pub without_free : m ≡ true → less ≡ without n f links F S x
    unfolding without
    without_free k = let z = less_is in cc

    pub without_needed : m ≡ false → S ≡ without n f links F S x
    unfolding without
    without_needed k = let z = less_is in cc

-- thinned: what is left to take out gives the quorum

module _ (n f : ℕ) (links : Links) (F A : ℕ) where
  -- before the servers below k
  pub record Thinning (k S : ℕ) : Type 0 where
    pub left : thinned n f links F k S ≡ quorum_of n f links F A

  pub thinning_starts : Thinning 8 A
  unfolding quorum_of
  thinning_starts = record { left = refl }

  pub thinning_turn : (k S S' x : ℕ) → Thinning k S → k ≡ suc x → S' ≡ without n f links F S x → Thinning x S'
  unfolding thinned
  thinning_turn k S S' x s e d = record { left = let l = rw e at s.left in rw d l }

  pub thinning_ends : (k S : ℕ) → Thinning k S → k ≡ 0 → S ≡ quorum_of n f links F A
  unfolding thinned
  thinning_ends k S s e = rw e at s.left

-- choose: the part P or the rest Q, and its quorum

module _ (n f : ℕ) (links : Links) (F sound : ℕ) (all : sound ≡ minus (full n) F) (P Q : ℕ) (q : Q ≡ minus sound P) (a : Bool) (p : a ≡ meets_all n f links F P) where
  rest_is : Q ≡ minus (minus (full n) F) P
  rest_is = q ∙ ap (λ (x : ℕ). minus x P) all

  chosen : (A : ℕ) (r : Chosen) → Thinned n f links F A r → A ≡ side_of n f links F P → Choice n f links F P r
  chosen A r t e = record { side = t.side ∙ e; quorum = t.quorum ∙ ap (quorum_of n f links F) e }

  module _ (there : Chosen) (r : Thinned n f links F Q there) where
    pub choice_other : a ≡ false → Choice n f links F P there
    unfolding side_of
    choice_other h = let z = rest_is in chosen Q there r (cc)

  module _ (h : a ≡ true) (here : Chosen) (l : Thinned n f links F P here) (b : Bool) (m : b ≡ meets_all n f links F Q) where
    pub choice_part : b ≡ false → Choice n f links F P here
    unfolding side_of
    choice_part k = let z = rest_is in chosen P here l (cc)

    module _ (k : b ≡ true) (there : Chosen) (r : Thinned n f links F Q there) where
      pub choice_lower : here.quorum < there.quorum → Choice n f links F P here
      unfolding side_of
      choice_lower d = let z = rest_is in let y = lt-ltb here.quorum there.quorum d in let u = l.quorum in let v = r.quorum in chosen P here l (cc)

      pub choice_rest : there.quorum ≤ here.quorum → Choice n f links F P there
      unfolding side_of
      choice_rest d = let z = rest_is in let y = le-ltb here.quorum there.quorum d in let u = l.quorum in let v = r.quorum in chosen Q there r (cc)
