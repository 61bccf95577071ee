-- Why the split test may look at one side at a time: in a split the set that faces a side, with C, is what F and the side leave of V. So the
-- incoming neighbours that count depend on F and that side alone, and a split is bad exactly if both sides are weak.
--     size_outside   what the code counts is the neighbours outside F; outside_is by the rows of sources
--     weak-..        which sets can be sides
--     split_weak     a split is bad exactly if F is small, both sides are weak and apart
--     none-.., no-.. what a failed test says of the splits that are passed over; bad_here what all of them say
-- Assumes nothing.
use mathlib.Core.Path.{◌≡◌, refl, sym, ap, ◌∙◌}
use mathlib.Core.Bool.{true, false, not, ◌&&◌, ◌||◌}
use mathlib.Core.List.{List}
use Prim.Native.Nat.{ℕ, ◌+◌, ◌-◌, ◌^◌, ◌≤◌, ◌<◌}
use native.Mathlib.Omega.{arith}
use lib.Dec.{eqb, ltb, leb}
use borrow.Author.Tests.{lt-ltb, le-ltb, eq-eqb, ne_eqb, eqb-true}
use Rattle.facts.proofs.Bools.{cases, same, bools}
use Rattle.sets.specs.Sets.{has, union, meet, minus, full, count, size}
use Rattle.sets.proofs.Members.{has_union, has_minus, has_full, meet_apart, meet_comm, apart_union}
use Rattle.sets.proofs.Counts.{count_same, count_beyond}
use Rattle.network.specs.Links.{Links, linked_in}
use Rattle.split.specs.Split.{good, bad, some_below, incoming, held, rest, is_split, is_bad, bad_at, bad_with_sides, bad_with_faults}
use Rattle.split.specs.Weak.{outside, weak}
use Rattle.split.specs.Sources.{Sources, into_rows, outside_rows}
use Rattle.split.proofs.SourceRows.{rows_give}
use Rattle.split.proofs.Search.{breaks, first_from_all}

module _ (n : ℕ) (links : Links) (few : n ≤ 8) (F s into near out : ℕ)
    (i : (u : ℕ) → has into u ≡ (ltb u n && some_below n (λ (v : ℕ). has s v && linked_in links u v))) (p : near ≡ minus into s) (q : out ≡ minus near F) where
  -- u is one of the servers that the code counts
  counted : (u : ℕ) → has out u ≡ (ltb u n && (not (has F u) && incoming n links s u))
  unfolding incoming
  counted u =
      let a = i u in
      let c = has_minus into s u in
      let d = has_minus near F u in
      cases (ltb u n)
      (λ x. cases (has F u) (λ y. cases (has near u) (λ z. cc) (λ z. cc)) (λ y. cases (has s u) (λ z. cases (has into u) (λ t. cc) (λ t. cc)) (λ z. cases (some_below n (λ (v : ℕ). has s v && linked_in links u v)) (λ t. cc) (λ t. cc))))
      (λ x. cc)

  pub size_outside : size out ≡ outside n links F s
  unfolding size outside
  size_outside =
      let e : 8 - n + n ≡ 8 = omega arith in
      ap (λ (m : ℕ). count m (has out)) (sym e)
      ∙ count_beyond n (8 - n) (has out) (λ u h. let t = le-ltb u n h in let w = counted u in cc)
      ∙ count_same n (has out) (λ (u : ℕ). not (has F u) && incoming n links s u) (λ u h. let t = lt-ltb u n h in let w = counted u in cc)

-- what the rows of sources count
pub outside_is : (n : ℕ) (links : Links) (rows : List ℕ) → n ≤ 8 → Sources n links rows → (F s : ℕ) → s < 2 ^ n → outside_rows rows F s ≡ outside n links F s
unfolding outside_rows
outside_is n links rows few so F s small =
    size_outside n links few F s (into_rows rows s) (minus (into_rows rows s) s) (minus (minus (into_rows rows s) s) F) (rows_give n links rows few so s small) refl refl

module _ (n f : ℕ) (links : Links) (F : ℕ) where
  pub weak_empty : weak n f links F 0 ≡ false
  unfolding weak
  weak_empty = let t = eq-eqb 0 0 refl in cc

  pub weak_meets : (s : ℕ) → (meet F s ≡ 0 → ⊥) → weak n f links F s ≡ false
  unfolding weak
  weak_meets s o = let q = ne_eqb (meet F s) 0 o in cases (eqb s 0) (λ x. cc) (λ x. cc)

  pub weak_is : (s : ℕ) → 0 < s → meet F s ≡ 0 → weak n f links F s ≡ leb (outside n links F s) f
  unfolding weak
  weak_is s z e = let t = ne_eqb s 0 (λ (q : s ≡ 0). absurd (omega arith)) in let q = eq-eqb (meet F s) 0 e in cc

has_rest : (n F L R u : ℕ) → has (rest n F L R) u ≡ ((ltb u n && not (has F u)) && not (has L u || has R u))
unfolding rest
has_rest n F L R u =
    let a = has_minus (minus (full n) F) (union L R) u in
    let b = has_minus (full n) F u in
    let c = has_full n u in
    let d = has_union L R u in
    cc

-- X faces the side s; C is what is left
module _ (n : ℕ) (links : Links) (F X s C : ℕ) (left : (u : ℕ) → has C u ≡ ((ltb u n && not (has F u)) && not (has X u || has s u))) (apart : eqb (meet F X) 0 ≡ true) where
  faced : (u : ℕ) → u < n → (has (union X C) u && incoming n links s u) ≡ (not (has F u) && incoming n links s u)
  unfolding incoming
  faced u h =
      let a = has_union X C u in
      let b = left u in
      let c = meet_apart F X (eqb-true (meet F X) 0 apart) u in
      let t = lt-ltb u n h in
      cases (has s u)
      (λ x. cases (has (union X C) u) (λ y. cases (has F u) (λ z. cc) (λ z. cc)) (λ y. cases (has F u) (λ z. cc) (λ z. cc)))
      (λ x. cases (has F u) (λ y. cc) (λ y. cases (has X u) (λ z. cc) (λ z. cc)))

  pub held_outside : held n links (union X C) s ≡ outside n links F s
  unfolding held outside
  held_outside = count_same n (λ (u : ℕ). has (union X C) u && incoming n links s u) (λ (u : ℕ). not (has F u) && incoming n links s u) faced

module _ (n f : ℕ) (links : Links) (F L R : ℕ) where
  right_outside : eqb (meet F L) 0 ≡ true → held n links (union L (rest n F L R)) R ≡ outside n links F R
  right_outside e = held_outside n links F L R (rest n F L R) (has_rest n F L R) e

  left_outside : eqb (meet F R) 0 ≡ true → held n links (union R (rest n F L R)) L ≡ outside n links F L
  left_outside e =
      held_outside n links F R L (rest n F L R)
      (λ u. let a = has_rest n F L R u in cases (has L u) (λ x. cases (has R u) (λ y. cc) (λ y. cc)) (λ x. cases (has R u) (λ y. cc) (λ y. cc))) e

  breaks_weak : breaks n f links F L R ≡ true → (leb (size F) f && (weak n f links F L && (weak n f links F R && eqb (meet L R) 0))) ≡ true
  unfolding is_split is_bad weak
  breaks_weak e =
      let fl : eqb (meet F L) 0 ≡ true = search bools depth 9 in
      let fr : eqb (meet F R) 0 ≡ true = search bools depth 9 in
      let lr : eqb (meet L R) 0 ≡ true = search bools depth 9 in
      let sf : leb (size F) f ≡ true = search bools depth 9 in
      let nl : eqb L 0 ≡ false = search bools depth 9 in
      let nr : eqb R 0 ≡ false = search bools depth 9 in
      let hr : leb (held n links (union L (rest n F L R)) R) f ≡ true = search bools depth 9 in
      let hl : leb (held n links (union R (rest n F L R)) L) f ≡ true = search bools depth 9 in
      let a = right_outside fl in
      let b = left_outside fr in
      cc

  weak_breaks : (leb (size F) f && (weak n f links F L && (weak n f links F R && eqb (meet L R) 0))) ≡ true → breaks n f links F L R ≡ true
  unfolding is_split is_bad weak
  weak_breaks e =
      let fl : eqb (meet F L) 0 ≡ true = search bools depth 9 in
      let fr : eqb (meet F R) 0 ≡ true = search bools depth 9 in
      let lr : eqb (meet L R) 0 ≡ true = search bools depth 9 in
      let sf : leb (size F) f ≡ true = search bools depth 9 in
      let nl : eqb L 0 ≡ false = search bools depth 9 in
      let nr : eqb R 0 ≡ false = search bools depth 9 in
      let hr : leb (outside n links F R) f ≡ true = search bools depth 9 in
      let hl : leb (outside n links F L) f ≡ true = search bools depth 9 in
      let a = right_outside fl in
      let b = left_outside fr in
      cc

  pub split_weak : breaks n f links F L R ≡ (leb (size F) f && (weak n f links F L && (weak n f links F R && eqb (meet L R) 0)))
  split_weak =
      same (breaks n f links F L R) (leb (size F) f && (weak n f links F L && (weak n f links F R && eqb (meet L R) 0))) breaks_weak weak_breaks

  -- one failed test makes the split no bad one
  none_at : breaks n f links F L R ≡ false → bad_at n f links F L R ≡ good
  unfolding bad_at
  none_at e = rw e refl

  none_large : leb (size F) f ≡ false → bad_at n f links F L R ≡ good
  none_large e = none_at (split_weak ∙ cc)

  none_left : weak n f links F L ≡ false → bad_at n f links F L R ≡ good
  none_left e = none_at (split_weak ∙ cases (leb (size F) f) (λ x. cc) (λ x. cc))

  pub none_right : weak n f links F R ≡ false → bad_at n f links F L R ≡ good
  none_right e = none_at (split_weak ∙ cases (leb (size F) f) (λ x. cases (weak n f links F L) (λ y. cc) (λ y. cc)) (λ x. cc))

  pub none_empty : R ≡ 0 → bad_at n f links F L R ≡ good
  none_empty z = none_right (ap (weak n f links F) z ∙ weak_empty n f links F)

  none_meeting : eqb (meet L R) 0 ≡ false → bad_at n f links F L R ≡ good
  none_meeting e =
      none_at (split_weak ∙ cases (leb (size F) f) (λ x. cases (weak n f links F L) (λ y. cases (weak n f links F R) (λ z. cc) (λ z. cc)) (λ y. cc)) (λ x. cc))

  -- a set that meets F or L is no R
  pub none_busy : R < 2 ^ n → (meet R (union F L) ≡ 0 → ⊥) → bad_at n f links F L R ≡ good
  none_busy h o =
      cases (eqb (meet L R) 0)
      (λ a. none_right (weak_meets n f links F R (λ b. o (apart_union n R F L h (meet_comm R F ∙ b) (meet_comm R L ∙ eqb-true (meet L R) 0 a)))))
      none_meeting

  pub bad_here : leb (size F) f ≡ true → weak n f links F L ≡ true → weak n f links F R ≡ true → eqb (meet L R) 0 ≡ true → bad_at n f links F L R ≡ bad F L (rest n F L R) R
  unfolding bad_at
  bad_here a b c d = let e : breaks n f links F L R ≡ true = split_weak ∙ cc in rw e refl

module _ (n f : ℕ) (links : Links) (F : ℕ) where
  pub no_sides : (L : ℕ) → weak n f links F L ≡ false → bad_with_sides n f links F L ≡ good
  unfolding bad_with_sides
  no_sides L e = first_from_all (2 ^ n) 0 (bad_at n f links F L) (λ R h k. none_left n f links F L R e)

  pub no_faults : leb (size F) f ≡ false → bad_with_faults n f links F ≡ good
  unfolding bad_with_faults bad_with_sides
  no_faults e =
      first_from_all (2 ^ n) 0 (bad_with_sides n f links F)
      (λ L h k. first_from_all (2 ^ n) 0 (bad_at n f links F L) (λ R h k. none_large n f links F L R e))
