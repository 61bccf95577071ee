-- The rows of sources and the tables of halves, as the code makes and reads them: the loops on plain numbers, each by membership, for every
-- server at once.
--     someBelow-..     a test on servers: those beyond n, two halves
--     to-..            the loop of `sources`: the servers below u with a link to v
--     rows-..          the loop of `source_rows`; rows_has by membership
--     half-..          what `into_half` computes, and the loop of `half_table`; half_has by membership
--     rows_give        the rows give the servers of V with a link into a set
--     tables_give      and so do the two tables; halves_into: the same of a network's tables
-- Assumes nothing.
use mathlib.Core.Path.{◌≡◌, refl, sym, ap, ap₂, ◌∙◌}
use mathlib.Core.Bool.{Bool, true, false, cond, ◌&&◌, ◌||◌, or-false, or_assoc}
use mathlib.Core.List.{List, []}
use Prim.Native.Nat.{ℕ, zero, suc, ◌+◌, ◌-◌, ◌*◌, ◌/◌, ◌%◌, ◌^◌, ◌≤◌, ◌<◌}
use native.Mathlib.Omega.{arith}
use lib.ListN.{length, get_or, set, length-set}
use lib.Seq.{get_or-set_same, get_or-set_other}
use lib.Dec.{eqb, ltb}
use lib.Pow.{pow_mono}
use borrow.Author.Tests.{lt-ltb, le-ltb, eqb-true, eqb-false, ltb-true, ltb-false}
use Rattle.facts.proofs.Bools.{cases, same}
use Rattle.sets.specs.Sets.{Set, has, union, single, encode}
use Rattle.sets.proofs.Members.{has_union, has_single, single_is, has_empty, has_beyond, has_mod, has_div, encode_has, encode_small, same_all}
use Rattle.network.specs.Links.{Links, linked_in}
use Rattle.network.specs.Proper.{Proper}
use Rattle.split.specs.Split.{some_below}
use Rattle.split.specs.Sources.{sources_to, SourceRows, SourcesOf, Sources, row_if, into_half, HalfTable, into_of, into_rows, Halves}
use Rattle.split.proofs.Neighbours.{some_below_same, none_of}

pub some_below_beyond : (n k : ℕ) (p : Set) → ((i : ℕ) → n ≤ i → p i ≡ false) → some_below (k + n) p ≡ some_below n p
unfolding some_below
some_below_beyond n zero p h = let e : 0 + n ≡ n = omega arith in rw e refl
some_below_beyond n (suc k) p h =
    let ih = some_below_beyond n k p h in
    let e = h (k + n) (omega arith) in
    let s : suc k + n ≡ suc (k + n) = omega arith in
    rw s (rw e ih)

-- the servers below m, and the k from m on
pub some_below_halves : (k m : ℕ) (p : Set) → some_below (k + m) p ≡ (some_below k (λ (i : ℕ). p (m + i)) || some_below m p)
unfolding some_below
some_below_halves zero m p = let e : 0 + m ≡ m = omega arith in rw e refl
some_below_halves (suc k) m p =
    let ih = some_below_halves k m p in
    let s : suc k + m ≡ suc (k + m) = omega arith in
    let t : m + k ≡ k + m = omega arith in
    rw (s, t, ih) (sym (or_assoc (p (k + m)) (some_below k (λ (i : ℕ). p (m + i))) (some_below m p)))

ltb_next : (w u : ℕ) → (u ≡ w → ⊥) → ltb w (u + 1) ≡ ltb w u
ltb_next w u other =
    same (ltb w (u + 1)) (ltb w u) (λ e. lt-ltb w u (let h = ltb-true w (u + 1) e in omega arith)) (λ e. lt-ltb w (u + 1) (let h = ltb-true w u e in omega arith))

-- sources

pub to_starts : (links : Links) (v : ℕ) → SourcesOf links v 0 0
to_starts links v w = let e = le-ltb w 0 (omega arith) in let z = has_empty w in cc

module _ (links : Links) (v u row : ℕ) (so : SourcesOf links v u row) where
  pub to_joins : u < 8 → get_or (get_or links u []) v false ≡ true → (row' : ℕ) → row' ≡ union row (1 * 2 ^ u % 2 ^ 8) → SourcesOf links v (u + 1) row'
  unfolding linked_in
  to_joins k t row' e w =
      let h = so w in
      let j : has row' w ≡ (has row w || (ltb u 8 && eqb u w)) = ap (λ (x : ℕ). has x w) (e ∙ ap (union row) (single_is u k)) ∙ has_union row (single u) w ∙ ap (λ (x : Bool). has row w || x) (has_single u w) in
      let l = lt-ltb u 8 k in
      cases (eqb u w)
      (λ x. here x (eqb-true u w x) h j l)
      (λ x. let n = ltb_next w u (eqb-false u w x) in cases (has row w) (λ y. cc) (λ y. cc))
    where
      here : eqb u w ≡ true → u ≡ w → has row w ≡ (ltb w u && get_or (get_or links w []) v false) → has row' w ≡ (has row w || (ltb u 8 && eqb u w)) → ltb u 8 ≡ true
          → has row' w ≡ (ltb w (u + 1) && get_or (get_or links w []) v false)
      here x p h j l =
          let n : ltb w (u + 1) ≡ true = lt-ltb w (u + 1) (omega arith) in
          let m : get_or (get_or links w []) v false ≡ true = ap (λ (y : ℕ). get_or (get_or links y []) v false) (sym p) ∙ t in
          cases (has row w) (λ y. cc) (λ y. cc)

  pub to_passes : get_or (get_or links u []) v false ≡ false → SourcesOf links v (u + 1) row
  unfolding linked_in
  to_passes t w =
      let h = so w in
      cases (eqb u w)
      (λ x. let p = eqb-true u w x in
      let m : get_or (get_or links w []) v false ≡ false = ap (λ (y : ℕ). get_or (get_or links y []) v false) (sym p) ∙ t in
      cases (ltb w u) (λ y. cases (ltb w (u + 1)) (λ z. cc) (λ z. cc)) (λ y. cases (ltb w (u + 1)) (λ z. cc) (λ z. cc)))
      (λ x. let n = ltb_next w u (eqb-false u w x) in cc)

-- source_rows

-- the row that the loop ends with is the definition's
sources_has : (links : Links) (v : ℕ) → SourcesOf links v 8 (sources_to links v)
unfolding sources_to
sources_has links v u =
    cases (ltb u 8)
    (λ q. encode_has 8 (λ (u : ℕ). linked_in links u v) u (ltb-true u 8 q) ∙ (let z = q in cc))
    (λ q. has_beyond 8 (encode 8 (λ (u : ℕ). linked_in links u v)) u (encode_small 8 (λ (u : ℕ). linked_in links u v)) (ltb-false u 8 q) ∙ (let z = q in cc))

pub to_ends : (links : Links) (v u row : ℕ) → SourcesOf links v u row → u ≡ 8 → row ≡ sources_to links v
to_ends links v u row so e = same_all row (sources_to links v) (λ w. (rw e at so) w ∙ sym (sources_has links v w))

pub record Rows (links : Links) (v : ℕ) (rows : List ℕ) : Type 0 where
  pub inside : v ≤ 8
  pub long : length rows ≡ 8
  pub made : (x : ℕ) → x < v → get_or rows x 0 ≡ sources_to links x

pub rows_start : (links : Links) (rows : List ℕ) → length rows ≡ 8 → Rows links 0 rows
rows_start links rows l = record { inside = omega arith; long = l; made = λ x h. absurd (omega arith) }

pub rows_turn : (links : Links) (v : ℕ) (rows : List ℕ) → Rows links v rows → v < 8 → (row : ℕ) → row ≡ sources_to links v → Rows links (v + 1) (set rows v row)
rows_turn links v rows r k row so =
    record {
      inside = omega arith;
      long = simp length-set r.long;
      made = λ x h. cases (eqb x v) (λ q. here x (eqb-true x v q)) (λ q. get_or-set_other rows v x row 0 (eqb-false x v q) ∙ r.made x (let o = eqb-false x v q in omega arith));
    }
  where
    here : (x : ℕ) → x ≡ v → get_or (set rows v row) x 0 ≡ sources_to links x
    here x q = rw q (let l = r.long in get_or-set_same rows v row 0 (omega arith) ∙ so)

pub rows_has : (links : Links) (rows : List ℕ) → SourceRows links rows → (v : ℕ) → v < 8 → SourcesOf links v 8 (get_or rows v 0)
rows_has links rows r v h u = ap (λ (x : ℕ). has x u) (r v h) ∙ sources_has links v u

-- a proper network has links from servers of V alone
pub sources_proper : (n f : ℕ) (links : Links) (rows : List ℕ) → Proper n f links → SourceRows links rows → Sources n links rows
sources_proper n f links rows p r v h u =
    rows_has links rows r v h u
    ∙ cases (linked_in links u v)
    (λ e. let a = p.from u v e in let m = p.most in let x = lt-ltb u 8 (omega arith) in let y = lt-ltb u n a in cc)
    (λ e. cases (ltb u 8) (λ x. cases (ltb u n) (λ y. cc) (λ y. cc)) (λ x. cases (ltb u n) (λ y. cc) (λ y. cc)))

-- into_half

pub half_made : (rows : List ℕ) (first x a b c d ab abc abcd : ℕ)
    → a ≡ cond (has x 0) (get_or rows first 0) 0 → b ≡ cond (has x 1) (get_or rows (first + 1) 0) 0
    → c ≡ cond (has x 2) (get_or rows (first + 2) 0) 0 → d ≡ cond (has x 3) (get_or rows (first + 3) 0) 0
    → ab ≡ union b a → abc ≡ union c ab → abcd ≡ union d abc → abcd ≡ into_half rows first x
unfolding into_half row_if
half_made rows first x a b c d ab abc abcd ea eb ec ed p q r = let z : first + 0 ≡ first = omega arith in rw z (cc)

has_kept : (b : Bool) (row u : ℕ) → has (cond b row 0) u ≡ (b && has row u)
has_kept true row u = refl
has_kept false row u = has_empty u

row_has : (rows : List ℕ) (first x i u : ℕ) → has (row_if rows first x i) u ≡ (has x i && has (get_or rows (first + i) 0) u)
unfolding row_if
row_has rows first x i u = has_kept (has x i) (get_or rows (first + i) 0) u

-- the servers in the rows of the members of x, by membership
half_has : (rows : List ℕ) (first x u : ℕ) → has (into_half rows first x) u ≡ some_below 4 (λ (i : ℕ). has x i && has (get_or rows (first + i) 0) u)
unfolding into_half some_below
half_has rows first x u =
    let a = kept 0 in
    let b = kept 1 in
    let c = kept 2 in
    let d = kept 3 in
    let i = has_union (row_if rows first x 1) (row_if rows first x 0) u in
    let j = has_union (row_if rows first x 2) (union (row_if rows first x 1) (row_if rows first x 0)) u in
    let k = has_union (row_if rows first x 3) (union (row_if rows first x 2) (union (row_if rows first x 1) (row_if rows first x 0))) u in
    let o = or-false (has (row_if rows first x 0) u) in
    cc
  where
    kept : (i : ℕ) → has (row_if rows first x i) u ≡ (has x i && has (get_or rows (first + i) 0) u)
    kept i = row_has rows first x i u

-- half_table

pub record Halving (rows : List ℕ) (first x : ℕ) (table : List ℕ) : Type 0 where
  pub inside : x ≤ 16
  pub long : length table ≡ 16
  pub made : (y : ℕ) → y < x → get_or table y 0 ≡ into_half rows first y

pub half_starts : (rows : List ℕ) (first : ℕ) (table : List ℕ) → length table ≡ 16 → Halving rows first 0 table
half_starts rows first table l = record { inside = omega arith; long = l; made = λ y h. absurd (omega arith) }

pub half_turn : (rows : List ℕ) (first x : ℕ) (table : List ℕ) → Halving rows first x table → x < 16 → (into : ℕ) → into ≡ into_half rows first x → Halving rows first (x + 1) (set table x into)
half_turn rows first x table m k into j =
    record {
      inside = omega arith;
      long = simp length-set m.long;
      made = λ y h. cases (eqb y x) (λ q. here y (eqb-true y x q)) (λ q. get_or-set_other table x y into 0 (eqb-false y x q) ∙ m.made y (let o = eqb-false y x q in omega arith));
    }
  where
    here : (y : ℕ) → y ≡ x → get_or (set table x into) y 0 ≡ into_half rows first y
    here y q = rw q (let l = m.long in get_or-set_same table x into 0 (omega arith) ∙ j)

-- the lower and the upper four servers of a set

module _ (n : ℕ) (links : Links) (rows : List ℕ) (few : n ≤ 8) (so : Sources n links rows) (s : ℕ) (small : s < 2 ^ n) (u : ℕ) where
  -- by the rows, u has a link into s exactly if it is a server of V with one
  rows_into : some_below 8 (λ (v : ℕ). has s v && has (get_or rows v 0) u) ≡ (ltb u n && some_below n (λ (v : ℕ). has s v && linked_in links u v))
  rows_into =
      let e : 8 - n + n ≡ 8 = omega arith in
      ap (λ (m : ℕ). some_below m (λ (v : ℕ). has s v && has (get_or rows v 0) u)) (sym e)
      ∙ some_below_beyond n (8 - n) (λ (v : ℕ). has s v && has (get_or rows v 0) u) (λ i h. let b = has_beyond n s i small h in cc)
      ∙ cases (ltb u n) known (λ q. none q ∙ ap (λ (b : Bool). b && some_below n (λ (v : ℕ). has s v && linked_in links u v)) (sym q))
    where
      known : ltb u n ≡ true → some_below n (λ (v : ℕ). has s v && has (get_or rows v 0) u) ≡ (ltb u n && some_below n (λ (v : ℕ). has s v && linked_in links u v))
      known q =
          rw q (some_below_same n (λ (v : ℕ). has s v && has (get_or rows v 0) u) (λ (v : ℕ). has s v && linked_in links u v) (λ i k. let m = so i (omega arith) u in cc))

      none : ltb u n ≡ false → some_below n (λ (v : ℕ). has s v && has (get_or rows v 0) u) ≡ false
      none q = none_of n (λ (v : ℕ). has s v && has (get_or rows v 0) u) (λ i k. let m = so i (omega arith) u in cases (has s i) (λ x. cc) (λ x. cc))

  lower_part : has (into_half rows 0 (s % 16)) u ≡ some_below 4 (λ (i : ℕ). has s i && has (get_or rows i 0) u)
  lower_part =
      half_has rows 0 (s % 16) u
      ∙ some_below_same 4 (λ (i : ℕ). has (s % 16) i && has (get_or rows (0 + i) 0) u) (λ (i : ℕ). has s i && has (get_or rows i 0) u)
      (λ i k. let a = has_mod 4 s i k in let z : 0 + i ≡ i = omega arith in rw z (cc))

  upper_part : has (into_half rows 4 (s / 16)) u ≡ some_below 4 (λ (i : ℕ). has s (4 + i) && has (get_or rows (4 + i) 0) u)
  upper_part =
      half_has rows 4 (s / 16) u
      ∙ some_below_same 4 (λ (i : ℕ). has (s / 16) i && has (get_or rows (4 + i) 0) u) (λ (i : ℕ). has s (4 + i) && has (get_or rows (4 + i) 0) u)
      (λ i k. let a = has_div 4 s i in cc)

  pub rows_give : has (into_rows rows s) u ≡ (ltb u n && some_below n (λ (v : ℕ). has s v && linked_in links u v))
  unfolding into_rows
  rows_give =
      let d = some_below_halves 4 4 (λ (v : ℕ). has s v && has (get_or rows v 0) u) in
      has_union (into_half rows 4 (s / 16)) (into_half rows 0 (s % 16)) u ∙ ap₂ (λ (x y : Bool). x || y) upper_part lower_part ∙ sym d ∙ rows_into

-- into, by the two tables

pub tables_give : (rows lower upper : List ℕ) → HalfTable rows 0 lower → HalfTable rows 4 upper → (s : ℕ) → s < 256 → into_of lower upper s ≡ into_rows rows s
unfolding into_of into_rows
tables_give rows lower upper low high s h = ap₂ union (high (s / 16) (omega arith)) (low (s % 16) (omega arith))

pub halves_into : (n : ℕ) (links : Links) (lower upper : List ℕ) → n ≤ 8 → Halves n links lower upper → (s : ℕ) → s < 2 ^ n → (into : ℕ) → into ≡ into_of lower upper s
    → (u : ℕ) → has into u ≡ (ltb u n && some_below n (λ (v : ℕ). has s v && linked_in links u v))
halves_into n links lower upper few t s small into e u =
    let byte : s < 256 = let m = pow_mono few in omega arith in
    ap (λ (x : ℕ). has x u) (e ∙ tables_give t.rows lower upper t.low t.high s byte) ∙ rows_give n links t.rows few t.sources s small u
