-- The rows of links, as the code makes them and as a user reads them.
--     rows_made      the rows one by one, each from its marks
--     rows_none      without links every row is empty
--     rows_at        row u of the rows is the row of u
--     row_has        the row of u has v exactly if there is a link from u to v
--     rows_linked    the rows of a proper network say of any two servers whether there is a link
--     linked_row     there is a link from u to v in the links of rows exactly if row u has v
--     links_back     the links of the rows of links are the links
-- Assumes nothing.
use mathlib.Core.Path.{◌≡◌, refl, sym, ap, ◌∙◌}
use mathlib.Core.Bool.{Bool, false}
use mathlib.Core.List.{List, [], ◌∷◌}
use Prim.Native.Nat.{ℕ, zero, suc, ◌+◌, ◌≤◌, ◌<◌}
use native.Mathlib.Nat.{add-zero, zero-add, suc-add, add-suc}
use native.Mathlib.Omega.{arith}
use lib.ListN.{length, get_or, drop, get_or-eq_default}
use lib.Seq.{drop-cons, drop-length}
use lib.Dec.{ltb}
use borrow.Author.Tests.{ltb-true, ltb-false}
use Rattle.facts.proofs.Bools.{cases, is_false}
use Rattle.sets.specs.Sets.{Set, has, encode}
use Rattle.sets.proofs.Members.{has_empty, has_beyond, encode_has, encode_small}
use Rattle.network.specs.Links.{Links, no_links, linked_in}
use Rattle.network.specs.Proper.{Proper}
use Rattle.network.specs.Rows.{row_of, rows_from, rows_of, marks_from, links_from, links_of}

-- the marks of row u as a set
abbrev marked_at : Links → ℕ → ℕ
marked_at links u = encode 8 (λ (v : ℕ). get_or (get_or links u []) v false)

pub rows_made : (links : Links) (a b c d e f g h : ℕ)
    → a ≡ marked_at links 0 → b ≡ marked_at links 1 → c ≡ marked_at links 2 → d ≡ marked_at links 3
    → e ≡ marked_at links 4 → f ≡ marked_at links 5 → g ≡ marked_at links 6 → h ≡ marked_at links 7
    → a ∷ b ∷ c ∷ d ∷ e ∷ f ∷ g ∷ h ∷ [] ≡ rows_of (linked_in links)
unfolding rows_of rows_from row_of linked_in
rows_made links a b c d e f g h p q r s t u v w = cc

pub rows_none : rows_of (linked_in no_links) ≡ 0 ∷ 0 ∷ 0 ∷ 0 ∷ 0 ∷ 0 ∷ 0 ∷ 0 ∷ []
unfolding rows_of rows_from row_of linked_in no_links encode
rows_none = refl

rows_long : (k u : ℕ) (E : ℕ → Set) → length (rows_from k u E) ≡ k
unfolding rows_from
rows_long zero u E = refl
rows_long (suc k) u E = ap suc (rows_long k (suc u) E)

rows_from_lem : (k u : ℕ) (E : ℕ → Set) (x : ℕ) → x < k → get_or (rows_from k u E) x 0 ≡ row_of E (u + x)
unfolding rows_from
rows_from_lem zero u E x h = absurd (omega arith)
rows_from_lem (suc k) u E zero h = rw add-zero refl
rows_from_lem (suc k) u E (suc x) h = rw (add-suc, ← suc-add) (rows_from_lem k (suc u) E x (omega arith))

module _ (E : ℕ → Set) where
  pub rows_at : (u : ℕ) → u < 8 → get_or (rows_of E) u 0 ≡ row_of E u
  unfolding rows_of
  rows_at u h = rw zero-add at (rows_from_lem 8 0 E u h)

  rows_past : (u : ℕ) → 8 ≤ u → get_or (rows_of E) u 0 ≡ 0
  unfolding rows_of
  rows_past u h = let l = rows_long 8 0 E in get_or-eq_default (rows_from 8 0 E) 0 (omega arith)

  pub row_has : (u v : ℕ) → v < 8 → has (row_of E u) v ≡ E u v
  unfolding row_of
  row_has u v h = encode_has 8 (E u) v h

  row_past : (u v : ℕ) → 8 ≤ v → has (row_of E u) v ≡ false
  unfolding row_of
  row_past u v h = has_beyond 8 (encode 8 (E u)) v (encode_small 8 (E u)) h

-- past the eighth server there is neither a row nor a link
module _ (n f : ℕ) (links : Links) (p : Proper n f links) (u v : ℕ) where
  none_from : 8 ≤ u → linked_in links u v ≡ false
  none_from h = is_false (linked_in links u v) (λ e. let a = p.from u v e in let m = p.most in omega arith)

  none_to : 8 ≤ v → linked_in links u v ≡ false
  none_to h = is_false (linked_in links u v) (λ e. let a = p.to u v e in let m = p.most in omega arith)

  row_linked : u < 8 → has (get_or (rows_of (linked_in links)) u 0) v ≡ linked_in links u v
  row_linked h =
      ap (λ (row : ℕ). has row v) (rows_at (linked_in links) u h)
      ∙ cases (ltb v 8)
      (λ e. row_has (linked_in links) u v (ltb-true v 8 e))
      (λ e. let k = ltb-false v 8 e in row_past (linked_in links) u v k ∙ sym (none_to k))

  pub rows_linked : has (get_or (rows_of (linked_in links)) u 0) v ≡ linked_in links u v
  rows_linked =
      cases (ltb u 8)
      (λ e. row_linked (ltb-true u 8 e))
      (λ e. let k = ltb-false u 8 e in ap (λ (row : ℕ). has row v) (rows_past (linked_in links) u k) ∙ has_empty v ∙ sym (none_from k))

-- the links of rows

marks_at : (k v : ℕ) (p : Set) (x : ℕ) → x < k → get_or (marks_from k v p) x false ≡ p (v + x)
unfolding marks_from
marks_at zero v p x h = absurd (omega arith)
marks_at (suc k) v p zero h = rw add-zero refl
marks_at (suc k) v p (suc x) h = rw (add-suc, ← suc-add) (marks_at k (suc v) p x (omega arith))

links_at : (k u : ℕ) (rows : List ℕ) (x : ℕ) → x < k → get_or (links_from k u rows) x [] ≡ marks_from 8 0 (has (get_or rows (u + x) 0))
unfolding links_from
links_at zero u rows x h = absurd (omega arith)
links_at (suc k) u rows zero h = rw add-zero refl
links_at (suc k) u rows (suc x) h = rw (add-suc, ← suc-add) (links_at k (suc u) rows x (omega arith))

row_at : (rows : List ℕ) (u : ℕ) → u < 8 → get_or (links_of rows) u [] ≡ marks_from 8 0 (has (get_or rows u 0))
unfolding links_of
row_at rows u h = rw zero-add at (links_at 8 0 rows u h)

pub linked_row : (rows : List ℕ) (u v : ℕ) → u < 8 → v < 8 → linked_in (links_of rows) u v ≡ has (get_or rows u 0) v
unfolding linked_in
linked_row rows u v h l =
    let e = marks_at 8 0 (has (get_or rows u 0)) v l in
    let z : 0 + v ≡ v = omega arith in
    ap (λ (row : List Bool). get_or row v false) (row_at rows u h) ∙ e ∙ ap (has (get_or rows u 0)) z

-- marks that say what the row says are the row
marks_back : (k v : ℕ) (p : Set) (row : List Bool) → length row ≡ v + k → ((x : ℕ) → x < v + k → p x ≡ get_or row x false) → marks_from k v p ≡ drop v row
unfolding marks_from
marks_back zero v p row l e = let z : v ≡ length row = omega arith in sym (rw z (drop-length row))
marks_back (suc k) v p row l e =
    ap (λ (b : Bool). b ∷ marks_from k (suc v) p) (e v (omega arith))
    ∙ ap (λ (t : List Bool). get_or row v false ∷ t) (marks_back k (suc v) p row (omega arith) (λ x h. e x (omega arith)))
    ∙ sym (drop-cons row v false (omega arith))

module _ (links : Links) (eight : (u : ℕ) → u < 8 → length (get_or links u []) ≡ 8) where
  row_back : (u : ℕ) → u < 8 → marks_from 8 0 (has (get_or (rows_of (linked_in links)) u 0)) ≡ get_or links u []
  unfolding linked_in
  row_back u h =
      rw (rows_at (linked_in links) u h)
      (marks_back 8 0 (has (row_of (linked_in links) u)) (get_or links u []) (eight u h) (λ x l. row_has (linked_in links) u x l))

  rows_back : (k u : ℕ) → length links ≡ u + k → u + k ≤ 8 → links_from k u (rows_of (linked_in links)) ≡ drop u links
  unfolding links_from
  rows_back zero u l h = let z : u ≡ length links = omega arith in sym (rw z (drop-length links))
  rows_back (suc k) u l h =
      ap (λ (row : List Bool). row ∷ links_from k (suc u) (rows_of (linked_in links))) (row_back u (omega arith))
      ∙ ap (λ (t : Links). get_or links u [] ∷ t) (rows_back k (suc u) (omega arith) (omega arith))
      ∙ sym (drop-cons links u [] (omega arith))

  pub links_back : length links ≡ 8 → links_of (rows_of (linked_in links)) ≡ links
  unfolding links_of
  links_back l = rows_back 8 0 l (omega arith)
