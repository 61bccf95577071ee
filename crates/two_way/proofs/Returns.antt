-- Links that all have a return.
--     no_one_way    if each link has a return, there is none without
--     two_way       no link without return: a link one way is a link the other way
--     unlike_is     what the code compares is whether some link has no return; compared-.. its loop
-- Assumes nothing.
use mathlib.Core.Path.{◌≡◌, sym, ap, ◌∙◌}
use mathlib.Core.Bool.{true, false, not, ◌&&◌}
use mathlib.Core.List.{List}
use Prim.Native.Nat.{ℕ, ◌+◌, ◌≤◌, ◌<◌}
use native.Mathlib.Omega.{arith}
use lib.Dec.{eqb, ltb}
use lib.ListN.{get_or}
use borrow.Author.Tests.{eq-eqb, ne_eqb, lt-ltb, ltb-true, ltb-false}
use Rattle.facts.proofs.Bools.{cases, clash, same, and_left, and_right, not_true}
use Rattle.sets.specs.Sets.{Set, has}
use Rattle.sets.proofs.Members.{same_all}
use Rattle.network.specs.Links.{Links, linked_in}
use Rattle.network.specs.Rows.{rows_of}
use Rattle.network.specs.Proper.{Proper}
use Rattle.network.proofs.LinkRows.{rows_linked}
use Rattle.split.specs.Split.{some_below}
use Rattle.split.specs.Sources.{SourceRows}
use Rattle.split.proofs.SourceRows.{rows_has}
use Rattle.split.proofs.Neighbours.{some_at, some_of, none_of}
use Rattle.two_way.specs.Separation.{one_way}
use Rattle.two_way.specs.Scan.{unlike}
use Rattle.two_way.specs.Least.{TwoWay}

-- the link from u to v has no return
abbrev unanswered : Links → ℕ → Set
unanswered links u v = linked_in links u v && not (linked_in links v u)

module _ (n f : ℕ) (links : Links) (p : Proper n f links) where
  one_way_lem : (u v : ℕ) → linked_in links u v ≡ true → linked_in links v u ≡ false → one_way n links ≡ true
  unfolding one_way
  one_way_lem u v e q =
      some_of n (λ (u : ℕ). some_below n (unanswered links u)) u (p.from u v e)
      (some_of n (unanswered links u) v (p.to u v e) (let z = q in cc))

  pub no_one_way : TwoWay (linked_in links) → one_way n links ≡ false
  unfolding one_way
  no_one_way back =
      none_of n (λ (u : ℕ). some_below n (unanswered links u))
      (λ u h. none_of n (unanswered links u) (λ v k. cases (linked_in links u v) (λ e. let r = back u v e in cc) (λ e. cc)))

  pub two_way : one_way n links ≡ false → (u v : ℕ) → linked_in links u v ≡ linked_in links v u
  two_way h u v = same (linked_in links u v) (linked_in links v u) (back u v) (back v u)
    where
      back : (u v : ℕ) → linked_in links u v ≡ true → linked_in links v u ≡ true
      back u v e = cases (linked_in links v u) (λ x. x) (λ x. clash (one_way n links) (one_way_lem u v e x) h)

  module _ (rows sources : List ℕ) (r : rows ≡ rows_of (linked_in links)) (so : SourceRows links sources) where
    row_of : (u v : ℕ) → has (get_or rows u 0) v ≡ linked_in links u v
    row_of u v = ap (λ (l : List ℕ). has (get_or l u 0) v) r ∙ rows_linked n f links p u v

    source_of : (u v : ℕ) → u < 8 → has (get_or sources u 0) v ≡ linked_in links v u
    source_of u v h =
        rows_has links sources so u h v
        ∙ cases (linked_in links v u)
        (λ e. let a = p.from v u e in let m = p.most in let t = lt-ltb v 8 (omega arith) in cc)
        (λ e. cases (ltb v 8) (λ t. cc) (λ t. cc))

    alike : one_way n links ≡ false → unlike rows sources ≡ false
    unfolding unlike
    alike h =
        none_of 8 (λ (u : ℕ). not (eqb (get_or rows u 0) (get_or sources u 0)))
        (λ u k. ap not (eq-eqb (get_or rows u 0) (get_or sources u 0) (same_all (get_or rows u 0) (get_or sources u 0) (λ v. row_of u v ∙ two_way h u v ∙ sym (source_of u v k)))))

    differs : one_way n links ≡ true → unlike rows sources ≡ true
    unfolding unlike one_way
    differs h =
        let a = some_at n (λ (u : ℕ). some_below n (unanswered links u)) h in
        let b = some_at n (unanswered links a.0) a.2 in
        at a.0 b.0 (and_left (linked_in links a.0 b.0) (not (linked_in links b.0 a.0)) b.2)
        (not_true (linked_in links b.0 a.0) (and_right (linked_in links a.0 b.0) (not (linked_in links b.0 a.0)) b.2))
      where
        at : (u v : ℕ) → linked_in links u v ≡ true → linked_in links v u ≡ false → some_below 8 (λ (u : ℕ). not (eqb (get_or rows u 0) (get_or sources u 0))) ≡ true
        at u v e q =
            let k : u < 8 = let a = p.from u v e in let m = p.most in omega arith in
            some_of 8 (λ (u : ℕ). not (eqb (get_or rows u 0) (get_or sources u 0))) u k
            (ap not (ne_eqb (get_or rows u 0) (get_or sources u 0) (λ same. clash (has (get_or rows u 0) v) (row_of u v ∙ e) (ap (λ (x : ℕ). has x v) same ∙ source_of u v k ∙ q))))

    pub unlike_is : unlike rows sources ≡ one_way n links
    unlike_is = cases (one_way n links) (λ e. differs e ∙ sym e) (λ e. alike e ∙ sym e)

-- the loop of `unlike`: no server below u has other links than sources
pub record Compared (rows sources : List ℕ) (u : ℕ) : Type 0 where
  pub inside : u ≤ 8
  pub none : (v : ℕ) → v < u → get_or rows v 0 ≡ get_or sources v 0

pub compared_starts : (rows sources : List ℕ) → Compared rows sources 0
compared_starts rows sources = record { inside = omega arith; none = λ v h. absurd (omega arith) }

module _ (rows sources : List ℕ) (u : ℕ) (s : Compared rows sources u) where
  pub compared_goes : u < 8 → get_or rows u 0 ≡ get_or sources u 0 → Compared rows sources (u + 1)
  compared_goes h e =
      record {
        inside = omega arith;
        none = λ v k. cases (ltb v u) (λ q. s.none v (ltb-true v u q)) (λ q. let p = ltb-false v u q in let z : u ≡ v = omega arith in rw z at e);
      }

  pub compared_differs : u < 8 → (get_or rows u 0 ≡ get_or sources u 0 → ⊥) → true ≡ unlike rows sources
  unfolding unlike
  compared_differs h o =
      sym (some_of 8 (λ (u : ℕ). not (eqb (get_or rows u 0) (get_or sources u 0))) u h (ap not (ne_eqb (get_or rows u 0) (get_or sources u 0) o)))

  pub compared_ends : 8 ≤ u → false ≡ unlike rows sources
  unfolding unlike
  compared_ends h =
      sym (none_of 8 (λ (u : ℕ). not (eqb (get_or rows u 0) (get_or sources u 0))) (λ v k. ap not (eq-eqb (get_or rows v 0) (get_or sources v 0) (s.none v (omega arith)))))
