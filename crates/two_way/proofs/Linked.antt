-- Networks in which every two servers are linked: no servers separate them.
--     Joining, joining-..   the loop of `every_linked`: each server below v has, with itself, all servers for its sources
--     every_link            there is a link from each server to each other
--     linked_most           so the least number is n − 1
-- Assumes nothing.
use mathlib.Core.Path.{◌≡◌, refl, sym, ap, ◌∙◌}
use mathlib.Core.Logic.{inl}
use mathlib.Core.Bool.{Bool, true, false, not}
use mathlib.Core.List.{List}
use Prim.Native.Nat.{ℕ, ◌+◌, ◌-◌, ◌≤◌, ◌<◌, min}
use native.Mathlib.Omega.{arith}
use lib.Dec.{eqb, ltb}
use lib.ListN.{get_or}
use borrow.Author.Tests.{eq-eqb, ne_eqb, eqb-true, lt-ltb, ltb-true, ltb-false}
use Rattle.facts.proofs.Bools.{cases, clash, not_true}
use Rattle.sets.specs.Sets.{has, single, union, full}
use Rattle.sets.proofs.Members.{has_union, has_single, has_full}
use Rattle.network.specs.Links.{Links, linked_in}
use Rattle.split.specs.Split.{some_below}
use Rattle.split.specs.Sources.{SourceRows}
use Rattle.split.proofs.SourceRows.{rows_has}
use Rattle.split.proofs.Neighbours.{some_of, none_at, none_of}
use Rattle.two_way.specs.Separation.{others, separable, connectivity}
use Rattle.two_way.specs.Scan.{every_linked}
use Rattle.two_way.proofs.Parts.{parts_separate, separable_found, connectivity_is}

-- all servers, and a row with its own server, as the code makes them
pub all_of : (n servers : ℕ) → n ≤ 8 → servers ≡ full (min n 8) → servers ≡ full n
all_of n servers few e = let w : min n 8 ≡ n = omega arith in e ∙ ap full w

pub with_itself : (row itself v all : ℕ) → itself ≡ single v → all ≡ union row itself → all ≡ union row (single v)
with_itself row itself v all b c = c ∙ ap (union row) b

pub record Joining (n : ℕ) (rows : List ℕ) (v : ℕ) : Type 0 where
  pub inside : v ≤ n
  pub whole : (w : ℕ) → w < v → union (get_or rows w 0) (single w) ≡ full n

pub joining_starts : (n : ℕ) (rows : List ℕ) → Joining n rows 0
joining_starts n rows = record { inside = omega arith; whole = λ w h. absurd (omega arith) }

-- some source is missing at v
abbrev missing : ℕ → List ℕ → ℕ → Bool
missing n rows v = not (eqb (union (get_or rows v 0) (single v)) (full n))

module _ (n : ℕ) (rows : List ℕ) (v : ℕ) (s : Joining n rows v) where
  module _ (servers all : ℕ) (a : servers ≡ full n) (b : all ≡ union (get_or rows v 0) (single v)) (h : v < n) where
    pub joining_goes : all ≡ servers → Joining n rows (v + 1)
    joining_goes e =
        record {
          inside = omega arith;
          whole = λ w k. cases (ltb w v) (λ q. s.whole w (ltb-true w v q)) (λ q. let p = ltb-false w v q in let z : v ≡ w = omega arith in rw z at here);
        }
      where
        here : union (get_or rows v 0) (single v) ≡ full n
        here = cc

    pub joining_misses : (all ≡ servers → ⊥) → false ≡ every_linked n rows
    unfolding every_linked
    joining_misses o =
        sym (ap not (some_of n (missing n rows) v h (ap not (ne_eqb (union (get_or rows v 0) (single v)) (full n) (λ q. o (b ∙ q ∙ sym a))))))

  pub joining_ends : n ≤ v → true ≡ every_linked n rows
  unfolding every_linked
  joining_ends h =
      sym (ap not (none_of n (missing n rows) (λ w k. ap not (eq-eqb (union (get_or rows w 0) (single w)) (full n) (s.whole w (omega arith))))))

module _ (n : ℕ) (links : Links) (rows : List ℕ) (few : n ≤ 8) (so : SourceRows links rows) (e : every_linked n rows ≡ true) where
  every_link : (u v : ℕ) → u < n → v < n → (u ≡ v → ⊥) → linked_in links u v ≡ true
  unfolding every_linked
  every_link u v h k other =
      let a = none_at n (missing n rows) (not_true (some_below n (missing n rows)) e) v k in
      let b : union (get_or rows v 0) (single v) ≡ full n = cases (eqb (union (get_or rows v 0) (single v)) (full n)) (λ q. eqb-true (union (get_or rows v 0) (single v)) (full n) q) (λ q. clash false (let z = q in cc) refl) in
      let c : has (union (get_or rows v 0) (single v)) u ≡ true = ap (λ (x : ℕ). has x u) b ∙ has_full n u ∙ lt-ltb u n h in
      let d = has_union (get_or rows v 0) (single v) u in
      let f = has_single v u in
      let g = ne_eqb v u (λ q. other (sym q)) in
      let i = rows_has links rows so v (omega arith) u in
      cases (linked_in links u v) (λ x. x) (λ x. cases (ltb v 8) (λ y. cases (ltb u 8) (λ z. cc) (λ z. cc)) (λ y. cases (ltb u 8) (λ z. cc) (λ z. cc)))

  pub linked_most : n - 1 ≡ connectivity n links
  linked_most = connectivity_is n links (n - 1) (omega arith) (inl refl) (λ j s. absurd (none j s))
    where
      none : (j : ℕ) → separable n links j ≡ true → ⊥
      none j s =
          let w = separable_found n links j s in
          let p = parts_separate n links w.away w.part few w.part_small w.here in
          let l = p.left in
          let r = p.right in
          clash (linked_in links l.0 r.0)
          (every_link l.0 r.0 l.1 r.1 (λ q. p.LR l.0 l.1 l.2 (ap (λ (x : ℕ). has (others n w.away w.part) x) q ∙ r.2)))
          (p.no_link_lr l.0 r.0 l.1 r.1 l.2 r.2)
