-- The scan over the parts without the last server: the least number of servers that cut one of them off is the least number that separates.
--     Searched       what the scan has found among the parts below one
--     searched-..    its start, one part more, the end, and the end at 0
--     Scan           the invariant: the same for all links that the tables are those of
-- Assumes nothing.
use mathlib.Core.Path.{◌≡◌, refl, sym, ap, ◌∙◌}
use mathlib.Core.Logic.{◌⊎◌, inl, inr}
use mathlib.Core.Bool.{true}
use mathlib.Core.List.{List}
use Prim.Native.Nat.{ℕ, zero, suc, ◌+◌, ◌-◌, ◌*◌, ◌/◌, ◌^◌, ◌≤◌, ◌<◌, min}
use native.Mathlib.Omega.{arith}
use lib.Dec.{eqb, ltb}
use lib.Pow.{pow_pos}
use borrow.Author.Tests.{ltb-true, ltb-false}
use Rattle.facts.proofs.Bools.{cases}
use Rattle.sets.specs.Sets.{full, size}
use Rattle.sets.proofs.Members.{pow_double}
use Rattle.network.specs.Links.{Links, linked_in}
use Rattle.split.specs.Sources.{Sources}
use Rattle.two_way.specs.Separation.{others, separable, connectivity}
use Rattle.two_way.specs.Scan.{neighbours, cut_off, cut_rows}
use Rattle.two_way.proofs.Parts.{parts_separable, separable_found, connectivity_is}
use Rattle.two_way.proofs.Linked.{all_of}
use Rattle.two_way.proofs.Around.{around_small, around_parts, low_part, cut_is}

-- each link has a return
abbrev pub Back : Links → Type 0
Back links = (u v : ℕ) → linked_in links u v ≡ linked_in links v u

pub record Searched (n : ℕ) (links : Links) (least part : ℕ) : Type 0 where
  pub met : (least ≡ n - 1) ⊎ (separable n links least ≡ true)
  pub passed : (L : ℕ) → 0 < L → L < part → least ≤ cut_off n links (n - 1) L

module _ (n : ℕ) (links : Links) where
  pub searched_starts : Searched n links (n - 1) 1
  searched_starts = record { met = inl refl; passed = λ L a b. absurd (omega arith) }

  -- fewer than n − 1 servers that cut a part off are servers that separate
  cut_separable : Back links → (L : ℕ) → 0 < L → L < 2 ^ n → (k : ℕ) → k ≡ cut_off n links (n - 1) L → k < n - 1 → separable n links k ≡ true
  unfolding cut_off
  cut_separable back L some small k e h =
      cases (eqb (others n (neighbours n links L) L) 0)
      (λ z. absurd (let q : k ≡ n - 1 = rw z at e in omega arith))
      (λ z. let q : k ≡ size (neighbours n links L) = rw z at e in
      ap (separable n links) q ∙ parts_separable n links (neighbours n links L) L (around_small n links L) small (around_parts n links back L some z))

  -- one part more
  passed_more : (k part : ℕ) → ((L : ℕ) → 0 < L → L < part → k ≤ cut_off n links (n - 1) L) → k ≤ cut_off n links (n - 1) part
      → (L : ℕ) → 0 < L → L < part + 1 → k ≤ cut_off n links (n - 1) L
  passed_more k part before here L a b =
      cases (ltb L part)
      (λ q. before L a (ltb-true L part q))
      (λ q. let p = ltb-false L part q in let z : part ≡ L = omega arith in rw z at here)

  module _ (back : Back links) (least part taken : ℕ) (s : Searched n links least part) (some : 0 < part) (small : part < 2 ^ n) (e : taken ≡ cut_off n links (n - 1) part) where
    pub searched_less : least ≤ n - 1 → taken < least → Searched n links taken (part + 1)
    searched_less most h =
        record {
          met = inr (cut_separable back part some small taken e (omega arith));
          passed = passed_more taken part (λ L a b. let p = s.passed L a b in omega arith) (omega arith);
        }

    pub searched_kept : least ≤ taken → Searched n links least (part + 1)
    searched_kept h = record { met = s.met; passed = passed_more least part s.passed (omega arith) }

    pub searched_nothing : 2 ≤ n → taken ≡ 0 → 0 ≡ connectivity n links
    searched_nothing two z =
        connectivity_is n links 0 (omega arith) (inr (sym (ap (separable n links) z) ∙ cut_separable back part some small taken e (omega arith))) (λ j h. omega arith)

pub searched_ends : (n : ℕ) (links : Links) (least part : ℕ) → 2 ≤ n → n ≤ 8 → least ≤ n - 1 → Searched n links least part → 2 ^ n ≤ 2 * part → least ≡ connectivity n links
searched_ends zero links least part two few most s h = absurd (omega arith)
searched_ends (suc m) links least part two few most s h =
    connectivity_is (suc m) links least most s.met
    (λ j e. let w = low_part m links few j (suc m - 1) (separable_found (suc m) links j e) in let p = s.passed w.part w.some (let l = w.low in omega arith) in let q = w.few in omega arith)

pub record Scan (n : ℕ) (rows : List ℕ) (servers half most least part : ℕ) : Type 0 where
  pub two : 2 ≤ n
  pub few : n ≤ 8
  pub servers_are : servers ≡ full n
  pub half_is : 2 * half ≡ 2 ^ n
  pub most_is : most ≡ n - 1
  pub some : 0 < part
  pub inside : part ≤ half
  pub bound : least ≤ most
  pub so : (links : Links) → Back links → Sources n links rows → Searched n links least part

-- half of the 2^n sets do not have the last server
half_of : (n servers half : ℕ) → 2 ≤ n → servers ≡ full n → half ≡ servers / 2 + 1 → 2 * half ≡ 2 ^ n
unfolding full
half_of zero servers half two e h = absurd (omega arith)
half_of (suc m) servers half two e h = let p = pow_double m in let q = pow_pos m in omega arith

module _ (n : ℕ) (rows : List ℕ) (servers half most : ℕ) where
  pub scan_starts : 2 ≤ n → n ≤ 8 → servers ≡ full (min n 8) → half ≡ servers / 2 + 1 → most ≡ n - 1 → Scan n rows servers half most most 1
  scan_starts two few e h m =
      let all = all_of n servers few e in
      let double = half_of n servers half two all h in
      record {
        two = two;
        few = few;
        servers_are = all;
        half_is = double;
        most_is = m;
        some = omega arith;
        inside = omega arith;
        bound = omega arith;
        so = λ links back t. rw (← m) at (searched_starts n links);
      }

  -- how many servers cut a part off, by the rows
  abbrev pub Tells : ℕ → ℕ → Type 0
  Tells taken part = taken ≡ cut_rows rows servers most part

  module _ (least part taken : ℕ) (s : Scan n rows servers half most least part) (h : part < half) (t : Tells taken part) where
    small : part < 2 ^ n
    small = let a = s.half_is in omega arith

    told : (links : Links) → Sources n links rows → taken ≡ cut_off n links (n - 1) part
    told links so = t ∙ cut_is n links s.few rows so part small servers most s.servers_are ∙ ap (λ (m : ℕ). cut_off n links m part) s.most_is

    most_so : least ≤ n - 1
    most_so = let a = s.bound in let b = s.most_is in omega arith

    pub scan_less : taken < least → Scan n rows servers half most taken (part + 1)
    scan_less q =
        let b = s.bound in
        record {
          two = s.two;
          few = s.few;
          servers_are = s.servers_are;
          half_is = s.half_is;
          most_is = s.most_is;
          some = omega arith;
          inside = omega arith;
          bound = omega arith;
          so = λ links back tables. searched_less n links back least part taken (s.so links back tables) s.some small (told links tables) most_so q;
        }

    pub scan_kept : least ≤ taken → Scan n rows servers half most least (part + 1)
    scan_kept q =
        record {
          two = s.two;
          few = s.few;
          servers_are = s.servers_are;
          half_is = s.half_is;
          most_is = s.most_is;
          some = omega arith;
          inside = omega arith;
          bound = s.bound;
          so = λ links back tables. searched_kept n links back least part taken (s.so links back tables) s.some small (told links tables) q;
        }

    pub scan_nothing : taken ≡ 0 → (links : Links) → Back links → Sources n links rows → 0 ≡ connectivity n links
    scan_nothing z links back tables =
        searched_nothing n links back least part taken (s.so links back tables) s.some small (told links tables) s.two z

  pub scan_ends : (least part : ℕ) → Scan n rows servers half most least part → half ≤ part
      → (links : Links) → Back links → Sources n links rows → least ≡ connectivity n links
  scan_ends least part s h links back tables =
      let a = s.half_is in
      let b = s.bound in
      let c = s.most_is in
      searched_ends n links least part s.two s.few (omega arith) (s.so links back tables) (omega arith)
