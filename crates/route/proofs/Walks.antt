-- The walk along a route on sets, and that what it gives is the set of the route's servers. `free` has the servers of W that the route has not been at.
--     walk_on ..       from `last` on: the next server is free and linked, and where only fill follows it is the receiver
--     route_walk      the set of a route by the walk from its source on
--     set-..          by the set it is known whether the bytes are a route
--     part-..         what is handed back of them
-- Assumes nothing.
use mathlib.Core.Path.{◌≡◌, refl, sym, ap, ◌∙◌}
use mathlib.Core.Bool.{Bool, true, false, cond, ◌&&◌, and-false}
use mathlib.Core.List.{List, [], ◌∷◌}
use Prim.Native.Nat.{ℕ, ◌-◌, ◌≤◌, ◌<◌}
use native.Mathlib.Omega.{arith}
use lib.ListN.{length, get_or, take, drop}
use lib.Seq.{take-take}
use lib.Dec.{eqb, ltb, leb}
use borrow.Author.Tests.{lt-ltb, le-leb, lt-leb, eq-eqb, ne_eqb, eqb-true}
use Rattle.facts.proofs.Bools.{cases, clash, is_false, and_left, and_right, both}
use Rattle.sets.specs.Sets.{has, union, minus, single}
use Rattle.sets.proofs.Members.{has_union, has_minus, has_single, has_empty, has_below, minus_small, same_all}
use Rattle.network.specs.Links.{Links, linked_in}
use Rattle.route.specs.Route.{path, is_fill, filled, servers_of, goes_on, is_path, is_route, checked_route, route_set}
use Rattle.route.proofs.Paths.{part_next, path_part}

unfoldable pub walk_on : ℕ → Links → ℕ → ℕ → ℕ → List ℕ → ℕ
walk_on W links receiver free last [] = 0
walk_on W links receiver free last (b ∷ bs) =
    cond (has free b && linked_in links last b)
    (cond (is_fill bs) (cond (eqb b receiver) (minus W (minus free (single b))) 0) (walk_on W links receiver (minus free (single b)) b bs))
    0

-- some server stands there
abbrev some : List ℕ → Bool
some [] = false
some (b ∷ bs) = true

fill_path : (bs : List ℕ) → is_fill bs ≡ true → path bs ≡ []
unfolding is_fill path
fill_path [] e = refl
fill_path (b ∷ bs) e = simp (and_left (eqb b 255) (is_fill bs) e)

fill_filled : (bs : List ℕ) → is_fill bs ≡ true → filled bs ≡ true
unfolding is_fill filled
fill_filled [] e = refl
fill_filled (b ∷ bs) e = simp (and_left (eqb b 255) (is_fill bs) e, and_right (eqb b 255) (is_fill bs) e)

-- what is filled but no fill starts with a server
some_filled : (bs : List ℕ) → is_fill bs ≡ false → (some (path bs) && filled bs) ≡ filled bs
unfolding is_fill path filled
some_filled [] e = absurd (clash true refl e)
some_filled (b ∷ bs) e = cases (eqb b 255) (λ t. let f : is_fill bs ≡ false = sym (simp t) ∙ e in simp (t, f)) (λ t. simp t)

-- a server of a set of eight is no fill byte
in_low : (W b : ℕ) → W < 256 → has W b ≡ true → b < 8
in_low W b h e = has_below 8 W b h e

in_server : (W b : ℕ) → W < 256 → has W b ≡ true → eqb b 255 ≡ false
in_server W b h e = let l = in_low W b h e in ne_eqb b 255 (λ t. omega arith)

-- b has been reached: it is no longer free
module _ (W free b : ℕ) (inside : (i : ℕ) → has free i ≡ true → has W i ≡ true) (low : b < 8) (h : has free b ≡ true) where
  reached_has : (x i : ℕ) → has (union (minus W (minus free (single b))) x) i ≡ has (union (minus W free) (union (single b) x)) i
  reached_has x i =
      let a = has_union (minus W (minus free (single b))) x i in
      let c = has_minus W (minus free (single b)) i in
      let d = has_minus free (single b) i in
      let e = has_union (minus W free) (union (single b) x) i in
      let f = has_minus W free i in
      let g = has_union (single b) x i in
      cases (has (single b) i)
      (λ t. let q = eqb-true b i (and_right (ltb b 8) (eqb b i) (sym (has_single b i) ∙ t)) in
      let m : has free i ≡ true = ap (has free) (sym q) ∙ h in
      let v = inside i m in
      simp (a, c, d, e, f, g, t, m, v))
      (λ t. cases (has free i) (λ m. simp (a, c, d, e, f, g, t, m)) (λ m. simp (a, c, d, e, f, g, t, m)))

  reached : (x : ℕ) → union (minus W (minus free (single b))) x ≡ union (minus W free) (union (single b) x)
  reached x = same_all _ _ (reached_has x)

union_none : (a : ℕ) → union a 0 ≡ a
union_none a = same_all _ _ (λ i. let u = has_union a 0 i in let e = has_empty i in cases (has a i) (λ t. simp (u, t, e)) (λ t. simp (u, t, e)))

module _ (W : ℕ) (links : Links) (receiver : ℕ) where
  -- from a server on the walk gives the set of the servers so far and of those to come, if there is one and they keep the rules
  walk_set : (bs : List ℕ) (free last : ℕ) → free < 256 → ((i : ℕ) → has free i ≡ true → has W i ≡ true)
      → walk_on W links receiver free last bs
      ≡ cond (some (path bs) && (filled bs && goes_on links free last receiver (path bs))) (union (minus W free) (servers_of (path bs))) 0
  unfolding walk_on path filled goes_on servers_of
  walk_set [] free last small inside = refl
  walk_set (b ∷ bs) free last small inside =
      cases (has free b)
      (λ h. let low = in_low free b small h in
      let o = in_server free b small h in
      cases (linked_in links last b)
      (λ l. cases (is_fill bs)
      (λ f. let p = fill_path bs f in let g = fill_filled bs f in
      let q = reached W free b inside low h 0 in
      let u = union_none (minus W (minus free (single b))) in
      let v = sym u ∙ q in
      simp (h, l, f, o, p, g) (ap (λ (x : ℕ). cond (eqb b receiver) x 0) v))
      (λ f. let ih = walk_set bs (minus free (single b)) b (minus_small 8 free (single b) small) (λ i m. inside i (and_left (has free i) _ (sym (has_minus free (single b) i) ∙ m))) in
      let q = reached W free b inside low h (servers_of (path bs)) in
      simp (h, l, f, o) (ih ∙ rw q (cases (filled bs) (λ t. let z = sym (some_filled bs f) in cases (some (path bs)) (λ y. simp (y, t)) (λ y. absurd (clash (filled bs) t (z ∙ simp (y, t))))) (λ t. cases (some (path bs)) (λ y. simp (y, t)) (λ y. simp (y, t)))))))
      (λ l. cases (eqb b 255) (λ t. simp (h, l, t)) (λ t. simp (h, l, t, and-false (filled bs)))))
      (λ h. cases (eqb b 255) (λ t. simp (h, t)) (λ t. simp (h, t, and-false (filled bs))))

-- the servers of a path by its source and the others
module _ (W : ℕ) (links : Links) (sources receiver : ℕ) where
  path_on : (b : ℕ) (p : List ℕ) → is_path W links sources receiver (b ∷ p) ≡ (some p && (has W b && (has sources b && goes_on links (minus W (single b)) b receiver p)))
  unfolding is_path
  path_on b [] = refl
  path_on b (c ∷ p) = refl

  none_path : is_path W links sources receiver [] ≡ false
  unfolding is_path
  none_path = refl

  module _ (small : W < 256) where
    -- W without the source and then without what is left is the source
    source_alone : (b : ℕ) → has W b ≡ true → (x : ℕ) → union (minus W (minus W (single b))) x ≡ union (single b) x
    source_alone b h x = same_all _ _ λ i.
        let a = has_union (minus W (minus W (single b))) x i in
        let c = has_minus W (minus W (single b)) i in
        let d = has_minus W (single b) i in
        let e = has_union (single b) x i in
        cases (has (single b) i)
        (λ t. let q = eqb-true b i (and_right (ltb b 8) (eqb b i) (sym (has_single b i) ∙ t)) in
        let m : has W i ≡ true = ap (has W) (sym q) ∙ h in
        simp (a, c, d, e, t, m))
        (λ t. cases (has W i) (λ m. simp (a, c, d, e, t, m)) (λ m. simp (a, c, d, e, t, m)))

    -- the route from its first byte on
    set_from : (b : ℕ) (bs : List ℕ)
        → servers_of (cond (filled (b ∷ bs) && is_path W links sources receiver (path (b ∷ bs))) (path (b ∷ bs)) [])
        ≡ cond (has W b && has sources b) (walk_on W links receiver (minus W (single b)) b bs) 0
    unfolding path filled servers_of
    set_from b bs =
        cases (has W b)
        (λ h. let o = in_server W b small h in
        let w = walk_set W links receiver bs (minus W (single b)) b (minus_small 8 W (single b) small) (λ i m. and_left (has W i) _ (sym (has_minus W (single b) i) ∙ m)) in
        let q = source_alone b h (servers_of (path bs)) in
        let p = path_on b (path bs) in
        cases (has sources b)
        (λ t. simp (h, t, o, p, w, q) (by_parts (some (path bs)) (filled bs) _ (b ∷ path bs)))
        (λ t. simp (h, t, o, p) (nowhere (b ∷ path bs) (some (path bs)) (filled bs))))
        (λ h. cases (eqb b 255) (λ t. simp (h, t, none_path, and-false (is_fill bs))) (λ t. let p = path_on b (path bs) in simp (h, t, p) (nowhere (b ∷ path bs) (some (path bs)) (filled bs))))
      where
        by_parts : (x y z : Bool) (p : List ℕ) → servers_of (cond (y && (x && z)) p []) ≡ cond (x && (y && z)) (servers_of p) 0
        by_parts true true true p = refl
        by_parts true true false p = refl
        by_parts true false z p = refl
        by_parts false true z p = refl
        by_parts false false z p = refl

        nowhere : (p : List ℕ) (x y : Bool) → servers_of (cond (y && (x && false)) p []) ≡ 0
        nowhere p true true = refl
        nowhere p true false = refl
        nowhere p false true = refl
        nowhere p false false = refl

    module _ (s : List ℕ) where
      pub route_walk : 8 ≤ length s
          → cond (has W (get_or s 0 0) && has sources (get_or s 0 0)) (walk_on W links receiver (minus W (single (get_or s 0 0))) (get_or s 0 0) (drop 1 (take 8 s))) 0
          ≡ route_set W links sources receiver s
      unfolding route_set checked_route is_route
      route_walk h =
          let e : take 8 s ≡ get_or s 0 0 ∷ drop 1 (take 8 s) = part_next 8 s h 0 (omega arith) in
          let q = set_from (get_or s 0 0) (drop 1 (take 8 s)) in
          sym (simp (le-leb 8 (length s) h) (rw e q))

      pub route_short : length s < 8 → 0 ≡ route_set W links sources receiver s
      unfolding route_set checked_route servers_of
      route_short h = sym (simp (lt-leb 8 (length s) h))

      -- the servers that are handed back: those of the path where the bytes are a route, else none
      part_yes : 8 ≤ length s → is_route W links sources receiver (take 8 s) ≡ true → checked_route W links sources receiver s ≡ path (take 8 s)
      unfolding checked_route
      part_yes h e = simp (le-leb 8 (length s) h, e)

      -- the set of a route is that of its servers
      pub route_set_lem : 8 ≤ length s → is_route W links sources receiver (take 8 s) ≡ true → route_set W links sources receiver s ≡ servers_of (path (take 8 s))
      unfolding route_set
      route_set_lem h e = ap servers_of (part_yes h e)

      pub part_short : length s < 8 → [] ≡ checked_route W links sources receiver s
      unfolding checked_route
      part_short h = sym (simp (lt-leb 8 (length s) h))

      part_no : is_route W links sources receiver (take 8 s) ≡ false → checked_route W links sources receiver s ≡ []
      unfolding checked_route
      part_no e = simp (e, and-false (leb 8 (length s)))

      -- a route has a first server, so its set is not empty
      some_path : (p : List ℕ) → is_path W links sources receiver p ≡ true → servers_of p ≡ 0 → ⊥
      unfolding servers_of
      some_path [] e z = clash false (sym none_path ∙ e) refl
      some_path (b ∷ p) e z =
          let i = and_left (has W b) _ (and_right (some p) _ (sym (path_on b p) ∙ e)) in
          let l = in_low W b small i in
          let u = has_union (single b) (servers_of p) b in
          let v : has (single b) b ≡ true = has_single b b ∙ both (ltb b 8) (eqb b b) (lt-ltb b 8 l) (eq-eqb b b refl) in
          clash (has (union (single b) (servers_of p)) b) (u ∙ simp v) (ap (λ (x : ℕ). has x b) z ∙ has_empty b)

      pub set_some : is_route W links sources receiver (take 8 s) ≡ true → servers_of (path (take 8 s)) ≡ 0 → ⊥
      unfolding is_route
      set_some e z = some_path (path (take 8 s)) (and_right (filled (take 8 s)) _ e) z

      -- by the set it is known whether the bytes are a route
      module _ (h : 8 ≤ length s) {set : ℕ} (q : set ≡ route_set W links sources receiver s) where
        set_none : set ≡ 0 → is_route W links sources receiver (take 8 s) ≡ false
        set_none z = is_false (is_route W links sources receiver (take 8 s)) (λ e. set_some e (sym (route_set_lem h e) ∙ sym q ∙ z))

        pub set_route : (set ≡ 0 → ⊥) → is_route W links sources receiver (take 8 s) ≡ true
        unfolding route_set servers_of
        set_route o = cases (is_route W links sources receiver (take 8 s)) (λ e. e) (λ e. absurd (o (q ∙ ap servers_of (part_no e))))

        pub set_is : (set ≡ 0 → ⊥) → set ≡ servers_of (path (take 8 s))
        set_is o = q ∙ route_set_lem h (set_route o)

        -- what is handed back by the set and the length of the path
        pub part_empty : set ≡ 0 → [] ≡ checked_route W links sources receiver s
        part_empty z = sym (part_no (set_none z))

        pub part_path : (set ≡ 0 → ⊥) → (end : ℕ) → end ≡ length (path (take 8 s)) → end ≤ 8 → take (end - 0) s ≡ checked_route W links sources receiver s
        part_path o end e few =
            let z : end - 0 ≡ end = omega arith in
            let p : path (take 8 s) ≡ take end s = path_part (take 8 s) ∙ ap (λ (x : ℕ). take x (take 8 s)) (sym e) ∙ take-take end 8 s few in
            rw z (sym p ∙ sym (part_yes h (set_route o)))
