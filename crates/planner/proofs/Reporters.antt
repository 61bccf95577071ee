-- The servers that report to one of F: the f + 1 lowest of V−F with a link to it. There are so many, since else that server alone and V−F would be
-- weak for the rest of F, and no two weak sets are apart.
--     reporters_many    at least f + 1 servers of V−F have a link to a server of F
--     report_right      the report that is written keeps its rule
-- Assumes nothing.
use mathlib.Core.Path.{◌≡◌, sym, ◌∙◌}
use mathlib.Core.Bool.{true, false, not, ◌&&◌}
use Prim.Native.Nat.{ℕ, suc, ◌+◌, ◌^◌, ◌≤◌, ◌<◌}
use native.Mathlib.Omega.{arith}
use lib.Pow.{pow-lt, pow_mono}
use lib.Dec.{leb}
use borrow.Author.Tests.{lt-ltb, leb-true, leb-false}
use Rattle.facts.proofs.Bools.{cases, clash, both, is_false, and_left, and_right, bools}
use Rattle.sets.specs.Sets.{In, Out, has, single, meet, minus, full, count, size}
use Rattle.sets.proofs.Members.{has_meet, has_below, minus_small, encode_has}
use Rattle.sets.proofs.Counts.{count_mono, size_count}
use Rattle.network.specs.Links.{Links, linked_in}
use Rattle.split.specs.Split.{good, first_bad, some_below, incoming}
use Rattle.split.specs.Weak.{outside}
use Rattle.split.specs.Sources.{sources_to}
use Rattle.split.proofs.Neighbours.{some_at}
use Rattle.rules.specs.Rules.{IsReport}
use Rattle.flow.specs.Search.{lowest_of}
use Rattle.flow.proofs.Lowest.{size_single, size_less, lowest_of_inside, lowest_of_size}
use Rattle.planner.specs.Plan.{report_to}
use Rattle.planner.proofs.WeakSets.{weak_of, weak_meets_weak}
use Rattle.flow.proofs.Membership.{has_both, has_left, left_has, shared_small, within_of, has_only, only_has}
use Rattle.planner.proofs.Hitting.{sound_has, has_sound, sound_small}

-- who has a link to a server of F

single_under : (n k : ℕ) → n ≤ 8 → k < n → single k < 2 ^ n
unfolding single
single_under n k few h = let e = lt-ltb k 8 (omega arith) in rw e (pow-lt h)

module _ (n f : ℕ) (links : Links) (few : n ≤ 8) (F k : ℕ) where
  -- the servers of V−F with a link to k
  abbrev pub near : ℕ
  near = meet (minus (full n) F) (sources_to links k)

  near_in : (x : ℕ) → x < n → Out (has F) x → linked_in links x k ≡ true → In (has near) x
  unfolding sources_to
  near_in x j o l = has_meet (minus (full n) F) (sources_to links k) x ∙ both (has (minus (full n) F) x) (has (sources_to links k) x) (sound_has n F x j o) (encode_has 8 (λ (u : ℕ). linked_in links u k) x (omega arith) ∙ l)

  pub near_linked : (x : ℕ) → In (has near) x → (x < n) × Out (has F) x × (linked_in links x k ≡ true)
  unfolding sources_to
  near_linked x e =
      let (a, b) = has_both (minus (full n) F) (sources_to links k) x e in
      let (c, d) = has_sound n F x a in
      (c, d, sym (encode_has 8 (λ (u : ℕ). linked_in links u k) x (omega arith)) ∙ b)

  near_small : near < 2 ^ n
  near_small = shared_small n (minus (full n) F) (sources_to links k) (sound_small n F)

  near_byte : near < 256
  near_byte = let p : 2 ^ n ≤ 2 ^ 8 = pow_mono few in let l = near_small in omega arith

  module _ (g : first_bad n f links ≡ good) (small : F < 2 ^ n) (bound : size F ≤ f) (h : In (has F) k) (some : (x : ℕ) × In (has (minus (full n) F)) x) where
    -- the rest of F
    abbrev rest : ℕ
    rest = minus F (single k)

    k_small : k < n
    k_small = has_below n F k small h

    rest_size : size F ≡ suc (size rest)
    rest_size = let j = k_small in size_less F k (omega arith) h

    -- k alone has no other incoming neighbours outside the rest of F than those near it
    alone_few : outside n links rest (single k) ≤ count n (has near)
    unfolding outside incoming
    alone_few =
        count_mono n (λ (u : ℕ). not (has rest u) && incoming n links (single k) u) (has near)
        (λ u j e. let a : has rest u ≡ false = search bools in
        let b : has (single k) u ≡ false = search bools in
        let c : some_below n (λ (v : ℕ). has (single k) v && linked_in links u v) ≡ true = search bools in
        let (v, i, w) = some_at n (λ (v : ℕ). has (single k) v && linked_in links u v) c in
        let z = has_only k v (and_left (has (single k) v) (linked_in links u v) w) in
        let l = and_right (has (single k) v) (linked_in links u v) w in
        near_in u j (is_false (has F u) λ t. clash (has rest u) (left_has F (single k) u t b) a) (rw z at l))

    -- V−F has no other than k
    sound_few : outside n links rest (minus (full n) F) ≤ count n (has (single k))
    unfolding outside incoming
    sound_few =
        count_mono n (λ (u : ℕ). not (has rest u) && incoming n links (minus (full n) F) u) (has (single k))
        (λ u j e. let a : has rest u ≡ false = search bools in
        let b : has (minus (full n) F) u ≡ false = search bools in
        let c : has F u ≡ true = cases (has F u) (λ t. t) (λ t. clash (has (minus (full n) F) u) (sound_has n F u j t) b) in
        cases (has (single k) u) (λ t. t) (λ t. clash (has rest u) (left_has F (single k) u c t) a))

    pub reporters_many : f + 1 ≤ size near
    reporters_many =
        cases (leb (f + 1) (size near))
        (λ e. leb-true (f + 1) (size near) e)
        (λ e. let l = leb-false (f + 1) (size near) e in
        let j = k_small in
        let s = size_count n near few near_small in
        let r = rest_size in
        let (x, i) = some in
        let a = alone_few in
        let b = sound_few in
        let o = size_count n (single k) few (single_under n k few j) in
        let t = size_single k (omega arith) in
        let y = weak_of n f links rest (single k) (minus_small n F (single k) small) k (only_has k (omega arith)) (λ i q. let z = has_only k i q in is_false (has rest i) λ d. clash (has (single k) i) q (has_left F (single k) i d).1) (omega arith) in
        let w = weak_of n f links rest (minus (full n) F) (minus_small n F (single k) small) x i (λ i q. is_false (has rest i) λ d. clash (has F i) (has_left F (single k) i d).0 (has_sound n F i q).1) (omega arith) in
        let (v, m, c, d) = weak_meets_weak n f links few g rest (minus_small n F (single k) small) (omega arith) (single k) (minus (full n) F) (single_under n k few j) (sound_small n F) y w in
        let z = has_only k v c in
        clash (has F k) h (rw z at (has_sound n F v d).1))

    report_exact : size (report_to links (minus (full n) F) (f + 1) k).reporters ≡ f + 1
    unfolding report_to
    report_exact = lowest_of_size (f + 1) near near_byte reporters_many

    pub report_right : IsReport n f links F (report_to links (minus (full n) F) (f + 1) k)
    unfolding report_to
    report_right =
        let b = near_byte in
        record {
          sound = within_of (lowest_of (f + 1) near) (minus (full n) F) (λ i e. (has_both (minus (full n) F) (sources_to links k) i (lowest_of_inside (f + 1) near i b e)).0);
          exact = report_exact;
          linked = λ i e. (near_linked i (lowest_of_inside (f + 1) near i b e)).2;
        }
