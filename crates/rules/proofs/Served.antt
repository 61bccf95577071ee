-- Blocks within the rules serve every cut: what the routes of a plan say, without bytes and without order.
--     group_to         the routes to one receiver stand together among those of a fan
--     separate_at      routes to one receiver are separate, by their places
--     fan_disjoint     a fan of a block has f + 1 routes to each of its receivers, which have nothing but it in common
--     block_served     a block within the rules serves its cut
--     order_routable   blocks that are the due ones, within the rules, show that their network is routable
-- Assumes nothing.
use mathlib.Core.Path.{◌≡◌, sym, ap, ◌∙◌, subst}
use mathlib.Core.Logic.{◌⊎◌, ⊎_elim}
use mathlib.Core.Bool.{true, false, not, ◌&&◌}
use mathlib.Core.List.{List, [], ◌∷◌, ◌++◌, map, append_assoc, Memᴰ}
use Prim.Native.Nat.{ℕ, zero, suc, ◌+◌, ◌-◌, ◌≤◌, ◌<◌}
use native.Mathlib.Omega.{arith}
use lib.Dec.{ltb}
use lib.ListN.{length, get_or, replicate, length-map, length-replicate}
use borrow.Author.Tests.{ltb-true, ltb-false, lt-ltb}
use Rattle.facts.specs.Lists.{Each}
use Rattle.facts.proofs.Bools.{cases, and_left}
use Rattle.facts.proofs.Lists.{at_mem}
use Rattle.sets.specs.Sets.{In, has, minus, full}
use Rattle.sets.proofs.Members.{has_minus, has_full, has_empty, has_below, minus_small, full_small, within_in}
use Rattle.sets.proofs.Counts.{count_none, size_count}
use Rattle.network.specs.Links.{Links}
use Rattle.sets.specs.Members.{members}
use Rattle.plan.specs.Due.{DueBlock, due}
use Rattle.rules.specs.Blocks.{Route, receiver_of, Block}
use Rattle.rules.specs.Rules.{IsRoute, Separate, AllSeparate, repeated, Fan, InBlock, InOrder}
use Rattle.rules.specs.Routable.{Passes, Disjoint, Cut, Served, Routable}
use Rattle.rules.proofs.Lists.{in_members}
use Rattle.rules.proofs.Order.{order_of, order_together}
use Rattle.rules.proofs.Groups.{cut_map, separate_left, separate_right}
use Rattle.rules.proofs.Fans.{in_replicate}

pub group_to : (k : ℕ) (rs : List ℕ) (ps : List Route) → map receiver_of ps ≡ repeated k rs → (r : ℕ) → Memᴰ r rs
    → (us vs ws : List Route) × (ps ≡ us ++ (vs ++ ws)) × (map receiver_of vs ≡ replicate k r)
unfolding repeated
group_to k [] ps e r m = elim m [ ]
group_to k (x ∷ xs) ps e r m =
    let (front, back, q, a, b) = cut_map receiver_of (replicate k x) (repeated k xs) ps e in
    ⊎_elim
    (λ (z : r ≡ x). ([], front, back, q, rw z a))
    (λ (t : Memᴰ r xs). let (us, vs, ws, o, c) = group_to k xs back b r t in
    (front ++ us, vs, ws, q ∙ ap (λ (l : List Route). front ++ l) o ∙ sym (append_assoc front us (vs ++ ws)), c))
    (mathlib.Core.List.Memᴰ.cases_cons m)

pub separate_at : (ps : List Route) → AllSeparate ps → (j k : ℕ) → j < k → k < length ps → receiver_of (get_or ps k []) ≡ receiver_of (get_or ps j [])
    → Separate (get_or ps j []) (get_or ps k [])
separate_at [] h j k a b e = absurd (omega arith)
separate_at (p ∷ ps) h j zero a b e = absurd (omega arith)
separate_at (p ∷ ps) h zero (suc k) a b e = h.0 (get_or ps k []) (at_mem ps [] k (omega arith)) e
separate_at (p ∷ ps) h (suc j) (suc k) a b e = separate_at ps h.1 j k (omega arith) (omega arith) e

-- no server but the receiver is on an earlier and on a later route
later_other : (n : ℕ) (links : Links) (F r : ℕ) (ps : List Route) → Each (IsRoute n links F) ps → Each (λ p. receiver_of p ≡ r) ps → AllSeparate ps
    → (j k x : ℕ) → j < k → k < length ps → Passes (get_or ps j []) x → Passes (get_or ps k []) x → ⊥
later_other n links F r ps routes end h j k x a b (i, u, e) (l, v, o) =
    let p = get_or ps j [] in
    let q = get_or ps k [] in
    let mp = at_mem ps [] j (omega arith) in
    let mq = at_mem ps [] k b in
    let s = separate_at ps h j k a b (end q mq ∙ sym (end p mp)) in
    (routes p mp).once i (length p - 1) (omega arith) (omega arith) (s i l (omega arith) (omega arith) (e ∙ sym o))

pub fan_disjoint : (n f : ℕ) (links : Links) (F A B : ℕ) (ps : List Route) → Fan n f links F A B ps → (r : ℕ) → r < 8 → In (has B) r
    → (vs : List Route) × Disjoint n f links F A r vs
fan_disjoint n f links F A B ps h r k e =
    let (us, vs, ws, q, a) = group_to (f + 1) (members B) ps h.order r (in_members B r e k) in
    (vs, found us vs ws q a)
  where
    found : (us vs ws : List Route) → ps ≡ us ++ (vs ++ ws) → map receiver_of vs ≡ replicate (f + 1) r → Disjoint n f links F A r vs
    found us vs ws q a =
        let among : (p : Route) → Memᴰ p vs → Memᴰ p ps = λ p m. subst (λ (l : List Route). Memᴰ p l) (sym q) (mathlib.Core.List.Memᴰ.append_right us (mathlib.Core.List.Memᴰ.append_left ws m)) in
        let long : length vs ≡ f + 1 = sym (length-map vs receiver_of) ∙ ap length a ∙ length-replicate (f + 1) r in
        let end : Each (λ p. receiver_of p ≡ r) vs = λ p m. in_replicate (f + 1) r (receiver_of p) (subst (λ (l : List ℕ). Memᴰ (receiver_of p) l) a (mathlib.Core.List.Memᴰ.map receiver_of m)) in
        let routes : Each (IsRoute n links F) vs = λ p m. h.routes p (among p m) in
        let apart : AllSeparate vs = separate_left vs ws (separate_right us (vs ++ ws) (rw q at h.separate)) in
        let other = later_other n links F r vs routes end apart in
        record {
          enough = omega arith;
          start = λ p m. h.start p (among p m);
          end = end;
          routes = routes;
          separate = λ j k x u v s t.
              cases (ltb j k)
              (λ y. absurd (other j k x (ltb-true j k y) v s t))
              (λ y. cases (ltb k j) (λ z. absurd (other k j x (ltb-true k j z) u t s)) (λ z. let c = ltb-false j k y in let d = ltb-false k j z in omega arith));
        }

-- a block of F whose A is one of the two parts of the cut
pub block_served : (n f : ℕ) (links : Links) (F Z : ℕ) (d : DueBlock) (b : Block) → n ≤ 8 → InBlock n f links d b → b.faults ≡ F
    → (b.side ≡ Z) ⊎ (b.side ≡ minus (minus (full n) F) Z) → Served n f links F Z
block_served n f links F Z d b eight h e part =
    let W = minus (full n) F in
    record {
      side = b.side;
      quorum = b.quorum;
      part = part;
      inward = λ r m. fan_disjoint n f links F b.side (minus b.quorum b.side) b.inward (rw e at h.inward) r (quorum_server r m) m;
      outward = λ r m. fan_disjoint n f links F b.quorum (minus W b.quorum) b.outward (rw e at h.outward) r (outside_server r m) m;
    }
  where
    server : (r : ℕ) → has (minus (full n) F) r ≡ true → r < 8
    server r m = let k = has_below n (minus (full n) F) r (minus_small n (full n) F (full_small n)) m in omega arith

    quorum_server : (r : ℕ) → has (minus b.quorum b.side) r ≡ true → r < 8
    quorum_server r m =
        let q = and_left (has b.quorum r) (not (has b.side r)) (sym (has_minus b.quorum b.side r) ∙ m) in
        server r (within_in b.quorum (minus (full n) F) (rw e at h.inside) r q)

    outside_server : (r : ℕ) → has (minus (minus (full n) F) b.quorum) r ≡ true → r < 8
    outside_server r m =
        server r (and_left (has (minus (full n) F) r) (not (has b.quorum r)) (sym (has_minus (minus (full n) F) b.quorum r) ∙ m))

-- neither part of a cut is empty
cut_some : (n F Z : ℕ) → Cut n F Z → Z ≡ 0 → ⊥
cut_some n F Z c e =
    let z = count_none n (has Z) (λ i k. ap (λ (s : ℕ). has s i) e ∙ has_empty i) in
    let s = c.some in
    omega arith

cut_others : (n F Z : ℕ) → Cut n F Z → Z ≡ minus (full n) F → ⊥
cut_others n F Z c e =
    let z = count_none n (λ (i : ℕ). not (has F i) && not (has Z i)) nobody in
    let s = c.others in
    omega arith
  where
    nobody : (i : ℕ) → i < n → (not (has F i) && not (has Z i)) ≡ false
    nobody i k =
        let a = ap (λ (s : ℕ). has s i) e in
        let b = has_minus (full n) F i in
        let t = has_full n i in
        let u = lt-ltb i n k in
        cases (has F i) (λ x. cc) (λ x. cc)

pub order_routable : (n f : ℕ) (links : Links) (bs : List Block) → n ≤ 8 → InOrder n f links (due n f) bs → Routable n f links
order_routable n f links bs eight o F small few Z c =
    let s = size_count n F eight small in
    let t = order_together n f links bs eight o F small (omega arith) in
    let (b, m, part) = t.cut Z c.inside (cut_some n F Z c) (cut_others n F Z c) in
    let among : Memᴰ b bs = subst (λ (l : List Block). Memᴰ b l) (sym t.whole) (mathlib.Core.List.Memᴰ.append_left t.post (mathlib.Core.List.Memᴰ.append_right t.pre m)) in
    let (d, i, h) = order_of n f links (due n f) bs o b among in
    block_served n f links F Z d b eight h (t.theirs b m) part
