-- Blocks in due order.
--     part_back       a part of W is what is left of W without the other part
--     cut_part        every cut of W into two parts that are not empty is known by the one that holds the lowest server of W
--     due_in          a due block has a small F of V, and one of the parts of a cut; in_due the other way
--     due_together    the due blocks of one F stand together
--     order_append    blocks in order are cut where the due ones are cut
--     order_at        each due block has its block; order_of the other way
--     order_together  blocks in order stand together by F, with every cut
-- Assumes nothing.
use mathlib.Core.Path.{◌≡◌, refl, sym, ap, subst, ◌∙◌}
use mathlib.Core.Logic.{◌⊎◌, inl, inr, ⊎_elim}
use mathlib.Core.Bool.{true, false}
use mathlib.Core.List.Memᴰ
use mathlib.Core.List.{List, [], ◌∷◌, ◌++◌, append_assoc, Memᴰ}
use Prim.Native.Nat.{ℕ, suc, ◌-◌, ◌^◌, ◌≤◌, ◌<◌}
use native.Mathlib.Omega.{arith}
use lib.Bits.{bit_and, and_comm, and_le_l}
use lib.Pow.{pow_mono}
use lib.Dec.{leb}
use borrow.Author.Tests.{le-leb, leb-true, eqb-true, ne_eqb}
use Rattle.facts.proofs.Bools.{cases, clash, is_false}
use Rattle.sets.specs.Sets.{Set, has, minus, within, full, size, lowest}
use Rattle.sets.proofs.Members.{has_minus, minus_small, full_small, same_members, no_member, within_in, in_within}
use Rattle.sets.proofs.LowestMember.{lowest_in}
use Rattle.network.specs.Links.{Links}
use Rattle.sets.specs.Members.{list_from}
use Rattle.plan.specs.Due.{DueBlock, is_part, blocks_of, blocks_of_all, due}
use Rattle.rules.specs.Blocks.{Block}
use Rattle.facts.specs.Lists.{Each}
use Rattle.rules.specs.Rules.{InBlock, InOrder}
use Rattle.rules.specs.Theorems.{Together}
use Rattle.rules.proofs.Lists.{listed_in, in_listed, listed_split}

-- cuts

-- a subset is no larger a number
within_le : (Z W : ℕ) → within Z W ≡ true → Z ≤ W
unfolding within
within_le Z W w =
    let e = eqb-true (bit_and Z W) Z w in
    let c = and_comm Z W in
    let l = and_le_l W Z in
    omega arith

-- a part of W is what is left of W without the other part
pub part_back : (W Z : ℕ) → W < 256 → within Z W ≡ true → minus W (minus W Z) ≡ Z
part_back W Z h w =
    let l = within_le Z W w in
    same_members 8 (minus W (minus W Z)) Z (minus_small 8 W (minus W Z) h) (omega arith) (λ i k. there i)
  where
    there : (i : ℕ) → has (minus W (minus W Z)) i ≡ has Z i
    there i =
        let a = has_minus W (minus W Z) i in
        let b = has_minus W Z i in
        cases (has Z i) (λ e. let q = within_in Z W w i e in cc) (λ e. cases (has W i) (λ q. cc) (λ q. cc))

-- if W without Z is all of W, Z is empty
rest_other : (W Z : ℕ) → W < 256 → within Z W ≡ true → minus W Z ≡ W → Z ≡ 0
rest_other W Z h w e =
    let l = within_le Z W w in
    no_member 8 Z (omega arith) (λ i k. is_false (has Z i) (λ q. let b = within_in Z W w i q in clash (has W i) b (outside i q b)))
  where
    outside : (i : ℕ) → has Z i ≡ true → has W i ≡ true → has W i ≡ false
    outside i q b = let a = has_minus W Z i in let c = ap (λ (s : ℕ). has s i) e in cc

-- W without Z lies within W
rest_within : (W Z : ℕ) → W < 256 → within (minus W Z) W ≡ true
rest_within W Z h =
    in_within 8 (minus W Z) W (minus_small 8 W Z h) h
    (λ i k e. let a = has_minus W Z i in cases (has W i) (λ q. q) (λ q. cc))

-- one of the two parts of a cut holds the lowest server of W
pub cut_part : (W Z : ℕ) → W < 256 → within Z W ≡ true → (Z ≡ 0 → ⊥) → (Z ≡ W → ⊥)
    → (is_part W Z ≡ true) ⊎ (is_part W (minus W Z) ≡ true)
unfolding is_part
cut_part W Z h w some other =
    let l = within_le Z W w in
    let m = lowest_in W h (λ e. some (omega arith)) in
    cases (has Z (lowest W))
    (λ e. inl (let q = ne_eqb Z W other in cc))
    (λ e. let q = ne_eqb (minus W Z) W (λ x. some (rest_other W Z h w x)) in let a = has_minus W Z (lowest W) in let b = rest_within W Z h in inr (cc))

-- due blocks

-- the blocks of F have F
blocks_in_lem : (F : ℕ) (ps : List ℕ) (d : DueBlock) → Memᴰ d (blocks_of F ps) → d.faults ≡ F
unfolding blocks_of
blocks_in_lem F [] d m = elim m [ ]
blocks_in_lem F (p ∷ ps) d m = ⊎_elim (λ e. ap (λ (x : DueBlock). x.faults) e) (λ t. blocks_in_lem F ps d t) (Memᴰ.cases_cons m)

-- a part has its block
in_blocks : (F : ℕ) (ps : List ℕ) (p : ℕ) → Memᴰ p ps → Memᴰ (record { faults = F; part = p }) (blocks_of F ps)
unfolding blocks_of
in_blocks F [] p m = elim m [ ]
in_blocks F (q ∷ ps) p m =
    ⊎_elim
    (λ e. Memᴰ.head (ap (λ (x : ℕ). record { faults = F; part = x }) e))
    (λ t. Memᴰ.tail (in_blocks F ps p t))
    (Memᴰ.cases_cons m)

-- the F of a block is one of the list
all_in : (n : ℕ) (Fs : List ℕ) (d : DueBlock) → Memᴰ d (blocks_of_all n Fs) → Memᴰ d.faults Fs
unfolding blocks_of_all
all_in n [] d m = elim m [ ]
all_in n (F ∷ Fs) d m =
    ⊎_elim
    (λ h. Memᴰ.head (blocks_in_lem F (list_from (2 ^ n) 0 (is_part (minus (full n) F))) d h))
    (λ h. Memᴰ.tail (all_in n Fs d h))
    (Memᴰ.append_cases (blocks_of F (list_from (2 ^ n) 0 (is_part (minus (full n) F)))) m)

-- and whose parts are those of a cut

blocks_part : (F : ℕ) (ps : List ℕ) (d : DueBlock) → Memᴰ d (blocks_of F ps) → Memᴰ d.part ps
unfolding blocks_of
blocks_part F [] d m = elim m [ ]
blocks_part F (p ∷ ps) d m =
    ⊎_elim
    (λ (e : d ≡ record { faults = F; part = p }). Memᴰ.head (ap (λ (x : DueBlock). x.part) e))
    (λ h. Memᴰ.tail (blocks_part F ps d h))
    (Memᴰ.cases_cons m)

all_part : (n : ℕ) (Fs : List ℕ) (d : DueBlock) → Memᴰ d (blocks_of_all n Fs) → is_part (minus (full n) d.faults) d.part ≡ true
unfolding blocks_of_all
all_part n [] d m = elim m [ ]
all_part n (F ∷ Fs) d m =
    ⊎_elim
    (λ h. let e = blocks_in_lem F (list_from (2 ^ n) 0 (is_part (minus (full n) F))) d h in
    let p = listed_in (2 ^ n) 0 (is_part (minus (full n) F)) d.part (blocks_part F (list_from (2 ^ n) 0 (is_part (minus (full n) F))) d h) in
    rw e p.0)
    (all_part n Fs d)
    (Memᴰ.append_cases (blocks_of F (list_from (2 ^ n) 0 (is_part (minus (full n) F)))) m)

-- a due block has a small F of V, and one of the parts of a cut of V−F
pub due_in : (n f : ℕ) (d : DueBlock) → Memᴰ d (due n f) → (d.faults < 2 ^ n) × (size d.faults ≤ f) × (is_part (minus (full n) d.faults) d.part ≡ true)
unfolding due
due_in n f d m =
    let r = listed_in (2 ^ n) 0 (λ (F : ℕ). leb (size F) f) d.faults (all_in n (list_from (2 ^ n) 0 (λ (F : ℕ). leb (size F) f)) d m) in
    (omega arith, leb-true (size d.faults) f r.0, all_part n (list_from (2 ^ n) 0 (λ (F : ℕ). leb (size F) f)) d m)

-- the blocks of two lists of fault sets, one after the other
all_append : (n : ℕ) (Fs Gs : List ℕ) → blocks_of_all n (Fs ++ Gs) ≡ blocks_of_all n Fs ++ blocks_of_all n Gs
unfolding blocks_of_all
all_append n [] Gs = refl
all_append n (F ∷ Fs) Gs =
    let own = blocks_of F (list_from (2 ^ n) 0 (is_part (minus (full n) F))) in
    ap (λ (r : List DueBlock). own ++ r) (all_append n Fs Gs) ∙ sym (append_assoc own (blocks_of_all n Fs) (blocks_of_all n Gs))

-- a list of fault sets that is cut at X
all_cut : (n X : ℕ) (Fs Gs : List ℕ)
    → blocks_of_all n (Fs ++ X ∷ Gs) ≡ blocks_of_all n Fs ++ blocks_of X (list_from (2 ^ n) 0 (is_part (minus (full n) X))) ++ blocks_of_all n Gs
unfolding blocks_of_all
all_cut n X Fs Gs =
    all_append n Fs (X ∷ Gs)
    ∙ sym (append_assoc (blocks_of_all n Fs) (blocks_of X (list_from (2 ^ n) 0 (is_part (minus (full n) X)))) (blocks_of_all n Gs))

-- the due blocks of one F stand together
pub due_together : (n f X : ℕ) → X < 2 ^ n → size X ≤ f
    → (pre post : List DueBlock)
    × (due n f ≡ pre ++ blocks_of X (list_from (2 ^ n) 0 (is_part (minus (full n) X))) ++ post)
    × Each (λ d. d.faults ≡ X → ⊥) pre × Each (λ d. d.faults ≡ X → ⊥) post
unfolding due
due_together n f X h k =
    let small : Set = λ F. leb (size F) f in
    let before = list_from (X - 0) 0 small in
    let after = list_from (2 ^ n - (X - 0) - 1) (suc X) small in
    let e = listed_split (2 ^ n) 0 small X (le-leb (size X) f k) (omega arith) (omega arith) in (
      blocks_of_all n before,
      blocks_of_all n after,
      ap (λ (Fs : List ℕ). blocks_of_all n Fs) e ∙ all_cut n X before after,
      λ d m q. let r = listed_in (X - 0) 0 small d.faults (all_in n before d m) in omega arith,
      λ d m q. let r = listed_in (2 ^ n - (X - 0) - 1) (suc X) small d.faults (all_in n after d m) in omega arith,
    )

-- a small F of V and a part of a cut of V−F have their block
pub in_due : (n f F p : ℕ) → F < 2 ^ n → size F ≤ f → p < 2 ^ n → is_part (minus (full n) F) p ≡ true → Memᴰ (record { faults = F; part = p }) (due n f)
in_due n f F p h k l e =
    let (pre, post, w, o, q) = due_together n f F h k in
    let own = blocks_of F (list_from (2 ^ n) 0 (is_part (minus (full n) F))) in
    let m = in_blocks F (list_from (2 ^ n) 0 (is_part (minus (full n) F))) p (in_listed (2 ^ n) 0 (is_part (minus (full n) F)) p e (omega arith) (omega arith)) in
    subst (λ (ds : List DueBlock). Memᴰ (record { faults = F; part = p }) ds) (sym w) (Memᴰ.append_left post (Memᴰ.append_right pre m))

-- blocks in order

-- blocks in order, cut where the due ones are cut
pub order_append : (n f : ℕ) (links : Links) (ds es : List DueBlock) (bs : List Block) → InOrder n f links (ds ++ es) bs
    → (front back : List Block) × (bs ≡ front ++ back) × InOrder n f links ds front × InOrder n f links es back
order_append n f links [] es bs o = ([], bs, refl, tt, o)
order_append n f links (d ∷ ds) es [] o = absurd o
order_append n f links (d ∷ ds) es (b ∷ bs) o =
    let (front, back, e, p, q) = order_append n f links ds es bs o.1 in
    (b ∷ front, back, ap (λ (r : List Block). b ∷ r) e, (o.0, p), q)

-- each due block has its block
pub order_at : (n f : ℕ) (links : Links) (ds : List DueBlock) (bs : List Block) → InOrder n f links ds bs → (d : DueBlock) → Memᴰ d ds
    → (b : Block) × Memᴰ b bs × InBlock n f links d b
order_at n f links [] bs o d m = elim m [ ]
order_at n f links (x ∷ ds) [] o d m = absurd o
order_at n f links (x ∷ ds) (b ∷ bs) o d m =
    ⊎_elim
    (λ e. (b, Memᴰ.head refl, rw e o.0))
    (λ t. let (c, i, r) = order_at n f links ds bs o.1 d t in (c, Memᴰ.tail i, r))
    (Memᴰ.cases_cons m)

-- each block has its due block
pub order_of : (n f : ℕ) (links : Links) (ds : List DueBlock) (bs : List Block) → InOrder n f links ds bs → (b : Block) → Memᴰ b bs
    → (d : DueBlock) × Memᴰ d ds × InBlock n f links d b
order_of n f links [] [] o b m = elim m [ ]
order_of n f links [] (y ∷ bs) o b m = absurd o
order_of n f links (d ∷ ds) [] o b m = absurd o
order_of n f links (d ∷ ds) (y ∷ bs) o b m =
    ⊎_elim
    (λ e. (d, Memᴰ.head refl, rw e o.0))
    (λ t. let (c, i, r) = order_of n f links ds bs o.1 b t in (c, Memᴰ.tail i, r))
    (Memᴰ.cases_cons m)

-- the blocks with F = X, in order

module _ (n f : ℕ) (links : Links) (X : ℕ) where
  -- the parts that are due for X
  abbrev parts_of : List ℕ
  parts_of = list_from (2 ^ n) 0 (is_part (minus (full n) X))

  -- blocks of due ones that are not of X
  others : (ds : List DueBlock) (bs : List Block) → Each (λ d. d.faults ≡ X → ⊥) ds → InOrder n f links ds bs → Each (λ b. b.faults ≡ X → ⊥) bs
  others ds bs no-X o b m q = let (d, i, r) = order_of n f links ds bs o b m in no-X d i (sym r.faults ∙ q)

  -- blocks of due ones that are of X
  own : (bs : List Block) → InOrder n f links (blocks_of X parts_of) bs → Each (λ b. b.faults ≡ X) bs
  own bs o b m = let (d, i, r) = order_of n f links (blocks_of X parts_of) bs o b m in r.faults ∙ blocks_in_lem X parts_of d i

  -- the block of a part that is due
  at_part : (bs : List Block) → InOrder n f links (blocks_of X parts_of) bs → (p : ℕ) → p < 2 ^ n → is_part (minus (full n) X) p ≡ true
      → (b : Block) × Memᴰ b bs × ((b.side ≡ p) ⊎ (b.side ≡ minus (minus (full n) X) p))
  at_part bs o p h e =
      let i = in_listed (2 ^ n) 0 (is_part (minus (full n) X)) p e (omega arith) (omega arith) in
      let (b, m, r) = order_at n f links (blocks_of X parts_of) bs o (record { faults = X; part = p }) (in_blocks X parts_of p i) in
      (b, m, r.side)

  -- every cut of V−X has its block
  every_cut : n ≤ 8 → (bs : List Block) → InOrder n f links (blocks_of X parts_of) bs
      → (Z : ℕ) → within Z (minus (full n) X) ≡ true → (Z ≡ 0 → ⊥) → (Z ≡ minus (full n) X → ⊥)
      → (b : Block) × Memᴰ b bs × ((b.side ≡ Z) ⊎ (b.side ≡ minus (minus (full n) X) Z))
  every_cut h bs o Z w some other =
      let W = minus (full n) X in
      let s = minus_small n (full n) X (full_small n) in
      let top : 2 ^ n ≤ 2 ^ 8 = pow_mono h in
      let l = within_le Z W w in
      ⊎_elim
      (λ e. at_part bs o Z (omega arith) e)
      (λ e. let (b, m, r) = at_part bs o (minus W Z) (minus_small n W Z s) e in (b, m, ⊎_elim (λ q. inr q) (λ q. inl (q ∙ part_back W Z (omega arith) w)) r))
      (cut_part W Z (omega arith) w some other)

-- blocks in order stand together by F, with every cut
pub order_together : (n f : ℕ) (links : Links) (bs : List Block) → n ≤ 8 → InOrder n f links (due n f) bs → (X : ℕ) → X < 2 ^ n → size X ≤ f → Together n X bs
order_together n f links bs h o X x k =
    let (pre, post, e, p, q) = due_together n f X x k in
    let parts = list_from (2 ^ n) 0 (is_part (minus (full n) X)) in
    let (front, back, e1, o1, o2) = order_append n f links (pre ++ blocks_of X parts) post bs (rw e at o) in
    let (start, mid, e2, o3, o4) = order_append n f links pre (blocks_of X parts) front o1 in
    record {
      pre = start;
      mid = mid;
      post = back;
      whole = rw (← e2) e1;
      theirs = own n f links X mid o4;
      pre_others = others n f links X pre start p o3;
      post_others = others n f links X post back q o2;
      cut = every_cut n f links X h mid o4;
    }
