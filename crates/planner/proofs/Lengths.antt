-- How long a plan is.
--     fan_length, mesh_length    how many routes the kinds of a block have, from its F, A and S
--     block_least                no block within the rules is shorter than one whose S is f + 1 servers within A
--     plan_least                 so no plan within the rules is shorter than `plan_length`
--     plan_exact                 the plan that is written is just so long, where no split is bad
--     length_few                 and that is within a plan's limit
-- A block has s (s − 1) routes of 12 and (m − s)(f + 1) of 13 for s servers in S and m in V−F; s is at least f + 1, and there (s − 1)(s − f − 1) is not
-- negative. Assumes nothing.
use mathlib.Core.Path.{◌≡◌, refl, sym, ap, ap₂, ◌∙◌}
use mathlib.Core.Bool.{true}
use mathlib.Core.List.{List, [], ◌∷◌, map, Memᴰ}
use Prim.Native.Nat.{ℕ, ◌+◌, ◌-◌, ◌*◌, ◌^◌, ◌≤◌, ◌<◌}
use native.Mathlib.Omega.{arith}
use native.Mathlib.Nat.{add-mul, mul_comm, mul-le-mul_left, suc-mul, zero-mul}
use lib.Dec.{eqb}
use lib.ListN.{length, replicate, length-map, length-append, length-replicate}
use borrow.Author.Tests.{eqb-true}
use Rattle.facts.specs.Lists.{Each}
use Rattle.facts.proofs.Bools.{cases, clash, is_false}
use Rattle.sets.specs.Sets.{has, minus, union, within, full, count, size}
use Rattle.sets.proofs.Members.{has_minus, has_union, minus_small, within_in, same_all}
use Rattle.sets.proofs.Counts.{size_count, size_union, size_empty, count_beyond}
use Rattle.network.specs.Links.{Links}
use Rattle.network.specs.Proper.{Proper}
use Rattle.split.specs.Split.{good, first_bad}
use Rattle.condition.proofs.Partitions.{member_of}
use Rattle.sets.specs.Members.{members}
use Rattle.plan.specs.Due.{DueBlock, due}
use Rattle.rules.specs.Blocks.{Route, source_of, receiver_of, Report, Block, among_due, encode_block, encode_blocks, encode_plan, length_of}
use Rattle.rules.specs.Rules.{repeated, Fan, ends_of, Mesh, reports_to, InBlock, InOrder}
use Rattle.rules.proofs.Lists.{length_members}
use Rattle.rules.proofs.Order.{due_in}
use Rattle.rules.proofs.Meshes.{among_count}
use Rattle.rules.proofs.Served.{fan_disjoint}
use Rattle.rules.proofs.SeparateRoutes.{fan_meets}
use Rattle.rules.proofs.Whole.{block_long}
use Rattle.planner.specs.Plan.{block_of, plan_of, plan_bytes, block_length, lengths, plan_length}
use Rattle.flow.proofs.Membership.{has_left, nothing_shared}
use Rattle.planner.proofs.Hitting.{has_sound, sound_small, sound_count}
use Rattle.planner.proofs.Writing.{block_right, block_quorum}

-- products

least_product : (m s f i : ℕ) → s ≤ m → f + 1 ≤ s → (m - 1) * (f + 1) ≤ i * (f + 1) + s * (s - 1) + (m - s) * (f + 1)
least_product m s f i a b =
    let e : m - 1 ≡ m - s + (s - 1) = omega arith in
    let d = add-mul (m - s) (s - 1) (f + 1) in
    let l = mul-le-mul_left (s - 1) b in
    let c = mul_comm s (s - 1) in
    rw e (omega arith)

exact_product : (m f : ℕ) → f + 1 ≤ m → (f + 1) * (f + 1 - 1) + (m - (f + 1)) * (f + 1) ≡ (m - 1) * (f + 1)
exact_product m f b =
    let e : m - 1 ≡ m - (f + 1) + (f + 1 - 1) = omega arith in
    let d = add-mul (m - (f + 1)) (f + 1 - 1) (f + 1) in
    let c = mul_comm (f + 1) (f + 1 - 1) in
    rw e (omega arith)

exact_length : (m s i f t l : ℕ) → i ≡ 0 → s ≡ f + 1 → s ≤ m → l ≡ 4 + 9 * (i * (f + 1) + s * (s - 1) + (m - s) * (f + 1)) + 3 * t → l ≡ 4 + 9 * ((m - 1) * (f + 1)) + 3 * t
exact_length m s i f t l a b c e =
    let d = exact_product m f (omega arith) in
    let z = zero-mul (f + 1) in
    let y = rw (a, b) at e in
    omega arith

-- how many routes a kind has

repeated_length : (k : ℕ) (rs : List ℕ) → length (repeated k rs) ≡ length rs * k
unfolding repeated
repeated_length k [] = sym (zero-mul k)
repeated_length k (r ∷ rs) =
    let a = length-append (replicate k r) (repeated k rs) in
    let b = length-replicate k r in
    let c = repeated_length k rs in
    let d = suc-mul (length rs) k in
    omega arith

fan_length : (n f : ℕ) (links : Links) (F sources receivers : ℕ) (ps : List Route) → Fan n f links F sources receivers ps → length ps ≡ size receivers * (f + 1)
fan_length n f links F sources receivers ps h =
    sym (length-map ps receiver_of) ∙ ap length h.order ∙ repeated_length (f + 1) (members receivers) ∙ ap (λ (k : ℕ). k * (f + 1)) (length_members receivers)

mesh_length : (n : ℕ) (links : Links) (F S : ℕ) (ps : List Route) → Mesh n links F S ps → length ps ≡ size S * (size S - 1)
unfolding among_due
mesh_length n links F S ps h = sym (length-map ps ends_of) ∙ ap length h.order ∙ among_count S

told_length : (F : ℕ) (rs : List Report) → map reports_to rs ≡ members F → length rs ≡ size F
told_length F rs e = sym (length-map rs reports_to) ∙ ap length e ∙ length_members F

-- a part and what it leaves
size_rest : (S W : ℕ) → within S W ≡ true → size W ≡ size S + size (minus W S)
size_rest S W w = ap size (same_all W (union S (minus W S)) (λ x. let a = has_union S (minus W S) x in let b = has_minus W S x in cases (has S x) (λ h. let c = within_in S W w x h in cc) (λ h. cases (has W x) (λ c. cc) (λ c. cc))))
    ∙ size_union S (minus W S) (nothing_shared S (minus W S) (λ y a b. clash (has S y) a (has_left W S y b).1))

module _ (n f : ℕ) (links : Links) (few : n ≤ 8) where
  module _ (d : DueBlock) (b : Block) (g : InBlock n f links d b) where
    -- the block's length, by the sizes of its sets
    sizes_length : length_of b ≡ 4 + 9 * (size (minus b.quorum b.side) * (f + 1) + size b.quorum * (size b.quorum - 1) + (size (minus (full n) b.faults) - size b.quorum) * (f + 1)) + 3 * size b.faults
    unfolding length_of
    sizes_length =
        let i = fan_length n f links b.faults b.side (minus b.quorum b.side) b.inward g.inward in
        let a = mesh_length n links b.faults b.quorum b.among g.among in
        let o = fan_length n f links b.faults b.quorum (minus (minus (full n) b.faults) b.quorum) b.outward g.outward in
        let t = told_length b.faults b.reports g.told in
        let r = size_rest b.quorum (minus (full n) b.faults) g.inside in
        let e : size (minus (minus (full n) b.faults) b.quorum) ≡ size (minus (full n) b.faults) - size b.quorum = omega arith in
        let z = ap (λ (k : ℕ). k * (f + 1)) e in
        omega arith

    sound_few : size b.quorum ≤ size (minus (full n) b.faults)
    sound_few = let r = size_rest b.quorum (minus (full n) b.faults) g.inside in omega arith

  -- a set within V−F is counted below n
  within_count : (F S : ℕ) → within S (minus (full n) F) ≡ true → size S ≡ count n (has S)
  unfolding size
  within_count F S w =
      let e : 8 - n + n ≡ 8 = omega arith in
      rw e at (count_beyond n (8 - n) (has S) (λ i h. is_false (has S i) λ t. let k = (has_sound n F i (within_in S (minus (full n) F) w i t)).0 in absurd (omega arith)))

  sound_size : (F : ℕ) → F < 2 ^ n → size (minus (full n) F) + size F ≡ n
  sound_size F small =
      let a = size_count n (minus (full n) F) few (sound_small n F) in
      let b = size_count n F few small in
      let c = sound_count n F in
      omega arith

  -- S has f + 1 servers at least: as sources of the routes of 13, or as all of V−F
  quorum_large : (d : DueBlock) (b : Block) → InBlock n f links d b → b.faults < 2 ^ n → size b.faults ≤ f → 3 * f + 1 ≤ n → f + 1 ≤ size b.quorum
  quorum_large d b g small bound wide =
      let F = b.faults in
      let S = b.quorum in
      let r = size_rest S (minus (full n) F) g.inside in
      cases (eqb (minus (minus (full n) F) S) 0)
      (λ z. let y = ap size (eqb-true (minus (minus (full n) F) S) 0 z) ∙ size_empty in let t = sound_size F small in omega arith)
      (λ z. let (x, k, h) = member_of n (minus (minus (full n) F) S) few (minus_small n (minus (full n) F) S (sound_small n F)) z in
      let (vs, u) = fan_disjoint n f links F S (minus (minus (full n) F) S) b.outward g.outward x (omega arith) h in
      let m = fan_meets n f links F S x vs u (has S) (λ p m. (source_of p, u.start p m, (0, (let t = (u.routes p m).two in omega arith), refl))) in
      let c = within_count F S g.inside in
      omega arith)

  pub block_least : (d : DueBlock) (b : Block) → InBlock n f links d b → d.faults < 2 ^ n → size d.faults ≤ f → 3 * f + 1 ≤ n → block_length n f d.faults ≤ length_of b
  unfolding block_length
  block_least d b g small bound wide =
      let e = g.faults in
      let s = sizes_length d b g in
      let l = quorum_large d b g (rw e small) (rw e bound) wide in
      let c = sound_few d b g in
      let k = least_product (size (minus (full n) b.faults)) (size b.quorum) f (size (minus b.quorum b.side)) c l in
      rw (← e) (omega arith)

  -- blocks in order, one for one
  blocks_least : (ds : List DueBlock) (bs : List Block) → InOrder n f links ds bs → Each (λ d. (d.faults < 2 ^ n) × (size d.faults ≤ f)) ds → 3 * f + 1 ≤ n → lengths n f ds ≤ length (encode_blocks bs)
  unfolding lengths encode_blocks
  blocks_least [] [] o h wide = omega arith
  blocks_least [] (b ∷ bs) o h wide = absurd o
  blocks_least (d ∷ ds) [] o h wide = absurd o
  blocks_least (d ∷ ds) (b ∷ bs) o h wide =
      let (small, bound) = h d (Memᴰ.head refl) in
      let a = block_least d b o.0 small bound wide in
      let l = block_long n f links few d b o.0 in
      let i = blocks_least ds bs o.1 (λ x m. h x (Memᴰ.tail m)) wide in
      let e = length-append (encode_block b) (encode_blocks bs) in
      omega arith

  pub plan_least : (bs : List Block) → InOrder n f links (due n f) bs → 3 * f + 1 ≤ n → plan_length n f ≤ length (encode_plan bs)
  unfolding plan_length encode_plan
  plan_least bs o wide =
      let a = blocks_least (due n f) bs o (λ d m. let (x, y, z) = due_in n f d m in (x, y)) wide in
      let e = length-append (encode_blocks bs) (0x15 ∷ []) in
      omega arith

-- the plan that is written

module _ (n f : ℕ) (links : Links) (p : Proper n f links) (g : first_bad n f links ≡ good) where
  pub block_exact : (d : DueBlock) → Memᴰ d (due n f) → length (encode_block (block_of n f links d)) ≡ block_length n f d.faults
  unfolding block_length
  block_exact d m =
      let b = block_of n f links d in
      let o = block_right n f links p g d m in
      let (q, i) = block_quorum n f links p g d m in
      block_long n f links p.most d b o
      ∙ exact_length (size (minus (full n) b.faults)) (size b.quorum) (size (minus b.quorum b.side)) f (size b.faults) (length_of b) (ap size i ∙ size_empty) q (sound_few n f links p.most d b o) (sizes_length n f links p.most d b o)
      ∙ ap (λ (F : ℕ). 4 + 9 * ((size (minus (full n) F) - 1) * (f + 1)) + 3 * size F) o.faults

  blocks_exact : (ds : List DueBlock) → Each (λ d. Memᴰ d (due n f)) ds → length (encode_blocks (map (block_of n f links) ds)) ≡ lengths n f ds
  unfolding lengths encode_blocks
  blocks_exact [] h = refl
  blocks_exact (d ∷ ds) h =
      length-append (encode_block (block_of n f links d)) (encode_blocks (map (block_of n f links) ds))
      ∙ ap₂ (λ (a b : ℕ). a + b) (block_exact d (h d (Memᴰ.head refl))) (blocks_exact ds (λ x m. h x (Memᴰ.tail m)))

  pub plan_exact : length (plan_bytes n f links) ≡ plan_length n f
  unfolding plan_bytes plan_of plan_length encode_plan
  plan_exact =
      length-append (encode_blocks (map (block_of n f links) (due n f))) (0x15 ∷ [])
      ∙ ap (λ (k : ℕ). k + 1) (blocks_exact (due n f) (λ d m. m))
