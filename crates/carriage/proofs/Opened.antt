-- What the opening command of a block fixes, as the code computes it.
--     product_few   a product of two small numbers is small
--     square_more   a number is at most its square
--     inward_by, .. the counts as the code makes them up
--     opens_by      by the table of sizes the counts of routes are those that are due
-- Assumes nothing.
use mathlib.Core.Path.{◌≡◌, refl, sym, ◌∙◌}
use mathlib.Core.List.{List}
use Prim.Native.Nat.{ℕ, zero, suc, min, ◌+◌, ◌-◌, ◌*◌, ◌≤◌, ◌<◌}
use native.Mathlib.Nat.{mul-le-mul, mul-sub, mul-suc}
use native.Mathlib.Omega.{arith}
use lib.ListN.{get_or}
use Rattle.sets.specs.Sets.{minus, full, size, TableOf}
use Rattle.sets.proofs.Members.{minus_small}
use Rattle.plan.proofs.Cuts.{full_few}
use Rattle.rules.specs.Blocks.{inward_due, among_due, outward_due}
use Rattle.carriage.specs.declared.opening.Opening.{Opening}
use Rattle.carriage.specs.Openings.{OpensBy, Opens}

pub product_few : (a b : ℕ) → a < 256 → b ≤ 256 → a * b < 65536
product_few a b h l = let k : a ≤ 255 = omega arith in let m = mul-le-mul k l in omega arith

-- the routes among s servers are a square without its diagonal

square_more : (s : ℕ) → s ≤ s * s
square_more zero = omega arith
square_more (suc s) = let m = mul-suc (suc s) s in omega arith

square_less : (s : ℕ) → s * s - s ≡ s * (s - 1)
square_less s = let m = mul-sub s s 1 in let o : s * 1 ≡ s = omega arith in sym (rw o at m)

-- the counts, as the code makes them up from its table

pub inward_by : (sizes : List ℕ) (f q a set x r : ℕ) → r ≡ x * (f + 1) → x ≡ get_or sizes set 0 → set ≡ minus q a → r ≡ get_or sizes (minus q a) 0 * (f + 1)
inward_by sizes f q a set x r e g h = rw (e, g, h) refl

pub among_by : (sizes : List ℕ) (q x r : ℕ) → r ≡ x * x → x ≡ get_or sizes q 0 → r - x ≡ get_or sizes q 0 * get_or sizes q 0 - get_or sizes q 0
among_by sizes q x r e g = rw (e, g) refl

pub among_fits : (x r : ℕ) → r ≡ x * x → x ≤ r
among_fits x r e = let m = square_more x in omega arith

pub outward_by : (sizes : List ℕ) (n f F q servers sound set x r : ℕ) → r ≡ x * (f + 1) → x ≡ get_or sizes set 0 → set ≡ minus sound q → sound ≡ minus servers F
    → servers ≡ full (min n 8) → r ≡ get_or sizes (minus (minus (full (min n 8)) F) q) 0 * (f + 1)
outward_by sizes n f F q servers sound set x r e g h j k = rw (e, g, h, j, k) refl

pub carriages_by : (f routes reports r : ℕ) → r ≡ reports * (f + 1) → routes + r ≡ routes + reports * (f + 1)
carriages_by f routes reports r e = rw e refl

-- the sets of the opening command are bytes
pub opens_by : (sizes : List ℕ) → TableOf size sizes → (n f : ℕ) → n ≤ 8 → (s : List ℕ) (o : Opening) → OpensBy sizes n f s o
    → o.fault < 256 → o.quorum < 256 → Opens n f s o
unfolding inward_due among_due outward_due
opens_by sizes table n f few s o h u q =
    let v = full_few n (full (min n 8)) few refl in
    let sound = minus (full (min n 8)) o.fault in
    let sound_few = minus_small 8 (full (min n 8)) o.fault (omega (arith, v.2)) in
    let at_into = table.entry (minus o.quorum o.side) (minus_small 8 o.quorum o.side q) in
    let at-quorum = table.entry o.quorum q in
    let at_out = table.entry (minus sound o.quorum) (minus_small 8 sound o.quorum sound_few) in
    record {
      servers = h.servers;
      bound = h.bound;
      fault = h.fault;
      side = h.side;
      quorum = h.quorum;
      inward = h.inward ∙ rw (at_into, h.bound) refl;
      among = h.among ∙ rw at-quorum (square_less (size o.quorum));
      outward = h.outward ∙ rw (at_out, v.0, h.bound, h.servers) refl;
      reports = h.reports ∙ table.entry o.fault u;
      bytes = h.bytes;
      carriages = h.carriages ∙ rw h.bound refl;
    }
