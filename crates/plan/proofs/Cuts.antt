-- The fault sets of a network and the parts that its cuts are known by.
--     full_few        the servers of a network, and how many sets of them there are
--     parts_due       the parts are all below the set that is cut
--     few_parts, blocks_next, due_few   how many parts a set has, and how many blocks are due
-- Assumes nothing.
use mathlib.Core.Path.{◌≡◌, refl, ap, ◌∙◌}
use mathlib.Core.Bool.{true, false, not}
use mathlib.Core.List.{List, [], ◌∷◌}
use Prim.Native.Nat.{ℕ, zero, suc, min, ◌+◌, ◌-◌, ◌*◌, ◌^◌, ◌≤◌, ◌<◌}
use native.Mathlib.Omega.{arith}
use lib.ListN.{length, length-append}
use lib.Pow.{pow_pos, pow_mono}
use lib.Dec.{eqb}
use borrow.Author.Tests.{eq-eqb, eqb-true}
use Rattle.std.proofs.lemmas.Nat.{and_le_r}
use Rattle.facts.proofs.Bools.{cases, clash, is_false, and_left, and_right}
use Rattle.sets.specs.Sets.{Set, has, minus, within, full, lowest}
use Rattle.sets.specs.Members.{list_from}
use Rattle.sets.proofs.Members.{minus_small, full_small}
use Rattle.plan.specs.Due.{is_part, blocks_of, blocks_of_all, due}
use Rattle.plan.specs.Ahead.{few, parts, faults}

-- the servers are all below n, and one more is the number of their sets, at most 256
pub full_few : (n servers : ℕ) → n ≤ 8 → servers ≡ full (min n 8) → (servers ≡ full n) × (servers + 1 ≡ 2 ^ n) × (servers + 1 ≤ 256)
unfolding full
full_few n servers h e =
    let w : min n 8 ≡ n = omega arith in
    let v = rw w at e in
    let p = pow_pos n in
    let m : 2 ^ n ≤ 2 ^ 8 = pow_mono h in
    (v, omega arith, omega arith)

-- a part is below the set
pub part_below : (W p : ℕ) → is_part W p ≡ true → p < W
unfolding is_part within
part_below W p e =
    let l = and_le_r p W in
    let i = eqb-true _ p (and_left _ _ e) in
    let o = and_right (has p (lowest W)) _ (and_right _ _ e) in
    let d : p ≡ W → ⊥ = λ q. clash (not (eqb p W)) o (simp (eq-eqb p W q)) in
    omega arith

none_from : (k lo : ℕ) (p : Set) → ((i : ℕ) → lo ≤ i → p i ≡ false) → list_from k lo p ≡ []
unfolding list_from
none_from zero lo p h = refl
none_from (suc k) lo p h = rw (h lo (omega arith)) (none_from k (suc lo) p (λ i g. h i (omega arith)))

fewer_from : (k m lo : ℕ) (p : Set) → ((i : ℕ) → lo + k ≤ i → p i ≡ false) → list_from (k + m) lo p ≡ list_from k lo p
unfolding list_from
fewer_from zero m lo p h = rw (Rattle.std.proofs.Common.zero-add m) (none_from m lo p (λ i g. h i (omega arith)))
fewer_from (suc k) m lo p h =
    let ih = fewer_from k m (suc lo) p (λ i g. h i (omega arith)) in
    rw (Rattle.std.proofs.Common.suc-add k m) (cases (p lo) (λ e. rw e (ap (λ (l : List ℕ). lo ∷ l) ih)) (λ e. rw e ih))

pub parts_due : (n F sound : ℕ) → sound ≡ minus (full n) F → list_from (2 ^ n) 0 (is_part (minus (full n) F)) ≡ parts sound
parts_due n F sound e =
    let l = minus_small n (full n) F (full_small n) in
    let z : 2 ^ n ≡ sound + (2 ^ n - sound) = omega arith in
    rw (← e, z) (fewer_from sound (2 ^ n - sound) 0 (is_part sound) (λ i g. is_false (is_part sound i) (λ t. let b = part_below sound i t in absurd (omega arith))))

-- how many blocks are due

length_from : (k lo : ℕ) (p : Set) → length (list_from k lo p) ≤ k
unfolding list_from
length_from zero lo p = omega arith
length_from (suc k) lo p = let ih = length_from k (suc lo) p in cases (p lo) (λ e. rw e (omega arith)) (λ e. rw e (omega arith))

pub few_parts : (sound : ℕ) → length (parts sound) ≤ sound
few_parts sound = length_from sound 0 (is_part sound)

length_blocks : (F : ℕ) (ps : List ℕ) → length (blocks_of F ps) ≡ length ps
unfolding blocks_of
length_blocks F [] = refl
length_blocks F (p ∷ ps) = ap suc (length_blocks F ps)

pub blocks_next : (n F : ℕ) (Fs : List ℕ) {sound : ℕ} → sound ≡ minus (full n) F → length (blocks_of_all n (F ∷ Fs)) ≡ length (parts sound) + length (blocks_of_all n Fs)
unfolding blocks_of_all
blocks_next n F Fs {sound} e =
    rw (parts_due n F sound e) (length-append (blocks_of F (parts sound)) (blocks_of_all n Fs) ∙ ap (λ (x : ℕ). x + length (blocks_of_all n Fs)) (length_blocks F (parts sound)))

blocks_few : (n : ℕ) → n ≤ 8 → (Fs : List ℕ) → length (blocks_of_all n Fs) ≤ 256 * length Fs
unfolding blocks_of_all
blocks_few n h [] = omega arith
blocks_few n h (F ∷ Fs) =
    let ih = blocks_few n h Fs in
    let e = blocks_next n F Fs refl in
    let l = few_parts (minus (full n) F) in
    let s = minus_small n (full n) F (full_small n) in
    let m : 2 ^ n ≤ 2 ^ 8 = pow_mono h in
    omega arith

pub due_few : (n f : ℕ) → n ≤ 8 → length (due n f) ≤ 65536
unfolding due
due_few n f h =
    let b = blocks_few n h (faults n f) in
    let l = length_from (2 ^ n) 0 (few f) in
    let m : 2 ^ n ≤ 2 ^ 8 = pow_mono h in
    omega arith
