-- The blocks of each F, one F after the other.
--     Faulting       the blocks that are left, laid from here on, give the whole
--     faulting-..    its start; the blocks of an F more; and its end
--     weak_of        the filled table is that of the sets that hold a weak set
-- Assumes nothing.
use mathlib.Core.Path.{◌≡◌, refl, sym, ap, ◌∙◌}
use mathlib.Core.List.Memᴰ
use mathlib.Core.List.{List, [], ◌∷◌, ◌++◌, map, append_assoc}
use Prim.Native.Nat.{ℕ, ◌+◌, ◌^◌, ◌≤◌, ◌<◌, min}
use native.Mathlib.Omega.{arith}
use lib.ListN.{length, length-append}
use borrow.Author.Tests.{leb-true}
use Rattle.facts.specs.Lists.{Each}
use Rattle.facts.specs.Laid.{laid}
use Rattle.facts.proofs.Stores.{laid_append, length_laid}
use Rattle.sets.specs.Sets.{minus, full, size}
use Rattle.network.specs.Links.{Links}
use Rattle.sets.specs.Members.{list_from}
use Rattle.plan.specs.Due.{is_part, blocks_of, blocks_of_all, due}
use Rattle.plan.specs.Ahead.{few, faults}
use Rattle.rules.specs.Blocks.{Block, encode_block, encode_blocks}
use Rattle.rules.proofs.Fans.{map_join}
use Rattle.rules.proofs.Lists.{listed_in}
use Rattle.planner.specs.Plan.{block_of, plan_of}
use Rattle.writer.specs.Bytes.{cuts_bytes}

encode_join : (xs ys : List Block) → encode_blocks (xs ++ ys) ≡ encode_blocks xs ++ encode_blocks ys
unfolding encode_blocks
encode_join [] ys = refl
encode_join (x ∷ xs) ys = ap (λ (l : List ℕ). encode_block x ++ l) (encode_join xs ys) ∙ sym (append_assoc (encode_block x) (encode_blocks xs) (encode_blocks ys))

module _ (n f : ℕ) (links : Links) where
  -- the bytes of the blocks for these sets
  abbrev text : List ℕ → List ℕ
  text Fs = encode_blocks (map (block_of n f links) (blocks_of_all n Fs))

  text_next : (F : ℕ) (Fs : List ℕ) → text (F ∷ Fs) ≡ cuts_bytes n f links F ++ text Fs
  unfolding blocks_of_all cuts_bytes
  text_next F Fs =
      let own = blocks_of F (list_from (2 ^ n) 0 (is_part (minus (full n) F))) in
      ap encode_blocks (map_join (block_of n f links) own (blocks_of_all n Fs)) ∙ encode_join (map (block_of n f links) own) (map (block_of n f links) (blocks_of_all n Fs))

  module _ (old : List ℕ) where
    pub record Faulting (left : List ℕ) (at : ℕ) (lent : List ℕ) : Type 0 where
      pub sets : Each (λ F. (F < 2 ^ n) × (size F ≤ f)) left
      pub long : length lent ≡ length old
      pub room : at + length (text left) ≤ length old
      pub whole : laid at (text left) lent ≡ laid 0 (encode_blocks (plan_of n f links)) old
      pub reach : at + length (text left) ≡ length (encode_blocks (plan_of n f links))

    pub faulting_starts : (left : List ℕ) → n ≤ 8 → left ≡ faults (min n 8) f → length (encode_blocks (plan_of n f links)) ≤ length old → Faulting left 0 old
    unfolding plan_of due
    faulting_starts left few8 e r =
        let m : min n 8 ≡ n = omega arith in
        rw (e, m) record {
          sets = λ F i. let l = listed_in (2 ^ n) 0 (few f) F i in (omega arith, leb-true (size F) f l.0);
          long = refl;
          room = omega arith;
          whole = refl;
          reach = omega arith;
        }

    module _ (left : List ℕ) (at : ℕ) (lent : List ℕ) (so : Faulting left at lent) where
      pub faulting_ends : left ≡ [] → lent ≡ laid 0 (encode_blocks (plan_of n f links)) old
      unfolding laid blocks_of_all encode_blocks
      faulting_ends e = rw e at so.whole

      pub faulting_reach : left ≡ [] → at ≡ length (encode_blocks (plan_of n f links))
      unfolding blocks_of_all encode_blocks
      faulting_reach e = let y = rw e at so.reach in omega arith

      module _ (F : ℕ) (next : List ℕ) (e : left ≡ F ∷ next) where
        pub faulting_set : (F < 2 ^ n) × (size F ≤ f)
        faulting_set = so.sets F (rw e (Memᴰ.head refl))

        left_is : text left ≡ cuts_bytes n f links F ++ text next
        left_is = ap text e ∙ text_next F next

        pub faulting_room : at + length (cuts_bytes n f links F) ≤ length lent
        faulting_room =
            let z = ap length left_is in
            let y = length-append (cuts_bytes n f links F) (text next) in
            let x = so.room in
            let w = so.long in
            omega arith

        pub faulting_turn : (lent' : List ℕ) (at' : ℕ) → lent' ≡ laid at (cuts_bytes n f links F) lent → at' ≡ at + length (cuts_bytes n f links F) → Faulting next at' lent'
        faulting_turn lent' at' el ea =
            let z = left_is in
            let zl = ap length z in
            let y = length-append (cuts_bytes n f links F) (text next) in
            let x = so.room in
            let v = so.reach in
            record {
              sets = λ G m. so.sets G (rw e (Memᴰ.tail m));
              long = ap length el ∙ length_laid at (cuts_bytes n f links F) lent ∙ so.long;
              room = omega arith;
              whole = rw (el, ea) (sym (laid_append at (cuts_bytes n f links F) (text next) lent) ∙ sym (ap (λ (t : List ℕ). laid at t lent) z) ∙ so.whole);
              reach = omega arith;
            }
