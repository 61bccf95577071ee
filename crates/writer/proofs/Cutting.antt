-- The blocks of one F, one after the other.
--     Cutting       the blocks that are left, laid from here on, give the whole; and each body whose block has a number stands where that says
--     cutting-..    its start; a block more; and its end
-- All blocks of one F have the same length, so the number of a block says where its body stands. Assumes nothing.
use mathlib.Core.Path.{◌≡◌, refl, sym, ap, ap₂, ◌∙◌}
use mathlib.Core.Bool.{true}
use mathlib.Core.List.Memᴰ
use mathlib.Core.List.{List, [], ◌∷◌, ◌++◌, map}
use Rattle.std.specs.Prelude.{Option, Some, None, IfSome, option_map}
use Prim.Native.Nat.{ℕ, zero, suc, ◌+◌, ◌*◌, ◌^◌, ◌≤◌, ◌<◌}
use native.Mathlib.Nat.{suc-mul, zero-mul}
use native.Mathlib.Numerals.{add-one}
use native.Mathlib.Omega.{arith}
use lib.Dec.{eqb}
use Rattle.std.proofs.lemmas.Option.{IfSome_then}
use lib.ListN.{length, get_or, set, take, drop, replicate, length-set, length-append}
use lib.Seq.{get_or-set_same, get_or-set_other}
use borrow.Author.Tests.{eqb-true, eqb-false}
use Rattle.facts.proofs.Bools.{cases}
use Rattle.facts.specs.Laid.{laid}
use Rattle.facts.proofs.Stores.{laid_append, length_laid}
use Rattle.sets.specs.Sets.{minus, full}
use Rattle.facts.specs.Lists.{Each}
use Rattle.network.specs.Links.{Links}
use Rattle.network.specs.Proper.{Proper}
use Rattle.blocks.specs.declared.Site.{Site}
use Rattle.sets.specs.Members.{list_from}
use Rattle.plan.specs.Due.{DueBlock, is_part, blocks_of}
use Rattle.plan.specs.Ahead.{parts}
use Rattle.plan.proofs.Cuts.{parts_due, few_parts}
use Rattle.rules.specs.Blocks.{encode_block, encode_blocks}
use Rattle.rules.proofs.Order.{in_due}
use Rattle.rules.proofs.Lists.{listed_in}
use Rattle.planner.specs.Choice.{side_of, quorum_of}
use Rattle.planner.specs.Plan.{block_with, block_of, block_length}
use Rattle.planner.proofs.Lengths.{block_exact}
use Rattle.writer.specs.Site.{Ready}
use Rattle.writer.specs.Bytes.{opening_bytes, body_bytes, cuts_bytes, body_at, Stands, Again}
use Rattle.writer.proofs.Copies.{laid_kept, laid_held}
use Rattle.writer.proofs.Repeats.{block_split}

no_number : (n x : ℕ) → x < n → get_or {A = Option ℕ} (replicate n None) x None ≡ None
no_number zero x h = absurd (omega arith)
no_number (suc n) zero h = refl
no_number (suc n) (suc x) h = no_number n x (omega arith)

module _ (n f : ℕ) (links : Links) (F : ℕ) where
  -- a part and its block
  abbrev due_at : ℕ → DueBlock
  due_at p = record { faults = F; part = p }

  -- a number that is a part of V−F
  abbrev IsPart : ℕ → Type 0
  IsPart p = (p < 2 ^ n) × (is_part (minus (full n) F) p ≡ true)

  -- the bytes of the blocks for these parts
  abbrev text : List ℕ → List ℕ
  text ps = encode_blocks (map (block_of n f links) (blocks_of F ps))

  text_next : (p : ℕ) (ps : List ℕ) → text (p ∷ ps) ≡ encode_block (block_of n f links (due_at p)) ++ text ps
  unfolding blocks_of encode_blocks
  text_next p ps = refl

  module _ (start : ℕ) (old : List ℕ) where
    -- a body whose block has a number stands where that says, and `each` is the length of a block
    abbrev Held : (S : ℕ) → Option ℕ → (each at : ℕ) → List ℕ → Type 0
    Held S number each at lent =
        let long = block_length n f F in
        IfSome number (λ (k : ℕ). (each ≡ long) × Stands (body_bytes n f links F S) long at lent (body_at start long k))

    -- k blocks are written
    pub record Cutting (left : List ℕ) (k at each : ℕ) (numbers : List (Option ℕ)) (lent : List ℕ) : Type 0 where
      pub parts : Each IsPart left
      pub few : k + length left ≤ 256
      pub long : length lent ≡ length old
      pub room : at + length (text left) ≤ length old
      pub whole : laid at (text left) lent ≡ laid start (cuts_bytes n f links F) old
      pub reach : at + length (text left) ≡ start + length (cuts_bytes n f links F)
      pub place : at ≡ start + k * block_length n f F
      pub many : length numbers ≡ 256
      pub held : (S : ℕ) → S < 256 → Held S (get_or numbers S None) each at lent

    pub cutting_starts : (left : List ℕ) (W : ℕ) → W < 256 → W ≡ minus (full n) F → left ≡ parts W → start + length (cuts_bytes n f links F) ≤ length old
        → Cutting left 0 start 0 (replicate 256 None) old
    unfolding cuts_bytes
    cutting_starts left W b e l r =
        let d : left ≡ list_from (2 ^ n) 0 (is_part (minus (full n) F)) = l ∙ sym (parts_due n F W e) in
        let k = few_parts W in
        let z = zero-mul (block_length n f F) in
        let y = ap length l in
        let x = ap length d in
        rw d record {
          parts = λ p m. let i = listed_in (2 ^ n) 0 (is_part (minus (full n) F)) p m in (omega arith, i.0);
          few = omega arith;
          long = refl;
          room = r;
          whole = refl;
          reach = refl;
          place = omega arith;
          many = refl;
          held = λ S h. rw (no_number 256 S h) tt;
        }

    module _ (left : List ℕ) (k at each : ℕ) (numbers : List (Option ℕ)) (lent : List ℕ) (so : Cutting left k at each numbers lent) where
      pub cutting_ends : left ≡ [] → lent ≡ laid start (cuts_bytes n f links F) old
      unfolding laid blocks_of encode_blocks
      cutting_ends e = rw e at so.whole

      pub cutting_reach : left ≡ [] → at ≡ start + length (cuts_bytes n f links F)
      unfolding blocks_of encode_blocks
      cutting_reach e = let y = rw e at so.reach in omega arith

      module _ (w : Proper n f links) (site : Site) (r : Ready n f links F site) (p : ℕ) (next : List ℕ) (e : left ≡ p ∷ next)
          (A S : ℕ) (ea : A ≡ side_of n f links F p) (es : S ≡ quorum_of n f links F (side_of n f links F p)) (byte : S < 256) where
        here_part : IsPart p
        here_part = so.parts p (rw e (Memᴰ.head refl))

        -- the block for this part
        abbrev block : List ℕ
        block = encode_block (block_with n f links F A S)

        block_is : encode_block (block_of n f links (due_at p)) ≡ block
        unfolding block_of
        block_is = sym (ap₂ (λ (x y : ℕ). encode_block (block_with n f links F x y)) ea es)

        block_long : length block ≡ block_length n f F
        block_long =
            sym (ap length block_is)
            ∙ block_exact n f links w r.fine (due_at p) (in_due n f F p r.small r.bound here_part.0 here_part.1)

        left_is : text left ≡ block ++ text next
        left_is = ap text e ∙ text_next p next ∙ ap (λ (b : List ℕ). b ++ text next) block_is

        pub block_room : at + length block ≤ length lent
        block_room =
            let z = ap length left_is in
            let y = length-append block (text next) in
            let x = so.room in
            let w = so.long in
            omega arith

        body_long : length block ≡ 4 + length (body_bytes n f links F S)
        unfolding opening_bytes
        body_long = ap length (block_split n f links F A S) ∙ length-append (opening_bytes F A S) (body_bytes n f links F S)

        -- the place that a number gives is before `at`, so it is no number too large
        pub cutting_place : length old < 18446744073709551616 → IfSome (get_or numbers S None) (λ (j : ℕ). body_at start each j < 18446744073709551616)
        cutting_place h =
            let x = so.room in
            IfSome_then (get_or numbers S None) (so.held S byte) (λ j (d, s). let b = s.before in rw d (omega arith))

        pub cutting_again : (from : Option ℕ) → from ≡ option_map (body_at start each) (get_or numbers S None) → Again (body_bytes n f links F S) from each at lent
        cutting_again from q = rw q (stands (get_or numbers S None) (so.held S byte))
          where
            stands : (number : Option ℕ) → Held S number each at lent → Again (body_bytes n f links F S) (option_map (body_at start each) number) each at lent
            stands None h = tt
            stands (Some j) (d, s) = rw d s

        -- its number is a byte
        pub cutting_number : k < 256
        cutting_number = let x = so.few in let y = ap length e in omega arith

        pub cutting_fits : (bytes : ℕ) → bytes ≡ length block → at + bytes ≤ length old
        cutting_fits bytes q = let a = block_room in let v = so.long in omega arith

        module _ (lent' : List ℕ) (bytes : ℕ) (el : lent' ≡ laid at block lent) (eb : bytes ≡ length block) where
          -- the body of this block stands behind its opening
          new_body : Stands (body_bytes n f links F S) (block_length n f F) (at + bytes) lent' (body_at start (block_length n f F) k)
          unfolding opening_bytes
          new_body =
              let b = block_long in
              let c = body_long in
              let a = block_room in
              let v = so.place in
              let o = length_laid at (opening_bytes F A S) lent in
              let q : body_at start (block_length n f F) k ≡ at + 4 = omega arith in
              rw q record {
                whole = omega arith;
                before = omega arith;
                there = ap (λ (s : List ℕ). take (length (body_bytes n f links F S)) (drop (at + 4) s)) (el ∙ ap (λ (b : List ℕ). laid at b lent) (block_split n f links F A S) ∙ laid_append at (opening_bytes F A S) (body_bytes n f links F S) lent)
                    ∙ laid_held (at + 4) (body_bytes n f links F S) (laid at (opening_bytes F A S) lent) (omega arith);
              }

          -- and the others where they stood
          old_body : (S' from long : ℕ) → Stands (body_bytes n f links F S') long at lent from → Stands (body_bytes n f links F S') long (at + bytes) lent' from
          old_body S' from long s =
              let y = s.before in
              record {
                whole = s.whole;
                before = omega arith;
                there = ap (λ (t : List ℕ). take (length (body_bytes n f links F S')) (drop from t)) el ∙ laid_kept at block lent from (length (body_bytes n f links F S')) y ∙ s.there;
              }

          all_held : (S' : ℕ) → S' < 256 → Held S' (get_or (set numbers S (Some k)) S' None) bytes (at + bytes) lent'
          all_held S' h =
              let b = block_long in
              let m = so.many in
              cases (eqb S' S)
              (λ q. let z = eqb-true S' S q in rw z (rw (get_or-set_same numbers S (Some k) None (omega arith)) (eb ∙ b, new_body)))
              (λ q. rw (get_or-set_other numbers S S' (Some k) None (eqb-false S' S q))
              (IfSome_then (get_or numbers S' None) (so.held S' h) (λ j (d, s). (eb ∙ b, old_body S' _ _ s))))

          pub cutting_turn : Cutting next (k + 1) (at + bytes) bytes (set numbers S (Some k)) lent'
          cutting_turn =
              let z = left_is in
              let zl = ap length z in
              let y = length-append block (text next) in
              let x = so.room in
              let v = so.reach in
              let b = block_long in
              let u = so.place in
              let t = so.few in
              let l = ap length e in
              let m : (k + 1) * block_length n f F ≡ k * block_length n f F + block_length n f F = ap (λ (j : ℕ). j * block_length n f F) (add-one k) ∙ suc-mul k (block_length n f F) in
              record {
                parts = λ p m. so.parts p (rw e (Memᴰ.tail m));
                few = omega arith;
                long = ap length el ∙ length_laid at block lent ∙ so.long;
                room = omega arith;
                whole = rw (el, eb) (sym (laid_append at block (text next) lent) ∙ sym (ap (λ (t : List ℕ). laid at t lent) z) ∙ so.whole);
                reach = omega arith;
                place = omega arith;
                many = length-set numbers S (Some k) ∙ so.many;
                held = all_held;
              }
