-- What the writer's answers say of the card and of the lent buffer.
--     short_written, room_written   a buffer that is too short, and one with the plan in it
--     refused_wrote, bad_wrote, good_wrote   the answer for each answer of the split test
-- Assumes nothing.
use mathlib.Core.Path.{◌≡◌, refl, sym, ap, ◌∙◌}
use mathlib.Core.List.{List, [], ◌∷◌, ◌++◌}
use Prim.Native.Nat.{ℕ, ◌+◌, ◌≤◌, ◌<◌}
use native.Mathlib.Omega.{arith}
use lib.ListN.{length, set, drop, length-append}
use borrow.Author.Tests.{lt-ltb, le-ltb}
use Rattle.refusal.specs.Refused.{Refused, call, refusal_of}
use Rattle.refusal.specs.declared.Refusal.{Refusal}
use Rattle.facts.specs.Laid.{laid}
use Rattle.facts.proofs.Stores.{laid_append, length_laid, laid_whole}
use Rattle.network.specs.Links.{Links}
use Rattle.network.specs.Card.{network, refused, read_card}
use Rattle.network.specs.Proper.{Proper}
use Rattle.split.specs.Split.{Split, good, bad, unread, first_bad, split_test}
use Rattle.rules.specs.Blocks.{encode_blocks, encode_plan}
use Rattle.planner.specs.Plan.{plan_of, plan_bytes, plan_length}
use Rattle.planner.specs.Write.{Writing, wrote, unwritten, plan_for, fitting, write_into, after_write, written_in}
use Rattle.planner.proofs.Lengths.{plan_exact}
use Rattle.planner.proofs.Main.{write_on_lem, plan_read, wrote_length, accepts, shortest}
use Rattle.std.specs.Prelude.{Result, Err}
use Rattle.split.specs.declared.Split as Code
use Rattle.writer.specs.declared.write.Unwritten.{Unwritten}
use Rattle.writer.specs.Answers.{written_of, Wrote}

module _ (n f : ℕ) (links : Links) (p : Proper n f links) (g : first_bad n f links ≡ good) (lent : List ℕ) (bytes : ℕ) (b : bytes ≡ plan_length n f) where
  plan_long : bytes ≡ length (plan_bytes n f links)
  plan_long = b ∙ sym (plan_exact n f links p g)

  -- the blocks, and the end
  plan_end : length (plan_bytes n f links) ≡ length (encode_blocks (plan_of n f links)) + 1
  unfolding plan_bytes encode_plan
  plan_end = length-append (encode_blocks (plan_of n f links)) (0x15 ∷ [])

  pub short_written : length lent < bytes → unwritten (call 18) ≡ fitting (plan_bytes n f links) lent
  unfolding fitting
  short_written h = let e = plan_long in let t = lt-ltb (length lent) (length (plan_bytes n f links)) (omega arith) in rw t refl

  module _ (h : bytes ≤ length lent) where
    pub blocks_room : length (encode_blocks (plan_of n f links)) ≤ length lent
    blocks_room = let e = plan_long in let d = plan_end in omega arith

    module _ (mid : List ℕ) (end : ℕ) (m : mid ≡ laid 0 (encode_blocks (plan_of n f links)) lent) (w : end ≡ length (encode_blocks (plan_of n f links))) where
      pub end_room : end < length mid
      end_room = let e = plan_long in let d = plan_end in let l = ap length m ∙ length_laid 0 (encode_blocks (plan_of n f links)) lent in omega arith

      end_laid : set mid end 21 ≡ laid 0 (plan_bytes n f links) lent
      unfolding laid plan_bytes encode_plan
      end_laid =
          rw (m, w) (let z = laid_append 0 (encode_blocks (plan_of n f links)) (0x15 ∷ []) lent in let y : 0 + length (encode_blocks (plan_of n f links)) ≡ length (encode_blocks (plan_of n f links)) = omega arith in sym (rw y at z))

      pub room_written : (wrote bytes ≡ fitting (plan_bytes n f links) lent) × (set mid end 21 ≡ plan_bytes n f links ++ drop bytes lent)
      unfolding fitting
      room_written =
          let e = plan_long in
          let t = le-ltb (length lent) (length (plan_bytes n f links)) (omega arith) in
          (rw (t, e) refl, end_laid ∙ laid_whole (plan_bytes n f links) lent (omega arith) ∙ rw e refl)

-- the whole answer

wrote_of : (card lent after : List ℕ) (r : Result ℕ Unwritten) → written_of r ≡ write_into card lent → after ≡ written_in card lent → Wrote card lent r after
wrote_of card lent after r a b =
    record {
      answer = a;
      bytes = b;
      accepted = λ bytes e. rw b (accepts card lent bytes (sym a ∙ e));
      shortest = λ bytes e s t. let l = wrote_length card lent bytes (sym a ∙ e) in let k = shortest card s t in omega arith;
    }

module _ (card lent : List ℕ) where
  pub refused_wrote : (x : Refusal) → unread (refusal_of x) ≡ split_test card → Wrote card lent (Err (Unwritten.Refused x)) lent
  unfolding written_in
  refused_wrote x e =
      let q = write_on_lem card lent (unread (refusal_of x)) (sym e) in
      wrote_of card lent lent (Err (Unwritten.Refused x)) (sym q) (sym (ap (λ (w : Writing). after_write w (plan_for card) lent) q))

  pub bad_wrote : (x : Code.Split) → bad x.f x.l x.c x.r ≡ split_test card → Wrote card lent (Err (Unwritten.Split x)) lent
  unfolding written_in
  bad_wrote x e =
      let q = write_on_lem card lent (bad x.f x.l x.c x.r) (sym e) in
      wrote_of card lent lent (Err (Unwritten.Split x)) (sym q) (sym (ap (λ (w : Writing). after_write w (plan_for card) lent) q))

  pub good_wrote : (n f : ℕ) (links : Links) → network n f links ≡ read_card card → good ≡ split_test card → (r : Result ℕ Unwritten) (after : List ℕ)
      → written_of r ≡ fitting (plan_bytes n f links) lent → after ≡ after_write (written_of r) (plan_bytes n f links) lent → Wrote card lent r after
  unfolding written_in
  good_wrote n f links e g r after a b =
      let p = plan_read card n f links (sym e) in
      let q : write_into card lent ≡ fitting (plan_for card) lent = write_on_lem card lent good (sym g) in
      let t : written_of r ≡ write_into card lent = a ∙ ap (λ (s : List ℕ). fitting s lent) (sym p) ∙ sym q in
      wrote_of card lent after r t (b ∙ ap (λ (s : List ℕ). after_write (written_of r) s lent) (sym p) ∙ ap (λ (w : Writing). after_write w (plan_for card) lent) t)

  -- the network of a card that the split test passes has no bad split
  pub good_network : (n f : ℕ) (links : Links) → network n f links ≡ read_card card → good ≡ split_test card → first_bad n f links ≡ good
  unfolding split_test
  good_network n f links e g = let z = rw (sym e) at g in sym z

  -- a card that is not read has no split test to say "none"
  pub good_unread : {C : Type 0} → good ≡ split_test card → (r : Refused) → refused r ≡ read_card card → C
  unfolding split_test
  good_unread g r e = let z = rw (sym e) at g in absurd (kinds z)
    where
      kind_of : Split → ℕ
      kind_of good = 0
      kind_of (bad f l c s) = 1
      kind_of (unread r) = 2

      kinds : good ≡ unread r → ⊥
      kinds z = let y : ◌≡◌ {A = ℕ} 0 2 = ap kind_of z in absurd (omega arith)
