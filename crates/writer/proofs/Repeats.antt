-- A block written anew, and one whose body stands in the buffer already.
--     block_split       a block is its opening and its body, which does not depend on A
--     block_new         a block written anew into the part from its place on; long_new how many bytes it has
--     again_fits        there is room for its opening and its body
--     block_again       its opening laid, and its body copied, are the block
-- Assumes nothing.
use mathlib.Core.Path.{◌≡◌, refl, sym, ap, ◌∙◌}
use mathlib.Core.List.{List, [], ◌∷◌, ◌++◌}
use Prim.Native.Nat.{ℕ, ◌+◌, ◌-◌, ◌≤◌}
use native.Mathlib.Omega.{arith}
use lib.ListN.{length, take, drop, length-append}
use Rattle.facts.specs.Laid.{laid}
use Rattle.facts.proofs.Stores.{laid_append}
use Rattle.network.specs.Links.{Links}
use Rattle.rules.specs.Blocks.{encode_block}
use Rattle.planner.specs.Plan.{block_with}
use Rattle.blocks.specs.Written.{block_by, BlockPut}
use Rattle.blocks.proofs.Plan.{block_by_lem}
use Rattle.blocks.specs.declared.Site.{Site}
use Rattle.writer.specs.Site.{Ready}
use Rattle.writer.specs.Bytes.{opening_bytes, body_bytes, Stands}
use Rattle.writer.proofs.Copies.{laid_kept, part_laid}

pub block_split : (n f : ℕ) (links : Links) (F A S : ℕ) → encode_block (block_with n f links F A S) ≡ opening_bytes F A S ++ body_bytes n f links F S
unfolding encode_block block_with opening_bytes body_bytes
block_split n f links F A S = refl

module _ (n f : ℕ) (links : Links) (F A S from each at : ℕ) (lent mid last : List ℕ) (st : Stands (body_bytes n f links F S) each at lent from)
    (m : mid ≡ laid at (16 ∷ F ∷ A ∷ S ∷ []) lent) (l : last ≡ laid (at + 4) (take (each - 4) (drop from mid)) mid) where
  pub block_again : (last ≡ laid at (encode_block (block_with n f links F A S)) lent) × (each ≡ length (encode_block (block_with n f links F A S)))
  unfolding opening_bytes
  block_again =
      let body = body_bytes n f links F S in
      let w = st.whole in
      let b = st.before in
      let k : each - 4 ≡ length body = omega arith in
      let c : take (each - 4) (drop from mid) ≡ body = ap (λ (j : ℕ). take j (drop from mid)) k ∙ ap (λ (s : List ℕ). take (length body) (drop from s)) m ∙ laid_kept at (16 ∷ F ∷ A ∷ S ∷ []) lent from (length body) b ∙ st.there in
      let e = block_split n f links F A S in (
        l ∙ ap (λ (t : List ℕ). laid (at + 4) t mid) c ∙ ap (laid (at + 4) body) m ∙ sym (laid_append at (16 ∷ F ∷ A ∷ S ∷ []) body lent) ∙ sym (ap (λ (t : List ℕ). laid at t lent) e),
        w ∙ sym (ap length e ∙ length-append (opening_bytes F A S) body),
      )

-- there is room for the opening and the body
pub again_fits : (n f : ℕ) (links : Links) (F A S from each at : ℕ) (lent : List ℕ) → Stands (body_bytes n f links F S) each at lent from
    → at + length (encode_block (block_with n f links F A S)) ≤ length lent → (at + 4 ≤ length lent) × (from + (each - 4) ≤ at + 4) × (at + 4 + (each - 4) ≤ length lent)
unfolding opening_bytes
again_fits n f links F A S from each at lent st h =
    let w = st.whole in
    let b = st.before in
    let l = ap length (block_split n f links F A S) ∙ length-append (opening_bytes F A S) (body_bytes n f links F S) in
    (omega arith, omega arith, omega arith)

-- a block written anew, into the part from its place on
module _ (n f : ℕ) (links : Links) (F A S at : ℕ) (site : Site) (rd : Ready n f links F site) (old last : List ℕ) (r : ℕ) (h : at ≤ length old)
    (put : BlockPut (block_by site.rows site.sources site.sound site.count site.fault A S) (take (length old - at) (drop at old)) last r) where
  block_is : block_by site.rows site.sources site.sound site.count site.fault A S ≡ block_with n f links F A S
  block_is = rw (rd.ahead, rd.sound, rd.count, rd.fault) (block_by_lem links site.sources rd.back n f F A S)

  pub block_new : take at old ++ (last ++ drop (length old - at) (drop at old)) ≡ laid at (encode_block (block_with n f links F A S)) old
  block_new = part_laid at old last (encode_block (block_with n f links F A S)) h (rw block_is at put.bytes)

  pub long_new : r ≡ length (encode_block (block_with n f links F A S))
  long_new = rw block_is at put.long
