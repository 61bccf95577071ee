-- The reports of a block.
--     linked-..     the links of the reporters to k, one after the other
--     report-..     what the tests of one report give
-- Assumes nothing.
use mathlib.Core.Path.{◌≡◌, sym, ◌∙◌}
use mathlib.Core.Bool.{Bool, true, false, ◌&&◌}
use mathlib.Core.List.{List, [], ◌∷◌}
use Prim.Native.Nat.{ℕ, ◌<◌}
use lib.ListN.{get_or}
use Rattle.sets.specs.Sets.{has}
use Rattle.network.specs.Links.{Links}
use Rattle.network.specs.Rows.{links_of}
use Rattle.network.proofs.LinkRows.{linked_row}
use Rattle.plan.specs.Check.{all_linked}

-- m is the next of the servers: there is a link from it to k exactly if row m has k
module _ (rows : List ℕ) {xs : List ℕ} {k m : ℕ} {ys : List ℕ} {b whole : Bool} (i : all_linked (links_of rows) k xs ≡ whole) (e : xs ≡ m ∷ ys) (l : m < 8) (h : k < 8) (q : b ≡ has (get_or rows m 0) k) where
  now : b && all_linked (links_of rows) k ys ≡ whole
  unfolding all_linked
  now = rw (q ∙ sym (linked_row rows m k l h)) (rw e at i)

  pub linked_lacks : b ≡ false → false ≡ whole
  linked_lacks f = rw f at now

  pub linked_goes : b ≡ true → all_linked (links_of rows) k ys ≡ whole
  linked_goes t = rw t at now

pub linked_ends : (links : Links) (k : ℕ) {xs : List ℕ} {whole : Bool} → all_linked links k xs ≡ whole → xs ≡ [] → true ≡ whole
unfolding all_linked
linked_ends links k i e = rw e at i
