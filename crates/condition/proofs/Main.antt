-- What a user relies on: the split test decides Theorem 1's condition.
--     exact         it answers "none" exactly if the condition holds for the network that the card gives
--     sound         what it reports breaks the condition
--     inside        its four sets are sets of V
--     first         no split before it, in the order of F, then L, then R, breaks the condition
-- Assumes nothing.
use mathlib.Core.Path.{◌≡◌, sym, ap, ◌∙◌}
use mathlib.Core.List.{List}
use Prim.Native.Nat.{ℕ}
use Rattle.network.specs.Links.{Links}
use Rattle.network.specs.Card.{network, read_card}
use Rattle.network.proofs.Main.{card_proper}
use Rattle.split.specs.Split.{first_bad, split_of, split_test}
use Rattle.condition.specs.Condition.{Exact, Sound, Inside, First}
use Rattle.condition.proofs.Theorem.{good_condition, condition_good, bad_broken, bad_inside, bad_first}

split_is : (s : List ℕ) (n f : ℕ) (links : Links) → read_card s ≡ network n f links → split_test s ≡ first_bad n f links
unfolding split_test
split_is s n f links e = ap split_of e

pub exact : Exact
exact s n f links e =
    let m = (card_proper s n f links e).most in
    let p = split_is s n f links e in
    (λ g. good_condition n f links m (sym p ∙ g), λ c. p ∙ condition_good n f links m c)

pub sound : Sound
sound s n f links e F L C R q = bad_broken n f links (card_proper s n f links e).most F L C R (sym (split_is s n f links e) ∙ q)

pub inside : Inside
inside s n f links e F L C R q = bad_inside n f links F L C R (sym (split_is s n f links e) ∙ q)

pub first : First
first s n f links e F L C R q = bad_first n f links (card_proper s n f links e).most F L C R (sym (split_is s n f links e) ∙ q)
