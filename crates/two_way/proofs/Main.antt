-- What a user relies on: which cards the quick test takes, that its number is the least one, and its yes the split test's "none".
--     takes      of the cards that are read it answers those whose links all have a return, and refuses 15 for the others
--     least      the number that is answered is the size of a smallest set of servers that separates; n − 1 if none does
--     agrees     on every card that it answers, the older rule holds exactly if the split test says none
-- Assumes nothing.
use mathlib.Core.Path.{◌≡◌, refl, sym, ap, ◌∙◌}
use mathlib.Core.Logic.{⊎_elim}
use mathlib.Core.Bool.{Bool, true, false}
use mathlib.Core.List.{List}
use Prim.Native.Nat.{ℕ, ◌+◌, ◌*◌, ◌≤◌}
use native.Mathlib.Omega.{arith}
use Rattle.facts.proofs.Bools.{cases}
use Rattle.network.specs.Links.{Links, linked_in}
use Rattle.network.specs.Card.{Network, network, refused, read_card}
use Rattle.network.specs.Proper.{Proper}
use Rattle.network.proofs.Main.{card_proper}
use Rattle.condition.specs.Condition.{Condition}
use Rattle.condition.proofs.Wide.{condition_wide}
use Rattle.condition.proofs.Main.{exact}
use Rattle.two_way.specs.Separation.{one_way, connectivity}
use Rattle.two_way.specs.Quick.{ruled, servers_wanted, away_wanted, older_rule, quick_of, quick_test}
use Rattle.two_way.specs.Least.{Takes, Least, Agrees}
use Rattle.two_way.proofs.Returns.{no_one_way, two_way}
use Rattle.two_way.proofs.Parts.{least_away}
use Rattle.two_way.proofs.Ruled.{rule_both, rule_servers, rule_away, quick_one_way, quick_ruled}
use Rattle.two_way.proofs.OlderRule.{rule_condition, condition_apart}

-- the rule's two numbers, and the condition
module _ (n f : ℕ) (links : Links) (p : Proper n f links) (back : one_way n links ≡ false) where
  rule_good : older_rule n f (connectivity n links) ≡ true → Condition n f (linked_in links)
  unfolding servers_wanted away_wanted
  rule_good e =
      let wide = rule_servers n f (connectivity n links) e in
      let away = rule_away n f (connectivity n links) e in
      let l = least_away n links p.most in
      rule_condition n f (linked_in links) (two_way n f links p back) (omega arith) (λ K L R w. let m = l.fewest K L R w in omega arith)

  good_rule : Condition n f (linked_in links) → older_rule n f (connectivity n links) ≡ true
  unfolding servers_wanted away_wanted
  good_rule c =
      let two = p.least in
      let wide = condition_wide n f (linked_in links) c two in
      let l = least_away n links p.most in
      let away : 2 * f + 1 ≤ connectivity n links =
      ⊎_elim
      (λ (K, L, R, w, e). let m = condition_apart n f (linked_in links) c K L R w in omega arith)
      (λ h. let e = h.1 in omega arith)
      l.reached in
      rule_both n f (connectivity n links) (omega arith) (omega arith)

-- what an answered card is: all its links have a return
record Answered (s : List ℕ) (holds : Bool) (n least : ℕ) : Type 0 where
  f : ℕ
  links : Links
  read : read_card s ≡ network n f links
  back : one_way n links ≡ false
  least_is : least ≡ connectivity n links
  holds_is : holds ≡ older_rule n f (connectivity n links)

answered : (s : List ℕ) (holds : Bool) (n least : ℕ) → quick_test s ≡ ruled holds n least → Answered s holds n least
unfolding quick_test
answered s holds n least e = go (read_card s) refl e
  where
    go : (a : Network) → read_card s ≡ a → quick_of a ≡ ruled holds n least → Answered s holds n least
    go (refused r) q e = absurd (let z : ◌≡◌ {A = ℕ} 0 1 = cc in omega arith)
    go (network m f links) q e =
        cases (one_way m links)
        (λ b. absurd (let z : ◌≡◌ {A = ℕ} 0 1 = cc in omega arith))
        (λ b.
        let w : ruled (older_rule m f (connectivity m links)) m (connectivity m links) ≡ ruled holds n least = rw b at e in
        let same : m ≡ n = cc in
        record {
          f = f;
          links = links;
          read = q ∙ ap (λ (x : ℕ). network x f links) same;
          back = ap (λ (x : ℕ). one_way x links) (sym same) ∙ b;
          least_is = let i : least ≡ connectivity m links = cc in i ∙ ap (λ (x : ℕ). connectivity x links) same;
          holds_is = let i : holds ≡ older_rule m f (connectivity m links) = cc in i ∙ ap (λ (x : ℕ). older_rule x f (connectivity x links)) same;
        })

pub takes : Takes
unfolding quick_test
takes s n f links read =
    let p = card_proper s n f links read in (
      λ back. (connectivity n links, ap quick_of read ∙ sym (quick_ruled n f links (no_one_way n f links p back) (connectivity n links) refl (older_rule n f (connectivity n links)) refl)),
      λ o. ap quick_of read ∙ sym (quick_one_way n f links (cases (one_way n links) (λ e. e) (λ e. absurd (o (λ u v h. sym (two_way n f links p e u v) ∙ h))))),
    )

pub least : Least
least s n f links read holds m k e =
    let w = answered s holds m k e in
    let same : network m w.f w.links ≡ network n f links = sym w.read ∙ read in
    let n-is : m ≡ n = cc in
    let links-are : w.links ≡ links = cc in
    let k-is : connectivity n links ≡ k = let i = w.least_is in cc in
    rw k-is at (least_away n links (card_proper s n f links read).most)

pub agrees : Agrees
agrees s holds n k e =
    let w = answered s holds n k e in
    let p = card_proper s n w.f w.links w.read in
    let x = exact s n w.f w.links w.read in (
      λ h. x.1 (rule_good n w.f w.links p w.back (sym w.holds_is ∙ h)),
      λ g. w.holds_is ∙ good_rule n w.f w.links p w.back (x.0 g),
    )
