-- Bytes that stand three places later give the same, but for the places. Assumes nothing.
use mathlib.Core.Path.{◌≡◌, refl, sym, ap}
use mathlib.Core.List.{List, [], ◌∷◌}
use Prim.Native.Nat.{ℕ, ◌+◌, ◌≤◌, ◌<◌}
use native.Mathlib.Omega.{arith}
use lib.Dec.{eqb}
use borrow.Author.Tests.{lt-ltb, le-ltb}
use Rattle.facts.proofs.Bools.{cases}
use Rattle.refusal.specs.Refused.{card}
use Rattle.network.specs.Links.{Links, with_link}
use Rattle.network.specs.Card.{refused, link_fits}
use Rattle.cards.specs.Twins.{behind, moved}
use Rattle.cards.proofs.Front.{front}

-- places before the three bytes, and from them on
pub before_stays : (k place : ℕ) → place < k → behind k place ≡ place
unfolding behind
before_stays k place h = simp (lt-ltb place k h)

after_moves : (k place to : ℕ) → k ≤ place → to ≡ place + 3 → to ≡ behind k place
unfolding behind
after_moves k place to h e = rw e (sym (simp (le-ltb place k h)))

turned : (k number place to : ℕ) → k ≤ place → to ≡ place + 3 → refused (card number to) ≡ moved (behind k) (refused (card number place))
turned k number place to h e = ap (λ (p : ℕ). refused (card number p)) (after_moves k place to h e)

pub front_later : (t : List ℕ) (at n f : ℕ) (links : Links) (k : ℕ) → k ≤ at → front t (at + 3) n f links ≡ moved (behind k) (front t at n f links)
unfolding front
front_later [] at n f links k h = turned k 2 at (at + 3) h refl
front_later (c ∷ []) at n f links k h =
    cases (eqb c 3) (λ q. rw q refl) (λ q. rw q (turned k 2 at (at + 3) h refl))
front_later (c ∷ u ∷ []) at n f links k h =
    cases (eqb c 3)
    (λ q. rw q (turned k 3 (at + 1) (at + 3 + 1) (omega arith) (omega arith)))
    (λ q. rw q (turned k 2 at (at + 3) h refl))
front_later (c ∷ u ∷ v ∷ t) at n f links k h =
    let ih = front_later t (at + 3) n f (with_link links u v) k (omega arith) in
    cases (eqb c 3)
    (λ q. rw q (turned k 3 (at + 1) (at + 3 + 1) (omega arith) (omega arith)))
    λ q. cases (eqb c 1)
    (λ w. rw (q, w) (turned k 4 at (at + 3) h refl))
    λ w. cases (eqb c 2)
    (λ x. cases (link_fits n u v) (λ y. rw (q, w, x, y) ih) (λ y. rw (q, w, x, y) (turned k 5 at (at + 3) h refl)))
    (λ x. rw (q, w, x) (turned k 2 at (at + 3) h refl))
