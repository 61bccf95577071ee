-- What a command of an accepted card can be: the head at place 0, a link, or the end at the card's last byte. Every other outcome of a step
-- would be the card's refusal. Assumes nothing.
use mathlib.Core.Path.{◌≡◌, sym}
use mathlib.Core.Logic.{◌⊎◌, inl, inr}
use mathlib.Core.Bool.{true, false}
use mathlib.Core.List.{List}
use Prim.Native.Nat.{ℕ, ◌+◌, ◌≤◌}
use lib.ListN.{length, get_or}
use lib.Dec.{eqb, ltb}
use borrow.Author.Tests.{ltb-false, eqb-true, eqb-false}
use Rattle.facts.proofs.Bools.{cases}
use Rattle.refusal.specs.Refused.{Refused, card}
use Rattle.network.specs.Links.{Links, with_link}
use Rattle.network.specs.Card.{network, refused, more, done, turned_back, head_fits, link_fits, head_at, link_at, end_at, step_at, read_card}
use Rattle.network.specs.Places.{At}
use Rattle.network.proofs.Reading.{reading_answer}

abbrev pub Accepted : List ℕ → Type 0
Accepted s = (r : Refused) → read_card s ≡ refused r → ⊥

module _ {s : List ℕ} {at n f : ℕ} {links : Links} (r : At s at n f links) (ok : Accepted s) where
  not_back : (number place : ℕ) → step_at s at n f links ≡ turned_back number place → ⊥
  not_back number place e = ok (card number place) (sym (reading_answer r (refused (card number place)) e))

  -- the head: place 0
  pub record Headed : Type 0 where
    pub first : at ≡ 0
    pub command : get_or s at 0 ≡ 1
    pub room : at + 3 ≤ length s
    pub fits : head_fits (get_or s (at + 1) 0) (get_or s (at + 2) 0) ≡ true
    pub step : step_at s at n f links ≡ more (at + 3) (get_or s (at + 1) 0) (get_or s (at + 2) 0) links

  pub record Linked : Type 0 where
    pub later : at ≡ 0 → ⊥
    pub room : at + 3 ≤ length s
    pub fits : link_fits n (get_or s (at + 1) 0) (get_or s (at + 2) 0) ≡ true
    pub step : step_at s at n f links ≡ more (at + 3) n f (with_link links (get_or s (at + 1) 0) (get_or s (at + 2) 0))

  pub record Ended : Type 0 where
    pub later : at ≡ 0 → ⊥
    pub last : length s ≤ at + 1
    pub step : step_at s at n f links ≡ done (network n f links)

  abbrev pub Outcome : Type 0
  Outcome = Headed ⊎ (Linked ⊎ Ended)

  module _ (h : ltb at (length s) ≡ true) where
    ends : eqb (get_or s at 0) 3 ≡ true → Outcome
    unfolding step_at end_at
    ends e =
        cases (eqb at 0)
        (λ z. absurd (not_back 4 at (simp (h, e, z))))
        λ z. cases (ltb (at + 1) (length s))
        (λ t. absurd (not_back 3 (at + 1) (simp (h, e, z, t))))
        λ t. inr (inr (record { later = eqb-false at 0 z; last = ltb-false (at + 1) (length s) t; step = simp (h, e, z, t) }))

    heads : eqb (get_or s at 0) 3 ≡ false → eqb (get_or s at 0) 1 ≡ true → Outcome
    unfolding step_at head_at
    heads x e =
        cases (ltb (length s) (at + 3))
        (λ t. absurd (not_back 2 at (simp (h, x, e, t))))
        λ t. cases (eqb at 0)
        (λ z. cases (head_fits (get_or s (at + 1) 0) (get_or s (at + 2) 0))
        (λ q. inl (record { first = eqb-true at 0 z; command = eqb-true (get_or s at 0) 1 e; room = ltb-false (length s) (at + 3) t; fits = q; step = simp (h, x, e, t, z, q) }))
        λ q. absurd (not_back 5 at (simp (h, x, e, t, z, q))))
        λ z. absurd (not_back 4 at (simp (h, x, e, t, z)))

    joins : eqb (get_or s at 0) 3 ≡ false → eqb (get_or s at 0) 1 ≡ false → eqb (get_or s at 0) 2 ≡ true → Outcome
    unfolding step_at link_at
    joins x y e =
        cases (ltb (length s) (at + 3))
        (λ t. absurd (not_back 2 at (simp (h, x, y, e, t))))
        λ t. cases (eqb at 0)
        (λ z. absurd (not_back 4 at (simp (h, x, y, e, t, z))))
        λ z. cases (link_fits n (get_or s (at + 1) 0) (get_or s (at + 2) 0))
        (λ q. inr (inl (record { later = eqb-false at 0 z; room = ltb-false (length s) (at + 3) t; fits = q; step = simp (h, x, y, e, t, z, q) })))
        λ q. absurd (not_back 5 at (simp (h, x, y, e, t, z, q)))

  pub outcome : Outcome
  unfolding step_at
  outcome =
      cases (ltb at (length s))
      (λ h. cases (eqb (get_or s at 0) 3) (ends h)
      λ x. cases (eqb (get_or s at 0) 1) (heads h x)
      λ y. cases (eqb (get_or s at 0) 2) (joins h x y)
      λ z. absurd (not_back 2 at (simp (h, x, y, z))))
      λ h. absurd (not_back 2 at (simp h))

pub accepted_short : (s : List ℕ) → Accepted s → length s ≤ 1024
unfolding read_card
accepted_short s ok =
    cases (ltb 1024 (length s)) (λ e. absurd (ok (card 1 0) (simp e))) (λ e. ltb-false 1024 (length s) e)
