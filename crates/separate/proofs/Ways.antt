-- The two sides of a server on plain values: what each way out of `enter` and of `leave` gives. a is the allowance, k one less, u the sides seen with
-- this one, and b what a test gave.
--     Entering      what is known of the entry side of x once the server behind it is looked for
--     enter-..      the ways out: no allowance left, the search from the leaving side of q, q seen before, no q
--     Leaving       what is known of the leaving side of x once the test for the receiver is made
--     leave-..      the ways on: no allowance left, the receiver, the servers ahead tried in turn
--     TryingNext    the servers ahead of x tried in turn, those in `next` last
-- Assumes nothing.
use mathlib.Core.Path.{◌≡◌, refl, sym, ◌∙◌}
use Rattle.std.proofs.lemmas.Option.{none-some, cond_some}
use mathlib.Core.Bool.{Bool, true, false}
use mathlib.Core.List.{List}
use Prim.Native.Nat.{ℕ, suc}
use lib.Dec.{ltb}
use Rattle.facts.proofs.Bools.{cases}
use Rattle.std.specs.Prelude.{Option, Some, None, Result, Ok, Err}
use Rattle.sets.specs.Sets.{has, single, union, minus}
use Rattle.sets.specs.Members.{members}
use Rattle.sets.proofs.Members.{has_minus}
use Rattle.flow.specs.declared.Flow.{Flow}
use Rattle.flow.specs.declared.Searched.{Searched}
use Rattle.flow.specs.Search.{Sought, with_end, lost, changed, sought_of, behind, server_at, step_in, step_out, tries, ahead, enter, leave}
use Rattle.separate.proofs.Trying.{Trying, trying_starts, found_changed, missed_changed}

-- the entry side

pub record Entering (a : ℕ) (φ : Flow) (entered x k u : ℕ) (o : Option ℕ) : Type 0 where
  pub allowed : a ≡ suc k
  pub seen : u ≡ union entered (single x)
  pub back : o ≡ server_at (behind φ x)

-- no server is there
server_gone : (w : ℕ) → None ≡ server_at w → ltb w 8 ≡ false
server_gone w e = cases (ltb w 8) (λ t. absurd (none-some w (rw t at e))) (λ t. t)

module _ (a : ℕ) (rows : List ℕ) (inner last : ℕ) (φ : Flow) (entered left x : ℕ) where
  abbrev Enters : Sought → Type 0
  Enters s = s ≡ enter a rows inner last φ entered left x

  pub enter_none : a ≡ 0 → Enters (sought_of (Err record { flow = φ; entered = entered; left = left }))
  unfolding enter
  enter_none e = rw e refl

  module _ (k u : ℕ) (o : Option ℕ) (so : Entering a φ entered x k u o) where
    pub enter_ends : o ≡ None → Enters (sought_of (Err record { flow = φ; entered = u; left = left }))
    unfolding enter
    enter_ends e = let z = server_gone (behind φ x) (sym e ∙ so.back) in let i = so.seen in rw so.allowed (cc)

    module _ (q : ℕ) (e : o ≡ Some q) (b : Bool) (eb : b ≡ has left q) where
      pub enter_seen : b ≡ true → Enters (sought_of (Err record { flow = φ; entered = u; left = left }))
      unfolding enter
      enter_seen t = let z = cond_some (ltb (behind φ x) 8) (behind φ x) q (sym so.back ∙ e) in let y = z.0 in let w = z.1 in let i = so.seen in rw so.allowed (cc)

      module _ (t : b ≡ false) (r : Result Searched Searched) (l : sought_of r ≡ leave k rows inner last φ u left q) where
        on : enter a rows inner last φ entered left x ≡ changed (step_in x q) (sought_of r)
        unfolding enter
        on = let z = cond_some (ltb (behind φ x) 8) (behind φ x) q (sym so.back ∙ e) in let y = z.0 in let w = z.1 in let i = so.seen in rw so.allowed (cc)

        pub enter_goes : (m : Searched) → r ≡ Ok m → (ψ : Flow) → ψ ≡ step_in x q m.flow → Enters (sought_of (Ok record { flow = ψ; entered = m.entered; left = m.left }))
        enter_goes m f ψ p = found_changed (step_in x q) m r ψ f p ∙ sym on

        pub enter_fails : (m : Searched) → r ≡ Err m → Enters (sought_of (Err m))
        enter_fails m f = missed_changed (step_in x q) m r f ∙ sym on

-- the leaving side

pub record Leaving (a last : ℕ) (φ : Flow) (left x k u : ℕ) (b : Bool) : Type 0 where
  pub allowed : a ≡ suc k
  pub seen : u ≡ union left (single x)
  pub tested : b ≡ has (minus last φ.ends) x

-- the search from the leaving side of x to the entry sides of the servers of `next`
abbrev pub TryingNext : (a k : ℕ) → List ℕ → (inner last : ℕ) → Flow → (entered left x : ℕ) → List ℕ → Searched → Type 0
TryingNext a k rows inner last φ entered left x next s =
    Trying (λ (y : ℕ). step_out x y) (λ (y e l : ℕ). enter k rows inner last φ e l y) next s (leave a rows inner last φ entered left x)

module _ (a : ℕ) (rows : List ℕ) (inner last : ℕ) (φ : Flow) (entered left x : ℕ) where
  pub leave_none : a ≡ 0 → sought_of (Err record { flow = φ; entered = entered; left = left }) ≡ leave a rows inner last φ entered left x
  unfolding leave
  leave_none e = rw e refl

  module _ (k u : ℕ) (b : Bool) (so : Leaving a last φ left x k u b) where
    pub leave_ends : b ≡ true → (ψ : Flow) → ψ ≡ with_end x φ → sought_of (Ok record { flow = ψ; entered = entered; left = u }) ≡ leave a rows inner last φ entered left x
    unfolding leave
    leave_ends t ψ p = let z = has_minus last φ.ends x in let i = so.seen in let j = so.tested in rw (so.allowed, p) (cc)

    leave_on : b ≡ false → (choices : ℕ) → choices ≡ ahead rows inner φ x
        → tries (λ (y e l : ℕ). changed (step_out x y) (enter k rows inner last φ e l y)) choices 8 0 (lost φ entered u) ≡ leave a rows inner last φ entered left x
    unfolding leave
    leave_on t choices ec = let z = has_minus last φ.ends x in let i = so.seen in let j = so.tested in rw so.allowed (cc)

    pub leave_tries : b ≡ false → (choices all : ℕ) → choices ≡ ahead rows inner φ x → all ≡ choices
        → TryingNext a k rows inner last φ entered left x (members all) record { flow = φ; entered = entered; left = u }
    leave_tries t choices all ec ea =
        trying_starts (λ (y : ℕ). step_out x y) (λ (y e l : ℕ). enter k rows inner last φ e l y) choices all record { flow = φ; entered = entered; left = u } (leave a rows inner last φ entered left x) (leave_on t choices ec) ea
