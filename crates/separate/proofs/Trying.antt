-- The loop over the servers that are tried in turn, on plain values: y is searched from with the sides seen so far, and what is found there has one
-- step more. b is what the test of y gave.
--     attempts     the servers of a list tried in turn
--     Trying       what the servers that are left give is what the whole gives; nothing is found so far
--     trying-..    its start; a turn that finds, that does not find, that passes y over; and its end
-- Assumes nothing.
use mathlib.Core.Path.{◌≡◌, refl, sym, ap, ◌∙◌}
use mathlib.Core.Bool.{Bool, true, false, cond, not}
use mathlib.Core.List.{List, [], ◌∷◌, Memᴰ}
use Prim.Native.Nat.{ℕ, zero, suc, ◌<◌}
use Rattle.facts.proofs.Bools.{cases}
use Rattle.std.specs.Prelude.{Result, Ok, Err}
use Rattle.sets.specs.Sets.{has}
use Rattle.sets.specs.Members.{list_from, members}
use Rattle.rules.proofs.Lists.{members_in}
use Rattle.flow.specs.declared.Flow.{Flow}
use Rattle.flow.specs.declared.Searched.{Searched}
use Rattle.flow.specs.Search.{Sought, lost, reached, changed, sought_of, tries}

unfoldable pub attempts : (ℕ → ℕ → ℕ → Sought) → List ℕ → Sought → Sought
attempts try [] s = s
attempts try (y ∷ ys) s = let t = cond (not (has s.entered y)) (try y s.entered s.left) s in cond t.found t (attempts try ys t)

attempts_all : (try : ℕ → ℕ → ℕ → Sought) (choices k y : ℕ) (s : Sought) → s.found ≡ false → tries try choices k y s ≡ attempts try (list_from k y (has choices)) s
unfolding tries attempts list_from
attempts_all try choices zero y s u = refl
attempts_all try choices (suc k) y s u =
    cases (has choices y)
    (λ e. let t = cond (not (has s.entered y)) (try y s.entered s.left) s in
    rw e (cases (t.found) (λ f. rw f refl) (λ f. rw f (attempts_all try choices k (suc y) t f))))
    (λ e. rw e (passed y s u (tries try choices k (suc y) s) (attempts_all try choices k (suc y) s u)))
  where
    passed : (y : ℕ) (s : Sought) → s.found ≡ false → (l : Sought) → {r : Sought} → l ≡ r → cond s.found s l ≡ r
    passed y s u l i = cc

-- a server that is listed is one of the eight
pub listed_below : (s y : ℕ) (ys : List ℕ) → members s ≡ y ∷ ys → y < 8
listed_below s y ys e = (members_in s y (rw e (Memᴰ.head refl))).1

-- a step more, in the code and in the definition
pub found_changed : (g : Flow → Flow) (s : Searched) (r : Result Searched Searched) (φ : Flow) → r ≡ Ok s → φ ≡ g s.flow
    → sought_of (Ok record { flow = φ; entered = s.entered; left = s.left }) ≡ changed g (sought_of r)
unfolding changed reached
found_changed g s r φ e p = rw (e, p) refl

pub missed_changed : (g : Flow → Flow) (s : Searched) (r : Result Searched Searched) → r ≡ Err s → sought_of (Err s) ≡ changed g (sought_of r)
unfolding changed lost
missed_changed g s r e = rw e refl

module _ (step : ℕ → Flow → Flow) (from : ℕ → ℕ → ℕ → Sought) where
  pub record Trying (left : List ℕ) (s : Searched) (whole : Sought) : Type 0 where
    pub rest : attempts (λ (y e l : ℕ). changed (step y) (from y e l)) left (sought_of (Err s)) ≡ whole

  pub trying_starts : (choices left : ℕ) (s : Searched) (whole : Sought) → tries (λ (y e l : ℕ). changed (step y) (from y e l)) choices 8 0 (sought_of (Err s)) ≡ whole
      → left ≡ choices → Trying (members left) s whole
  unfolding members lost
  trying_starts choices left s whole h e =
      record { rest = rw e (sym (attempts_all (λ (y e l : ℕ). changed (step y) (from y e l)) choices 8 0 (sought_of (Err s)) refl) ∙ h) }

  module _ (left : List ℕ) (s : Searched) (whole : Sought) (so : Trying left s whole) where
    pub trying_ends : left ≡ [] → sought_of (Err s) ≡ whole
    unfolding attempts
    trying_ends e = rw e at so.rest

    module _ (y : ℕ) (ys : List ℕ) (e : left ≡ y ∷ ys) (b : Bool) (eb : b ≡ has s.entered y) where
      pub trying_passes : b ≡ true → Trying ys s whole
      unfolding attempts lost
      trying_passes t = let i = rw e at so.rest in let h : has s.entered y ≡ true = sym eb ∙ t in record { rest = rw h at i }

      module _ (t : b ≡ false) (r : Result Searched Searched) (q : sought_of r ≡ from y s.entered s.left) where
        pub trying_fails : (m : Searched) → r ≡ Err m → Trying ys m whole
        unfolding attempts lost
        trying_fails m f =
            let i = rw e at so.rest in
            let h : has s.entered y ≡ false = sym eb ∙ t in
            let j = rw h at i in
            let k = missed_changed (step y) m r f ∙ ap (changed (step y)) q in
            record { rest = rw (sym k) at j }

        pub trying_found : (m : Searched) → r ≡ Ok m → (φ : Flow) → φ ≡ step y m.flow → sought_of (Ok record { flow = φ; entered = m.entered; left = m.left }) ≡ whole
        unfolding attempts lost reached
        trying_found m f φ p =
            let i = rw e at so.rest in
            let h : has s.entered y ≡ false = sym eb ∙ t in
            let j = rw h at i in
            let k = found_changed (step y) m r φ f p ∙ ap (changed (step y)) q in
            rw (sym k) at j
