-- One route sought after the other, on plain values.
--     TryingSources    the sources tried in turn, from x on; seek_tries its start
--     Adding           what the routes still to be sought give is what the whole gives
--     adding-..        its start; a route more; a search that finds none; and its end
-- Assumes nothing.
use mathlib.Core.Path.{◌≡◌, refl, sym, ap}
use mathlib.Core.List.{List}
use Prim.Native.Nat.{ℕ, suc, ◌+◌, ◌-◌, ◌≤◌, ◌<◌}
use native.Mathlib.Omega.{arith}
use Rattle.sets.specs.Sets.{single, meet, minus, size}
use Rattle.std.specs.Prelude.{Result, Ok, Err}
use Rattle.sets.specs.Members.{members}
use Rattle.flow.specs.declared.Flow.{Flow}
use Rattle.flow.specs.declared.Searched.{Searched}
use Rattle.flow.specs.Search.{Sought, sought_of, straight, lowest_of, with_start, lost, reached, enter, sides, seek, seek_all, last_in, flow_by}
use Rattle.flow.proofs.Lowest.{lowest_of_few}
use Rattle.separate.proofs.Trying.{Trying, trying_starts}

-- the sources

abbrev pub TryingSources : List ℕ → (inner last sources : ℕ) → Flow → List ℕ → Searched → Type 0
TryingSources rows inner last sources φ left s =
    Trying (λ (x : ℕ). with_start x) (λ (x e l : ℕ). enter sides rows inner last φ e l x) left s (seek rows inner last sources φ)

pub seek_tries : (rows : List ℕ) (inner last sources all : ℕ) (φ : Flow) → all ≡ sources
    → TryingSources rows inner last sources φ (members all) record { flow = φ; entered = 0; left = 0 }
unfolding seek
seek_tries rows inner last sources all φ e =
    trying_starts (λ (x : ℕ). with_start x) (λ (x e l : ℕ). enter sides rows inner last φ e l x) sources all record { flow = φ; entered = 0; left = 0 } (seek rows inner last sources φ) refl e

-- one route sought after the other

pub record Adding (rows : List ℕ) (inner last sources count k : ℕ) (s : Searched) (whole : Sought) : Type 0 where
  pub inside : k ≤ count
  pub rest : seek_all rows inner last sources (count - k) (sought_of (Ok s)) ≡ whole

-- no more are laid than are asked for
pub laid_few : (count both first laid : ℕ) → first ≡ lowest_of count both → laid ≡ size first → laid ≤ count
laid_few count both first laid e z = let l = lowest_of_few count both in let w = ap size e in omega arith

-- straight routes first
pub adding_starts : (rows : List ℕ) (near W sources r count : ℕ) (i inner last starts both first laid : ℕ) → i ≡ single r → inner ≡ minus W i → last ≡ last_in near W r
    → starts ≡ meet sources inner → both ≡ meet starts last → first ≡ lowest_of count both → laid ≡ size first
    → (φ : Flow) → φ ≡ straight first → Adding rows inner last starts count laid record { flow = φ; entered = 0; left = 0 } (flow_by rows near W sources r count)
unfolding flow_by
adding_starts rows near W sources r count i inner last starts both first laid ei en el es eb ef ez φ g =
    record { inside = laid_few count both first laid ef ez; rest = rw g (cc) }

module _ (rows : List ℕ) (inner last sources count k : ℕ) (s : Searched) (whole : Sought) (so : Adding rows inner last sources count k s whole) where
  pub adding_done : count ≤ k → sought_of (Ok s) ≡ whole
  unfolding seek_all
  adding_done h = let i = so.inside in let e : count - k ≡ 0 = omega arith in rw e at so.rest

  module _ (h : k < count) (r : Result Searched Searched) (et : sought_of r ≡ seek rows inner last sources s.flow) where
    one_less : count - k ≡ suc (count - (k + 1))
    one_less = omega arith

    pub adding_on : (m : Searched) → r ≡ Ok m → Adding rows inner last sources count (k + 1) m whole
    unfolding seek_all reached
    adding_on m f = record { inside = omega arith; rest = let j = rw f at et in rw (one_less, sym j) at so.rest }

    pub adding_ends : (m : Searched) → r ≡ Err m → sought_of (Err m) ≡ whole
    unfolding seek_all reached lost
    adding_ends m f = let j = rw f at et in rw (one_less, sym j) at so.rest
