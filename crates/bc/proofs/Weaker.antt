-- Choices that the algorithm allows are sound: the network is forgotten.
--     path_of_lem         a path to a server
--     paths_separate  f + 1 disjoint paths
--     one_server      what holds of the source of a path without relays holds of each server on its way
--     reports_separate   f + 1 incoming neighbours
-- Assumes nothing.
use mathlib.Core.Path.{◌≡◌, sym, ap, subst}
use mathlib.Core.Logic.{⊎_elim}
use mathlib.Core.Bool.{not}
use mathlib.Core.List.Memᴰ
use mathlib.Core.List.{List, [], ◌∷◌, Memᴰ}
use Prim.Native.Nat.{ℕ, ◌<◌}
use Rattle.facts.specs.Lists.{Each}
use Rattle.facts.proofs.Bools.{both}
use Rattle.sets.specs.Sets.{Set, Edges, Out}
use Rattle.bc.specs.Algorithm.{Path, on_way}
use Rattle.bc.specs.Allowed.{PathTo, Disjoint, Neighbours, PathOf, Separate}
use Rattle.bc.specs.Theorems.{Weaker}

path_of_lem : (n : ℕ) (E : Edges) (F : Set) (j : ℕ) (p : Path) → PathTo n E F j p → PathOf n F p
path_of_lem n E F j p q = record { servers = λ s m. q.servers s (Memᴰ.append_left (j ∷ []) m); clear = λ s m. q.clear s (Memᴰ.append_left (j ∷ []) m) }

paths_separate : (n f : ℕ) (E : Edges) (F P : Set) (j : ℕ) (ps : List Path) → Disjoint n f E F P j ps → Separate n f F P ps
paths_separate n f E F P j ps d =
    record { enough = d.enough; start = d.start; paths = λ p m. path_of_lem n E F j p (d.paths p m); apart = d.apart }

one_server : (Q : ℕ → Type 0) (p : Path) → p.relays ≡ [] → Q p.source → Each Q (on_way p)
one_server Q p e h s m =
    ⊎_elim
    (λ (q : s ≡ p.source). subst Q (sym q) h)
    (λ (t : Memᴰ s p.relays). let t' : Memᴰ s [] = rw e at t in elim t' [ ])
    (Memᴰ.cases_cons m)

reports_separate : (n f : ℕ) (E : Edges) (F : Set) (k : ℕ) (ps : List Path) → Neighbours n f E F k ps
    → Separate n f F (λ (i : ℕ). not (F i)) ps
reports_separate n f E F k ps d =
    record {
      enough = d.enough;
      start = λ p m. ap not (d.clear p m);
      paths = λ p m. record {
        servers = one_server (λ (s : ℕ). s < n) p (d.direct p m) (d.servers p m);
        clear = one_server (λ (s : ℕ). Out F s) p (d.direct p m) (d.clear p m);
      };
      apart = d.different;
    }

pub weaker : Weaker
weaker n f E b a =
    record {
      few = a.few;
      A-out = a.side.clear;
      S-out = a.quorum.clear;
      S-below = a.quorum.below;
      S-some = a.quorum.some;
      inward = λ i k s o. paths_separate n f E b.F b.A i (b.inward i) (a.inward i k (both (b.S i) (not (b.A i)) s (ap not o)));
      between = λ i j s t d. let q = a.between i j s t d in (path_of_lem n E b.F i (b.between i j) q.0, q.1);
      outward = λ i k o s. paths_separate n f E b.F b.S i (b.outward i) (a.outward i k (both (not (b.F i)) (not (b.S i)) (ap not o) (ap not s)));
      reports = λ k l s. reports_separate n f E b.F k (b.reports k) (a.reports k l s);
    }
