-- A route of a plan as a path of Algorithm BC.
--     along_is      the servers of the path to the route's receiver are those of the route
--     once_of       a list in which no place repeats an earlier one has none twice; linked_of likewise for links
--     route_source  the path starts at the route's source
--     route_path    a route within the rules is a path to its receiver that excludes F
--     route_apart   routes that are separate share no server before the receiver
-- Assumes nothing.
use mathlib.Core.Path.{◌≡◌, refl, sym, ap, ◌∙◌, subst}
use mathlib.Core.Logic.{⊎_elim}
use mathlib.Core.Bool.{true}
use mathlib.Core.List.{List, [], ◌∷◌, ◌++◌, Memᴰ}
use Prim.Native.Nat.{ℕ, zero, suc, ◌+◌, ◌-◌, ◌≤◌, ◌<◌}
use native.Mathlib.Omega.{arith}
use lib.ListN.{length, get_or, take, drop}
use lib.Seq.{length-take-le, get_or-take}
use Rattle.facts.specs.Lists.{Each}
use Rattle.sets.specs.Sets.{Edges, Out, has}
use Rattle.network.specs.Links.{Links, linked_in}
use Rattle.rules.specs.Blocks.{Route, source_of, receiver_of, Carriage, carriage_of}
use Rattle.rules.specs.Rules.{IsRoute, Separate}
use Rattle.bc.specs.Allowed.{along, Linked, Once, PathTo}
use Rattle.steps.specs.Choices.{path_of}

-- the servers before the receiver
abbrev pub way : Carriage → List ℕ
way c = get_or c.before 0 0 ∷ drop 1 c.before

mem_at : (l : List ℕ) (s : ℕ) → Memᴰ s l → (i : ℕ) × (i < length l) × (s ≡ get_or l i 0)
mem_at [] s m = elim m [ ]
mem_at (x ∷ xs) s m =
    ⊎_elim (λ (e : s ≡ x). (0, omega arith, e)) (λ (h : Memᴰ s xs). let w = mem_at xs s h in (suc w.0, omega arith, w.2)) (mathlib.Core.List.Memᴰ.cases_cons m)

pub each_at : (Q : ℕ → Type 0) (l : List ℕ) → ((i : ℕ) → i < length l → Q (get_or l i 0)) → Each Q l
each_at Q l h s m = let (i, k, e) = mem_at l s m in subst Q (sym e) (h i k)

way_is : (l : List ℕ) → 1 ≤ length l → (get_or l 0 0 ∷ drop 1 l) ≡ l
way_is [] h = absurd (omega arith)
way_is (x ∷ xs) h = refl

-- all but the last, and the last
take_last : (k : ℕ) (l : List ℕ) → length l ≡ suc k → take k l ++ (get_or l k 0 ∷ []) ≡ l
take_last k [] e = absurd (omega arith)
take_last zero (x ∷ []) e = refl
take_last zero (x ∷ y ∷ ys) e = absurd (omega arith)
take_last (suc k) (x ∷ xs) e = ap (λ (l : List ℕ). x ∷ l) (take_last k xs (omega arith))

pub once_of : (l : List ℕ) → ((i j : ℕ) → i < j → j < length l → get_or l i 0 ≡ get_or l j 0 → ⊥) → Once l
once_of [] h = tt
once_of (x ∷ xs) h = (
  λ m. let (i, k, e) = mem_at xs x m in h 0 (suc i) (omega arith) (omega arith) e,
  once_of xs (λ i j a b. h (suc i) (suc j) (omega arith) (omega arith)),
)

pub linked_of : (E : Edges) (l : List ℕ) → ((i : ℕ) → suc i < length l → E (get_or l i 0) (get_or l (suc i) 0) ≡ true) → Linked E l
linked_of E [] h = tt
linked_of E (x ∷ []) h = tt
linked_of E (x ∷ y ∷ ys) h = (h 0 (omega arith), linked_of E (y ∷ ys) (λ i k. h (suc i) (omega arith)))

module _ (n : ℕ) (links : Links) (F : ℕ) (p : Route) (h : IsRoute n links F p) where
  take_long : length (take (length p - 1) p) ≡ length p - 1
  take_long = length-take-le (length p - 1) p (omega arith)

  way_before : way (carriage_of p) ≡ take (length p - 1) p
  way_before = let t = take_long in let two = h.two in way_is (take (length p - 1) p) (omega arith)

  pub along_is : (table : List ℕ) (j : ℕ) → along (path_of table j (carriage_of p)) (receiver_of p) ≡ p
  along_is table j =
      let two = h.two in
      ap (λ (l : List ℕ). l ++ (receiver_of p ∷ [])) way_before ∙ take_last (length p - 1) p (omega arith)

  pub way_at : (s : ℕ) → Memᴰ s (way (carriage_of p)) → (i : ℕ) × (i < length p - 1) × (s ≡ get_or p i 0)
  way_at s m =
      let t = take_long in
      let m' : Memᴰ s (take (length p - 1) p) = subst (λ (l : List ℕ). Memᴰ s l) way_before m in
      let (i, k, e) = mem_at (take (length p - 1) p) s m' in
      (i, omega arith, e ∙ get_or-take (length p - 1) p i 0 (omega arith))

  pub route_source : get_or (take (length p - 1) p) 0 0 ≡ source_of p
  route_source = let two = h.two in get_or-take (length p - 1) p 0 0 (omega arith)

  pub route_path : (table : List ℕ) (j : ℕ) → PathTo n (linked_in links) (has F) (receiver_of p) (path_of table j (carriage_of p))
  route_path table j =
      record {
        servers = subst (Each (λ (s : ℕ). s < n)) (sym (along_is table j)) (each_at (λ (s : ℕ). s < n) p h.servers);
        clear = subst (Each (Out (has F))) (sym (along_is table j)) (each_at (Out (has F)) p h.clear);
        once = subst Once (sym (along_is table j)) (once_of p h.once);
        linked = subst (Linked (linked_in links)) (sym (along_is table j)) (linked_of (linked_in links) p h.linked);
      }

  pub route_apart : (q : Route) → IsRoute n links F q → Separate p q → (s : ℕ) → ((j : ℕ) × (j < length q - 1) × (s ≡ get_or q j 0)) → Memᴰ s (way (carriage_of p)) → ⊥
  route_apart q g d s (j, l, e) m =
      let (i, k, o) = way_at s m in
      h.once i (length p - 1) (omega arith) (omega arith) (d i j (omega arith) (omega arith) (sym o ∙ e))
