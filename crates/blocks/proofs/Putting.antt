-- Texts put into a buffer, on plain lists: one after the other, and one for each member of a set.
--     put_none, put_stored, put_past    no text; one byte, stored or past the buffer's end
--     put_join                          two puts, one after the other, put the join of their texts
--     put_most, put_long                a greater bound; a put keeps the buffer's length
--     placed-..                         the same, at a place
--     whole_put                         all bytes at once, where there is room for them
--     Laying, laying-..                 the loop that puts the eight bytes of a route: those before i are put
--     joined g l                        == the texts g x for each x of l
--     Going, going-..                   the loop over the members of a set: the texts of those gone over are put
-- Assumes nothing.
use mathlib.Core.Path.{◌≡◌, refl, sym, ap, ◌∙◌}
use mathlib.Core.List.{List, [], ◌∷◌, ◌++◌, append-nil, append_assoc}
use Prim.Native.Nat.{ℕ, zero, suc, ◌+◌, ◌-◌, ◌*◌, ◌≤◌, ◌<◌}
use native.Mathlib.Nat.{add-zero, suc-mul, zero-mul}
use native.Mathlib.Numerals.{add-one}
use native.Mathlib.Omega.{arith}
use lib.ListN.{length, get_or, set, take, drop, length-append, length-set}
use lib.Seq.{set_out, take-suc, take-length}
use Rattle.std.proofs.Math.Nat.{mul-le-mul_right}
use Rattle.facts.proofs.Bools.{cases}
use Rattle.facts.specs.Laid.{laid}
use Rattle.facts.proofs.Stores.{laid_append, laid_mid, length_laid}
use Rattle.sets.specs.Sets.{Set, has}
use Rattle.sets.specs.Members.{list_from, members}
use Rattle.blocks.specs.declared.bytes.Place.{Place}
use Rattle.blocks.specs.Written.{Put}
use Rattle.blocks.specs.Placed.{Placed}

-- puts

pub put_none : (at : ℕ) (x : List ℕ) → Put at [] 0 x x at
unfolding laid
put_none at x = record { bytes = refl; place = sym (add-zero at); bound = omega arith }

module _ (at b : ℕ) (x y : List ℕ) where
  pub put_stored : y ≡ set x at b → Put at (b ∷ []) 1 x y (at + 1)
  unfolding laid
  put_stored e = record { bytes = e; place = refl; bound = omega arith }

  pub put_past : length x ≤ at → y ≡ x → Put at (b ∷ []) 1 x y (at + 1)
  unfolding laid
  put_past h e = record { bytes = e ∙ sym (set_out x at b h); place = refl; bound = omega arith }

pub put_join : {at : ℕ} {a b : List ℕ} {m k : ℕ} {x y z : List ℕ} {r q : ℕ} → Put at a m x y r → Put r b k y z q → Put at (a ++ b) (m + k) x z q
put_join {at} {a} {b} {m} {k} {x} {y} {z} {r} {q} p s =
    let l = length-append a b in
    let u = p.place in
    let v = s.place in
    let f = p.bound in
    let g = s.bound in
    record {
      bytes = rw (s.bytes, p.bytes, p.place) (sym (laid_append at a b x));
      place = omega arith;
      bound = omega arith;
    }

pub put_most : {at : ℕ} {text : List ℕ} {m : ℕ} {x y : List ℕ} {r : ℕ} (k : ℕ) → Put at text m x y r → m ≤ k → Put at text k x y r
put_most {at} {text} {m} k p h = let g = p.bound in record { bytes = p.bytes; place = p.place; bound = omega arith }

pub put_long : {at : ℕ} {text : List ℕ} {m : ℕ} {x y : List ℕ} {r : ℕ} → Put at text m x y r → length y ≡ length x
put_long {at} {text} {m} {x} p = ap length p.bytes ∙ length_laid at text x

-- the same, at a place

pub placed_none : (p : Place) → Placed [] 0 p p
placed_none p = record { same = refl; put = put_none p.at p.part.now }

pub placed_join : {a b : List ℕ} {m k : ℕ} {p q r : Place} → Placed a m p q → Placed b k q r → Placed (a ++ b) (m + k) p r
placed_join s t = record { same = t.same ∙ s.same; put = put_join s.put t.put }

pub placed_most : {text : List ℕ} {m : ℕ} {p q : Place} (k : ℕ) → Placed text m p q → m ≤ k → Placed text k p q
placed_most k s h = record { same = s.same; put = put_most k s.put h }

-- all bytes at once, where there is room for them
pub whole_put : (at command : ℕ) (route mid x : List ℕ) → length route ≡ 8 → at + 9 ≤ length x → mid ≡ route
    → Put at (command ∷ route) 9 x (take (at + 1) (set x at command) ++ (mid ++ drop (at + 9 - (at + 1)) (drop (at + 1) (set x at command)))) (at + 9)
unfolding laid
whole_put at command route mid x long room e =
    let k : at + 9 - (at + 1) ≡ length route = omega arith in
    let l = length-set x at command in
    record {
      bytes = rw (e, k) (laid_mid (at + 1) route (set x at command) (omega arith) ∙ ap (λ (i : ℕ). laid i route (set x at command)) (add-one at));
      place = omega arith;
      bound = omega arith;
    }

-- the bytes of a route, one after the other

pub record Laying (route : List ℕ) (i : ℕ) (p q : Place) : Type 0 where
  pub inside : i ≤ 8
  pub before : Placed (take i route) i p q

pub laying_starts : (route : List ℕ) (p : Place) → Laying route 0 p p
laying_starts route p = record { inside = omega arith; before = placed_none p }

module _ {route : List ℕ} {i : ℕ} {p q : Place} (l : Laying route i p q) (long : length route ≡ 8) where
  pub laying_goes : i < 8 → {b : ℕ} → b ≡ get_or route i 0 → {r : Place} → Placed (b ∷ []) 1 q r → Laying route (i + 1) p r
  laying_goes h {b} e {r} s = record { inside = omega arith; before = rw (add-one, take-suc route i 0 (omega arith)) (rw (add-one i) at (placed_join l.before (rw e at s))) }

  pub laying_ends : 8 ≤ i → Placed route 8 p q
  laying_ends h = let w = l.inside in let e : i ≡ length route = omega arith in placed_most 8 (rw (e, take-length) at l.before) (omega arith)

-- a text for each member of a set

unfoldable pub joined : (ℕ → List ℕ) → List ℕ → List ℕ
joined g [] = []
joined g (x ∷ xs) = g x ++ joined g xs

joined_append : (g : ℕ → List ℕ) (xs ys : List ℕ) → joined g (xs ++ ys) ≡ joined g xs ++ joined g ys
unfolding joined
joined_append g [] ys = refl
joined_append g (x ∷ xs) ys = ap (λ (l : List ℕ). g x ++ l) (joined_append g xs ys) ∙ sym (append_assoc (g x) (joined g xs) (joined g ys))

listed_few : (k lo : ℕ) (p : Set) → length (list_from k lo p) ≤ k
unfolding list_from
listed_few zero lo p = omega arith
listed_few (suc k) lo p = let ih = listed_few k (suc lo) p in cases (p lo) (λ e. rw e (omega arith)) (λ e. rw e (omega arith))

-- the texts of `done` are put, those of `left` are still to come, and both are the members of s
pub record Going (g : ℕ → List ℕ) (s each : ℕ) (done left : List ℕ) (p q : Place) : Type 0 where
  pub order : done ++ left ≡ members s
  pub before : Placed (joined g done) (length done * each) p q

pub going_starts : (g : ℕ → List ℕ) (s each : ℕ) (p : Place) (of : ℕ) → of ≡ s → Going g s each [] (members of) p p
unfolding joined
going_starts g s each p of e = record { order = ap members e; before = rw zero-mul (placed_none p) }

module _ {g : ℕ → List ℕ} {s each : ℕ} {done left : List ℕ} {p q : Place} (l : Going g s each done left p q) where
  few : length done + length left ≤ 8
  unfolding members
  few = let e = sym (length-append done left) ∙ ap length l.order in let n = listed_few 8 0 (has s) in omega arith

  module _ (x : ℕ) (next : List ℕ) (e : left ≡ x ∷ next) where
    -- the next text is near
    pub going_near : q.at ≤ p.at + 7 * each
    going_near =
        let n = few in
        let k = ap length e in
        let m : length done ≤ 7 = omega arith in
        let w = mul-le-mul_right each m in
        let a = l.before.put.place in
        let b = l.before.put.bound in
        omega arith

    pub going_on : {text : List ℕ} → text ≡ g x → {r : Place} → Placed text each q r → Going g s each (done ++ x ∷ []) next p r
    unfolding joined
    going_on {text} same {r} t =
        let m = suc-mul (length done) each in
        let a = joined_append g done (x ∷ []) in
        let n = length-append done (x ∷ []) in
        let k : length (done ++ x ∷ []) ≡ suc (length done) = omega arith in
        let w = append-nil (g x) in
        record {
          order = append_assoc done (x ∷ []) next ∙ ap (λ (r : List ℕ). done ++ r) (sym e) ∙ l.order;
          before = rw (a, k, w) (placed_most (suc (length done) * each) (placed_join l.before (rw same at t)) (omega arith));
        }

  pub going_ends : left ≡ [] → {text : List ℕ} → text ≡ joined g (members s) → (most : ℕ) → 8 * each ≤ most → Placed text most p q
  going_ends e {text} same most enough =
      let n = few in
      let k = ap length e in
      let m : length done ≤ 8 = omega arith in
      let w = mul-le-mul_right each m in
      let d : done ≡ members s = sym (append-nil done) ∙ ap (λ (r : List ℕ). done ++ r) (sym e) ∙ l.order in
      rw (same, sym d) (placed_most most l.before (omega arith))
