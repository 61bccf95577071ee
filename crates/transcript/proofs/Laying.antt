-- Texts put into a buffer, and decimal digits.
--     put_none           no text leaves the buffer as it is
--     put_stored         one byte, stored
--     put_past           one byte, past the buffer's end
--     put_join           two puts, one after the other, put the join of their texts
--     put_most           a greater bound of the length
--     put_long           a put keeps the buffer's length
--     put_whole          a buffer that is long enough begins with the text
--     decimal_less       a number below 10 is one digit
--     decimal_more       the last digit stands after the digits of the tenth
--     few_digits         a number of 64 bits has at most 20 digits
--     Laying, laying-..  the loop that puts a text: the bytes before i are put
--     number_less, -more a number, from the digits of its tenth and its last digit
-- Assumes nothing.
use mathlib.Core.Path.{◌≡◌, refl, sym, ap, ◌∙◌}
use mathlib.Core.List.{List, [], ◌∷◌, ◌++◌}
use Prim.Native.Nat.{ℕ, zero, suc, ◌+◌, ◌/◌, ◌%◌, ◌^◌, ◌≤◌, ◌<◌}
use native.Mathlib.Nat.{add-zero, zero-add, pow-suc}
use native.Mathlib.Numerals.{add-one}
use native.Mathlib.Omega.{arith}
use lib.Dec.{ltb}
use lib.ListN.{length, get_or, set, take, drop, length-append}
use lib.Seq.{set_out, take-suc, take-length, take-append_seam}
use borrow.Author.Tests.{ltb-false, lt-ltb, le-ltb}
use Rattle.facts.proofs.Bools.{cases}
use Rattle.facts.specs.Laid.{laid}
use Rattle.facts.proofs.Stores.{laid_append, length_laid, laid_whole}
use Rattle.transcript.specs.Text.{spell, decimal, Put}

-- puts

pub put_none : (at : ℕ) (x : List ℕ) → Put at [] 0 x x at
unfolding laid
put_none at x = record { bytes = refl; place = sym (add-zero at); bound = omega arith }

module _ (at b : ℕ) (x y : List ℕ) where
  pub put_stored : y ≡ set x at b → Put at (b ∷ []) 1 x y (at + 1)
  unfolding laid
  put_stored e = record { bytes = e; place = refl; bound = omega arith }

  pub put_past : length x ≤ at → y ≡ x → Put at (b ∷ []) 1 x y (at + 1)
  unfolding laid
  put_past h e = record { bytes = e ∙ sym (set_out x at b h); place = refl; bound = omega arith }

pub put_join : {at : ℕ} {a b : List ℕ} {m k : ℕ} {x y z : List ℕ} {r q : ℕ} → Put at a m x y r → Put r b k y z q → Put at (a ++ b) (m + k) x z q
put_join {at} {a} {b} {m} {k} {x} {y} {z} {r} {q} p s =
    let l = length-append a b in
    let u = p.place in
    let v = s.place in
    let f = p.bound in
    let g = s.bound in
    record {
      bytes = rw (s.bytes, p.bytes, p.place) (sym (laid_append at a b x));
      place = omega arith;
      bound = omega arith;
    }

pub put_most : {at : ℕ} {text : List ℕ} {m : ℕ} {x y : List ℕ} {r : ℕ} (k : ℕ) → Put at text m x y r → m ≤ k → Put at text k x y r
put_most {at} {text} {m} k p h = let g = p.bound in record { bytes = p.bytes; place = p.place; bound = omega arith }

pub put_long : {at : ℕ} {text : List ℕ} {m : ℕ} {x y : List ℕ} {r : ℕ} → Put at text m x y r → length y ≡ length x
put_long {at} {text} {m} {x} p = ap length p.bytes ∙ length_laid at text x

-- a buffer that is long enough holds the whole text
pub put_whole : {text : List ℕ} {m : ℕ} {x y : List ℕ} {r : ℕ} → Put 0 text m x y r → m ≤ length x → take r y ≡ text
put_whole {text} {m} {x} {y} {r} p h =
    let f = p.bound in
    let e : r ≡ length text = p.place ∙ zero-add (length text) in
    rw (e, p.bytes, laid_whole text x (omega arith)) (take-append_seam text (drop (length text) x))

-- digits

-- the fuel does not matter, so long as it is above the number
spell_same : (j k n : ℕ) → n < j → n < k → spell j n ≡ spell k n
unfolding spell
spell_same zero k n f g = absurd (omega arith)
spell_same (suc j) zero n f g = absurd (omega arith)
spell_same (suc j) (suc k) n f g =
    cases (ltb n 10) (λ e. cc) λ e.
    let ten = ltb-false n 10 e in
    let ih = spell_same j k (n / 10) (omega arith) (omega arith) in
    cc

pub decimal_less : (n : ℕ) → n ≤ 9 → decimal n ≡ (48 + n % 10) ∷ []
unfolding decimal spell
decimal_less n h = let e : n % 10 ≡ n = omega arith in simp (lt-ltb n 10 (omega arith), e)

pub decimal_more : (n : ℕ) → 9 < n → decimal n ≡ decimal (n / 10) ++ ((48 + n % 10) ∷ [])
unfolding decimal spell
decimal_more n h =
    let e = le-ltb n 10 (omega arith) in
    let s = spell_same n (suc (n / 10)) (n / 10) (omega arith) (omega arith) in
    cc

few : (j k n : ℕ) → n < 10 ^ suc k → length (spell j n) ≤ suc k
unfolding spell
few zero k n h = omega arith
few (suc j) zero n h = rw (lt-ltb n 10 (omega arith)) (omega arith)
few (suc j) (suc k) n h =
    cases (ltb n 10) (λ e. rw e (omega arith)) λ e.
    let ih = few j k (n / 10) (omega (arith, pow-suc 10 (suc k))) in
    rw (e, length-append) (omega arith)

pub few_digits : (n : ℕ) → n < 2 ^ 64 → length (decimal n) ≤ 20
unfolding decimal
few_digits n h = few (suc n) 19 n (omega arith)

-- the loop that puts a text: the bytes before i are put

pub record Laying (at : ℕ) (text x y : List ℕ) (place i : ℕ) : Type 0 where
  pub within : i ≤ length text
  pub before : Put at (take i text) i x y place

module _ {at : ℕ} {text x y : List ℕ} {place i : ℕ} (l : Laying at text x y place i) where
  pub laying_goes : i < length text → {z : List ℕ} {q : ℕ} → Put place (get_or text i 0 ∷ []) 1 y z q → Laying at text x z q (i + 1)
  laying_goes h {z} {q} p = record { within = omega arith; before = rw (add-one, take-suc text i 0 h) (rw (add-one i) at (put_join l.before p)) }

  pub laying_ends : length text ≤ i → Put at text (length text) x y place
  laying_ends h = let w = l.within in let e : i ≡ length text = omega arith in rw (e, take-length) at l.before

-- a number, from the digits of its tenth and its last digit

module _ {at n : ℕ} {x y z : List ℕ} {r q : ℕ} (s : Put r ((48 + n % 10) ∷ []) 1 y z q) where
  pub number_less : n ≤ 9 → y ≡ x → r ≡ at → Put at (decimal n) 20 x z q
  number_less h a b = rw (decimal_less n h) (put_most 20 (rw (a, b) at s) (omega arith))

  pub number_more : 9 < n → n < 2 ^ 64 → {y' : List ℕ} {r' : ℕ} → Put at (decimal (n / 10)) 20 x y' r' → y ≡ y' → r ≡ r' → Put at (decimal n) 20 x z q
  number_more h w {y'} {r'} p a b =
      let t = put_join p (rw (a, b) at s) in
      let f = few_digits n w in
      record { bytes = rw (decimal_more n h) t.bytes; place = rw (decimal_more n h) t.place; bound = f }
