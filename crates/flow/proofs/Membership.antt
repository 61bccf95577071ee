-- Members of sets that are made of others.
--     has_both, has_left, left_has   members of what two sets share, and of what is left of one without the other
--     has_only, only_out, only_has   the members of a set of one server
--     nothing_shared, within_of      from members to numbers; shared_small: what two sets share is no larger a number
-- Assumes nothing.
use mathlib.Core.Path.{◌≡◌, refl, sym, ◌∙◌}
use mathlib.Core.Bool.{true, not, ◌&&◌}
use Prim.Native.Nat.{ℕ, ◌^◌, ◌<◌}
use native.Mathlib.Omega.{arith}
use lib.Bits.{and_le_l}
use lib.Dec.{eqb, ltb}
use borrow.Author.Tests.{eq-eqb, eqb-true, lt-ltb, not-true}
use Rattle.facts.proofs.Bools.{is_false, both, and_left, and_right, same}
use Rattle.sets.specs.Sets.{In, Out, has, single, meet, minus, within}
use Rattle.sets.proofs.Members.{has_meet, has_minus, has_single, has_empty, same_all}

pub has_both : (a b x : ℕ) → In (has (meet a b)) x → In (has a) x × In (has b) x
has_both a b x e = let z = sym (has_meet a b x) ∙ e in (and_left (has a x) (has b x) z, and_right (has a x) (has b x) z)

-- x is left when b is taken out of a
pub has_left : (a b x : ℕ) → In (has (minus a b)) x → In (has a) x × Out (has b) x
has_left a b x e = let z = sym (has_minus a b x) ∙ e in (and_left (has a x) (not (has b x)) z, not-true (has b x) (and_right (has a x) (not (has b x)) z))

pub left_has : (a b x : ℕ) → In (has a) x → Out (has b) x → In (has (minus a b)) x
left_has a b x p q = let z = has_minus a b x in cc

pub nothing_shared : (a b : ℕ) → ((y : ℕ) → In (has a) y → In (has b) y → ⊥) → meet a b ≡ 0
nothing_shared a b h = same_all (meet a b) 0 (λ y. is_false (has (meet a b) y) (λ e. let (p, q) = has_both a b y e in h y p q) ∙ sym (has_empty y))

-- every member of a is in b
pub within_of : (a b : ℕ) → ((i : ℕ) → In (has a) i → In (has b) i) → within a b ≡ true
unfolding within meet
within_of a b h = eq-eqb (meet a b) a (same_all (meet a b) a (λ i. has_meet a b i ∙ same (has a i && has b i) (has a i) (and_left (has a i) (has b i)) (λ e. both (has a i) (has b i) e (h i e))))

-- single x, by members
pub has_only : (x y : ℕ) → In (has (single x)) y → y ≡ x
has_only x y e = sym (eqb-true x y (and_right (ltb x 8) (eqb x y) (sym (has_single x y) ∙ e)))

pub only_out : (x y : ℕ) → (y ≡ x → ⊥) → Out (has (single x)) y
only_out x y h = is_false (has (single x) y) (λ e. h (has_only x y e))

pub only_has : (x : ℕ) → x < 8 → In (has (single x)) x
only_has x k = has_single x x ∙ both (ltb x 8) (eqb x x) (lt-ltb x 8 k) (eq-eqb x x refl)

pub shared_small : (n a b : ℕ) → a < 2 ^ n → meet a b < 2 ^ n
unfolding meet
shared_small n a b p = let q = and_le_l a b in omega arith
