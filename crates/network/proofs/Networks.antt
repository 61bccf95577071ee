-- The network of an accepted card is proper: n is 2 to 8, f is 0 to 2, and each link joins two different servers. It holds after the head, each
-- link keeps it, and the end hands it on. Assumes nothing.
use mathlib.Core.Path.{◌≡◌, refl, sym, ap, ◌∙◌}
use mathlib.Core.Logic.{◌⊎◌, inl, inr, ⊎_elim}
use mathlib.Core.Bool.{Bool, true, false}
use mathlib.Core.List.{List, []}
use Prim.Native.Nat.{ℕ, zero, suc, ◌+◌, ◌≤◌, ◌<◌}
use native.Mathlib.Omega.{arith}
use lib.ListN.{length, get_or, set, replicate, get_or-replicate, get_or-eq_default}
use lib.Seq.{get_or-set_same, get_or-set_other, set_out}
use lib.Dec.{eqb, ltb}
use borrow.Author.Tests.{ltb-true, ltb-false, eqb-true, eqb-false}
use Rattle.facts.proofs.Bools.{cases, clash, bools}
use Rattle.refusal.specs.Refused.{Refused}
use Rattle.network.specs.Links.{Links, no_links, linked_in, with_link}
use Rattle.network.specs.Card.{network, refused, head_fits, link_fits, read_card}
use Rattle.network.specs.Proper.{Proper}
use Rattle.network.specs.Places.{At}
use Rattle.network.proofs.Reading.{reading_starts, reading_answer, reading_goes}
use Rattle.network.proofs.Accepted.{Accepted, Headed, Linked, Ended, outcome, accepted_short}

no_links_lem : (u v : ℕ) → linked_in no_links u v ≡ false
unfolding linked_in no_links
no_links_lem u v =
    cases (ltb u 8)
    (λ e. rw (get_or-replicate 8 u (replicate 8 false) [] (ltb-true u 8 e)) (cases (ltb v 8) (λ q. get_or-replicate 8 v false false (ltb-true v 8 q)) (λ q. get_or-eq_default (replicate 8 false) false (ltb-false v 8 q))))
    (λ e. rw (get_or-eq_default (replicate 8 (replicate 8 false)) [] {n = u} (ltb-false u 8 e)) refl)

-- a mark of a row after one was put there
marked : (row : List Bool) (v b : ℕ) → get_or (set row v true) b false ≡ true → (get_or row b false ≡ true) ⊎ (b ≡ v)
marked row v b e =
    cases (eqb b v) (λ q. inr (eqb-true b v q)) (λ q. inl (sym (get_or-set_other row v b true false (eqb-false b v q)) ∙ e))

-- a link after one was put there
pub linked_with : (links : Links) (u v a b : ℕ) → linked_in (with_link links u v) a b ≡ true → (linked_in links a b ≡ true) ⊎ ((a ≡ u) × (b ≡ v))
unfolding linked_in with_link
linked_with links u v a b e =
    cases (eqb a u)
    (λ q. let p = eqb-true a u q in cases (ltb u (length links)) (λ h. here p (ltb-true u (length links) h)) (λ h. inl (rw (set_out links u (set (get_or links u []) v true) (ltb-false u (length links) h)) at e)))
    (λ q. inl (rw (get_or-set_other links u a (set (get_or links u []) v true) [] (eqb-false a u q)) at e))
  where
    here : a ≡ u → u < length links → (get_or (get_or links a []) b false ≡ true) ⊎ ((a ≡ u) × (b ≡ v))
    here p h =
        let r : get_or (set links u (set (get_or links u []) v true)) a [] ≡ set (get_or links u []) v true = ap (λ (x : ℕ). get_or (set links u (set (get_or links u []) v true)) x []) p ∙ get_or-set_same links u (set (get_or links u []) v true) [] h in
        ⊎_elim
        (λ m. inl (rw p m))
        (λ m. inr (p, m))
        (marked (get_or links u []) v b (sym (ap (λ (row : List Bool). get_or row b false) r) ∙ e))

pub none_there : {C : Type 0} (u v : ℕ) → linked_in no_links u v ≡ true → C
none_there u v q = clash (linked_in no_links u v) q (no_links_lem u v)

proper_head : (n f : ℕ) → head_fits n f ≡ true → Proper n f no_links
unfolding head_fits
proper_head n f e =
    let a : ltb n 2 ≡ false = search bools in
    let b : ltb 8 n ≡ false = search bools in
    let c : ltb 2 f ≡ false = search bools in
    record { least = ltb-false n 2 a; most = ltb-false 8 n b; bound = ltb-false 2 f c; from = λ u v q. none_there u v q; to = λ u v q. none_there u v q; other = λ u v q. none_there u v q }

proper_link : (n f : ℕ) (links : Links) → Proper n f links → (u v : ℕ) → link_fits n u v ≡ true → Proper n f (with_link links u v)
unfolding link_fits
proper_link n f links p u v e =
    let a : ltb u n ≡ true = search bools in
    let b : ltb v n ≡ true = search bools in
    let c : eqb u v ≡ false = search bools in
    record {
      least = p.least;
      most = p.most;
      bound = p.bound;
      from = λ x y q. ⊎_elim (λ w. p.from x y w) (λ w. rw w.0 (ltb-true u n a)) (linked_with links u v x y q);
      to = λ x y q. ⊎_elim (λ w. p.to x y w) (λ w. rw w.1 (ltb-true v n b)) (linked_with links u v x y q);
      other = λ x y q z. ⊎_elim (λ w. p.other x y w z) (λ w. eqb-false u v c (sym w.0 ∙ z ∙ w.1)) (linked_with links u v x y q);
    }

same_network : {n f n' f' : ℕ} {links links' : Links} → network n f links ≡ network n' f' links' → Proper n f links → Proper n' f' links'
same_network {n} {f} {n'} {f'} {links} {links'} e p =
    let a : n ≡ n' = cc in
    let b : f ≡ f' = cc in
    let c : links ≡ links' = cc in
    rw (← a, ← b, ← c) p

module _ (s : List ℕ) (ok : Accepted s) (n' f' : ℕ) (links' : Links) (is : read_card s ≡ network n' f' links') where
  proper_from : (k at n f : ℕ) (links : Links) → length s ≤ at + k → 0 < at → At s at n f links → Proper n f links → Proper n' f' links'
  proper_from zero at n f links h z r p = go (outcome r ok)
    where
      go : Headed r ok ⊎ (Linked r ok ⊎ Ended r ok) → Proper n' f' links'
      go (inl w) = let q = w.first in absurd (omega arith)
      go (inr (inl w)) = let q = w.room in absurd (omega arith)
      go (inr (inr w)) = same_network (reading_answer r (network n f links) w.step ∙ is) p
  proper_from (suc k) at n f links h z r p =
      let on : (links'' : Links) → At s (at + 3) n f links'' → Proper n f links'' → Proper n' f' links' =
      λ links'' r'' p''. proper_from k (at + 3) n f links'' (omega arith) (omega arith) r'' p'' in
      go on (outcome r ok)
    where
      go : ((links'' : Links) → At s (at + 3) n f links'' → Proper n f links'' → Proper n' f' links') → Headed r ok ⊎ (Linked r ok ⊎ Ended r ok) → Proper n' f' links'
      go on (inl w) = let q = w.first in absurd (omega arith)
      go on (inr (inl w)) =
          on (with_link links (get_or s (at + 1) 0) (get_or s (at + 2) 0))
          (reading_goes r (at + 3) n f (with_link links (get_or s (at + 1) 0) (get_or s (at + 2) 0)) w.step (omega arith) w.room)
          (proper_link n f links p (get_or s (at + 1) 0) (get_or s (at + 2) 0) w.fits)
      go on (inr (inr w)) = same_network (reading_answer r (network n f links) w.step ∙ is) p

-- a refusal is no network
pub unread : {C : Type 0} (r : Refused) (n f : ℕ) (links : Links) → refused r ≡ network n f links → C
unread r n f links e = let z : ◌≡◌ {A = ℕ} 0 1 = cc in absurd (omega arith)

pub network_accepted : (s : List ℕ) (n f : ℕ) (links : Links) → read_card s ≡ network n f links → Accepted s
network_accepted s n f links is r e = unread r n f links (sym e ∙ is)

pub card_proper : (s : List ℕ) (n f : ℕ) (links : Links) → read_card s ≡ network n f links → Proper n f links
card_proper s n f links is = go (outcome start ok)
  where
    ok : Accepted s
    ok = network_accepted s n f links is

    start : At s 0 0 0 no_links
    start = reading_starts s (accepted_short s ok)

    go : Headed start ok ⊎ (Linked start ok ⊎ Ended start ok) → Proper n f links
    go (inl w) =
        proper_from s ok n f links is (length s) 3 (get_or s 1 0) (get_or s 2 0) no_links (omega arith) (omega arith)
        (reading_goes start 3 (get_or s 1 0) (get_or s 2 0) no_links w.step (omega arith) w.room) (proper_head (get_or s 1 0) (get_or s 2 0) w.fits)
    go (inr (inl w)) = absurd (w.later refl)
    go (inr (inr w)) = absurd (w.later refl)
