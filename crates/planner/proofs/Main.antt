-- What a user relies on: the plan that is written is accepted, and none is shorter.
--     writes        wherever the split test says "none" the plan check accepts the plan that is written
--     shortest      no accepted plan is shorter
--     chooses       every S is f + 1 servers of its A
--     lengthy       the length follows from n and f
--     accepts       so do the lent bytes of every call that is answered
--     refuses17     the refusal 17 is the split test's answer
--     refuses18     the refusal 18 is a plan longer than the lent buffer
--     unchanged     a refused call changes no lent byte; untouched: no call changes one past the plan
-- Assumes nothing.
use mathlib.Core.Path.{◌≡◌, refl, sym, ap, ◌∙◌, subst}
use mathlib.Core.Bool.{Bool, cond}
use mathlib.Core.List.{List}
use Prim.Native.Nat.{ℕ, ◌≤◌, ◌<◌}
use native.Mathlib.Omega.{arith}
use lib.Dec.{ltb}
use lib.ListN.{length, drop}
use lib.Seq.{take-append_seam, drop-append_seam}
use borrow.Author.Tests.{ltb-true, lt-ltb}
use Rattle.refusal.specs.Refused.{Refused, call}
use Rattle.facts.proofs.Bools.{cases, clash}
use Rattle.sets.specs.Sets.{has, minus}
use Rattle.sets.proofs.Members.{has_empty}
use Rattle.network.specs.Links.{Links}
use Rattle.network.specs.Card.{Network, network, refused, read_card}
use Rattle.network.proofs.Main.{card_proper}
use Rattle.split.specs.Split.{Split, good, bad, unread, first_bad, split_of, split_test}
use Rattle.plan.specs.Due.{due}
use Rattle.rules.specs.Theorems.{Accepted}
use Rattle.rules.proofs.Main.{exact, decodes, shows_good_lem, shows_wide_lem}
use Rattle.rules.specs.Blocks.{decode_plan}
use Rattle.planner.specs.Plan.{block_of, plan_of, plan_bytes, plan_length}
use Rattle.planner.specs.Write.{Writing, wrote, broken, unwritten, plan_on, plan_for, fitting, write_on, write_into, after_write, written_in}
use Rattle.planner.specs.Theorems.{Writes, Shortest, Least, Chooses, Lengthy, Accepts, Refuses17, Refuses18, Unchanged, Untouched}
use Rattle.flow.proofs.Membership.{left_has}
use Rattle.planner.proofs.Writing.{block_quorum, order_right, each_map}
use Rattle.planner.proofs.Lengths.{plan_least, plan_exact}
use Rattle.planner.proofs.Short.{length_few}

-- cards whose split test says "none"

-- which of the three answers of the split test it is
abbrev kind_of : Split → ℕ
kind_of good = 0
kind_of (bad f l c r) = 1
kind_of (unread r) = 2

unread_good : {C : Type 0} (r : Refused) → unread r ≡ good → C
unread_good r e = let z : ◌≡◌ {A = ℕ} 2 0 = ap kind_of e in absurd (omega arith)

split_read : (card : List ℕ) (n f : ℕ) (links : Links) → read_card card ≡ network n f links → split_test card ≡ first_bad n f links
unfolding split_test
split_read card n f links e = ap split_of e

good_read : (card : List ℕ) → split_test card ≡ good → (n f : ℕ) × (links : Links) × (read_card card ≡ network n f links)
unfolding split_test
good_read card g = go (read_card card) refl
  where
    go : (w : Network) → read_card card ≡ w → (n f : ℕ) × (links : Links) × (read_card card ≡ network n f links)
    go (network n f links) e = (n, f, links, e)
    go (refused r) e = unread_good r (sym (ap split_of e) ∙ g)

pub plan_read : (card : List ℕ) (n f : ℕ) (links : Links) → read_card card ≡ network n f links → plan_for card ≡ plan_bytes n f links
unfolding plan_for
plan_read card n f links e = ap plan_on e

module _ (card : List ℕ) (n f : ℕ) (links : Links) (e : read_card card ≡ network n f links) (g : split_test card ≡ good) where
  first_good : first_bad n f links ≡ good
  first_good = sym (split_read card n f links e) ∙ g

  plan_long : length (plan_bytes n f links) ≡ plan_length n f
  plan_long = plan_exact n f links (card_proper card n f links e) first_good

  plan_few : plan_length n f ≤ 1048576
  plan_few = let p = card_proper card n f links e in length_few n f p.most p.bound

  plan_accepted : Accepted card (plan_bytes n f links)
  unfolding plan_bytes
  plan_accepted =
      let l = plan_long in
      let m = plan_few in
      (exact card (plan_bytes n f links) n f links e).1 (omega arith, plan_of n f links, order_right n f links (card_proper card n f links e) first_good, refl)

pub lengthy : Lengthy
lengthy card n f links e g = (ap length (plan_read card n f links e) ∙ plan_long card n f links e g, plan_few card n f links e g)

pub writes : Writes
writes card g =
    let (n, f, links, e) = good_read card g in
    rw (plan_read card n f links e) (plan_accepted card n f links e g)

pub shortest : Shortest
shortest card s a =
    let g = shows_good_lem card s a in
    let (n, f, links, e) = good_read card g in
    let (o, q) = decodes card s n f links e a in
    let l = lengthy card n f links e g in
    let m = plan_least n f links (card_proper card n f links e).most (decode_plan n f s) o (shows_wide_lem card s n f links e a) in
    let z = ap length q in
    omega arith

pub chooses : Chooses
unfolding plan_of
chooses card n f links e g =
    each_map (block_of n f links) (Least f) (due n f) (λ d m.
    let (few, none) = block_quorum n f links (card_proper card n f links e) (first_good card n f links e g) d m in
    record {
      few = few;
      inside = λ x h. cases (has (block_of n f links d).side x) (λ t. t) (λ t. clash (has (minus (block_of n f links d).quorum (block_of n f links d).side) x) (left_has (block_of n f links d).quorum (block_of n f links d).side x h t) (ap (λ (s : ℕ). has s x) none ∙ has_empty x));
    })

-- what is answered

-- which of the three answers it is
abbrev sort_of : Writing → ℕ
sort_of (wrote bytes) = 0
sort_of (broken r f l c s) = 1
sort_of (unwritten r) = 2

abbrev bytes_of : Writing → ℕ
bytes_of (wrote bytes) = bytes
bytes_of (broken r f l c s) = 0
bytes_of (unwritten r) = 0

abbrev split_in : Writing → Split
split_in (wrote bytes) = good
split_in (broken r f l c s) = bad f l c s
split_in (unwritten r) = good

-- a buffer shorter than the plan is refused
short_refused : (plan lent : List ℕ) → length lent < length plan → fitting plan lent ≡ unwritten (call 18)
unfolding fitting
short_refused plan lent l = ap (λ (b : Bool). cond b (unwritten (call 18)) (wrote (length plan))) (lt-ltb (length lent) (length plan) l)

-- a plan that is written
record Wrote (card lent : List ℕ) (bytes : ℕ) : Type 0 where
  fine : split_test card ≡ good
  whole : bytes ≡ length (plan_for card)

-- the answer, by that of the split test
pub write_on_lem : (card lent : List ℕ) (w : Split) → split_test card ≡ w → write_into card lent ≡ write_on w (plan_for card) lent
unfolding write_into
write_on_lem card lent w q = ap (λ (w : Split). write_on w (plan_for card) lent) q

wrote_fits : (card lent : List ℕ) (bytes : ℕ) → write_into card lent ≡ wrote bytes → Wrote card lent bytes
unfolding fitting
wrote_fits card lent bytes e = go (split_test card) refl
  where
    go : (w : Split) → split_test card ≡ w → Wrote card lent bytes
    go good q =
        let h : fitting (plan_for card) lent ≡ wrote bytes = sym (write_on_lem card lent good q) ∙ e in
        cases (ltb (length lent) (length (plan_for card)))
        (λ t. let z : ◌≡◌ {A = ℕ} 2 0 = ap sort_of (rw t at h) in absurd (omega arith))
        (λ t. record { fine = q; whole = sym (ap bytes_of (rw t at h)) })
    go (bad f l c r) q = let z : ◌≡◌ {A = ℕ} 1 0 = ap sort_of (sym (write_on_lem card lent (bad f l c r) q) ∙ e) in absurd (omega arith)
    go (unread r) q = let z : ◌≡◌ {A = ℕ} 2 0 = ap sort_of (sym (write_on_lem card lent (unread r) q) ∙ e) in absurd (omega arith)

-- the number that is answered is the plan's length
pub wrote_length : (card lent : List ℕ) (bytes : ℕ) → write_into card lent ≡ wrote bytes → bytes ≡ length (plan_for card)
wrote_length card lent bytes e = (wrote_fits card lent bytes e).whole

pub accepts : Accepts
unfolding written_in
accepts card lent bytes e =
    let w = wrote_fits card lent bytes e in
    rw (e, w.whole) (subst (Accepted card) (sym (take-append_seam (plan_for card) _)) (writes card w.fine))

-- an answer about room is no bad split
clash_fitting : {D : Type 0} (plan lent : List ℕ) → sort_of (fitting plan lent) ≡ 1 → D
unfolding fitting
clash_fitting plan lent e =
    cases (ltb (length lent) (length plan))
    (λ t. let z : ◌≡◌ {A = ℕ} 2 1 = rw t at e in absurd (omega arith))
    (λ t. let z : ◌≡◌ {A = ℕ} 0 1 = rw t at e in absurd (omega arith))

pub refuses17 : Refuses17
refuses17 card lent F L C R = (λ e. back (split_test card) refl e, λ q. write_on_lem card lent (bad F L C R) q)
  where
    back : (w : Split) → split_test card ≡ w → write_into card lent ≡ broken (call 17) F L C R → split_test card ≡ bad F L C R
    back good q e = let z = ap sort_of (sym (write_on_lem card lent good q) ∙ e) in clash_fitting (plan_for card) lent z
    back (bad f l c r) q e = q ∙ ap split_in (sym (write_on_lem card lent (bad f l c r) q) ∙ e)
    back (unread r) q e = let z : ◌≡◌ {A = ℕ} 2 1 = ap sort_of (sym (write_on_lem card lent (unread r) q) ∙ e) in absurd (omega arith)

pub refuses18 : Refuses18
unfolding fitting
refuses18 card lent g = (
  λ e.
      let h : fitting (plan_for card) lent ≡ unwritten (call 18) = sym (write_on_lem card lent good g) ∙ e in
      cases (ltb (length lent) (length (plan_for card)))
      (λ t. ltb-true (length lent) (length (plan_for card)) t)
      (λ t. let z : ◌≡◌ {A = ℕ} 0 2 = ap sort_of (rw t at h) in absurd (omega arith)),
  λ l. write_on_lem card lent good g ∙ short_refused (plan_for card) lent l,
)

pub unchanged : Unchanged
unfolding written_in
unchanged card lent h = go (write_into card lent) refl
  where
    go : (w : Writing) → write_into card lent ≡ w → after_write (write_into card lent) (plan_for card) lent ≡ lent
    go (wrote bytes) e = absurd (h bytes e)
    go (broken r f l c s) e = ap (λ (w : Writing). after_write w (plan_for card) lent) e
    go (unwritten r) e = ap (λ (w : Writing). after_write w (plan_for card) lent) e

pub untouched : Untouched
unfolding written_in
untouched card lent = go (write_into card lent) refl
  where
    go : (w : Writing) → write_into card lent ≡ w → drop (length (plan_for card)) (after_write (write_into card lent) (plan_for card) lent) ≡ drop (length (plan_for card)) lent
    go (wrote bytes) e = let w = wrote_fits card lent bytes e in rw (e, w.whole) (drop-append_seam (plan_for card) (drop (length (plan_for card)) lent))
    go (broken r f l c s) e = ap (λ (w : Writing). drop (length (plan_for card)) (after_write w (plan_for card) lent)) e
    go (unwritten r) e = ap (λ (w : Writing). drop (length (plan_for card)) (after_write w (plan_for card) lent)) e
