-- What a user of the rules relies on, for the network that a card gives and any bytes of a plan.
--     exact      a plan is accepted exactly when it meets the rules
--     decodes    the decoded blocks of an accepted plan are the due ones within the rules, and encode to its bytes
--     totalled   the totals are those of the decoded plan
--     grouped    the blocks of one F stand together, with every cut
-- And what acceptance alone shows of a card:
--     shows_routable, routable_condition   its network is routable, and so it meets Theorem 1's condition
--     shows_good_lem   the split test on the card says "none"
--     shows_wide_lem   n is at least 3f + 1
-- Assumes nothing.
use mathlib.Core.Path.{◌≡◌, refl, sym, ap, ◌∙◌}
use mathlib.Core.Bool.{Bool, true, false, cond}
use mathlib.Core.List.{List, [], ◌∷◌, ◌++◌, append-nil}
use Prim.Native.Nat.{ℕ, suc, ◌+◌, ◌≤◌}
use native.Mathlib.Omega.{arith}
use lib.Dec.{ltb}
use lib.ListN.{length, get_or, drop, length-append, drop_of_length-le}
use lib.Seq.{drop-cons, drop-length}
use borrow.Author.Tests.{le-ltb, ltb-false}
use Rattle.refusal.specs.Refused.{Refused, plan}
use Rattle.network.specs.Links.{Links, linked_in}
use Rattle.network.specs.Card.{Network, network, refused, read_card}
use Rattle.network.proofs.Main.{card_proper}
use Rattle.condition.proofs.Wide.{condition_wide}
use Rattle.condition.proofs.Main as Condition
use Rattle.plan.specs.Due.{due}
use Rattle.route.specs.Commands.{width}
use Rattle.plan.specs.Check.{Progress, reached, stopped, and_then, check_blocks, check_end, Totals, totals, turned, totals_of, check_on, check_plan}
use Rattle.plan.proofs.Groups.{whole_command}
use Rattle.rules.specs.Blocks.{Block, encode_blocks, encode_plan, decode_plan, plan_carriages}
use Rattle.rules.specs.Rules.{InOrder}
use Rattle.rules.specs.Theorems.{Accepted, Exact, Decodes, Totalled, Grouped, ShowsRoutable, RoutableCondition, ShowsGood, ShowsWide}
use Rattle.rules.proofs.Order.{order_together}
use Rattle.rules.proofs.Spans.{Span, span_left, span_right}
use Rattle.rules.proofs.Bytes.{span_head}
use Rattle.rules.proofs.Progress.{turned_totals, reached_same, cond_false, due_forward, due_backward, then_forward, cut_backward}
use Rattle.rules.proofs.Whole.{decode_length, blocks_forward, blocks_backward}
use Rattle.rules.proofs.Served.{order_routable}
use Rattle.rules.proofs.Routable as Routes

-- totals

abbrev blocks_in : Totals → ℕ
blocks_in (totals blocks carriages) = blocks
blocks_in (turned r) = 0

abbrev carriages_in : Totals → ℕ
carriages_in (totals blocks carriages) = carriages
carriages_in (turned r) = 0

totals_forward : (m : ℕ) (p : Progress) (blocks carriages : ℕ) → totals_of m p ≡ totals blocks carriages
    → (at : ℕ) × (p ≡ reached at carriages) × (blocks ≡ m)
totals_forward m (reached at c) blocks carriages e = (at, ap (λ (k : ℕ). reached at k) (ap carriages_in e), sym (ap blocks_in e))
totals_forward m (stopped number place) blocks carriages e = turned_totals (plan number place) blocks carriages e

-- a test that must fail for totals to be given
open_forward : (b : Bool) (r : Refused) (answer : Totals) (blocks carriages : ℕ) → cond b (turned r) answer ≡ totals blocks carriages
    → (b ≡ false) × (answer ≡ totals blocks carriages)
open_forward true r answer blocks carriages e = turned_totals r blocks carriages e
open_forward false r answer blocks carriages e = (refl, e)

-- the plan's end

end_forward : (s : List ℕ) (at c a c' : ℕ) → check_end s at c ≡ reached a c' → (length s ≡ at + 1) × (get_or s at 0 ≡ 0x15) × (c' ≡ c)
unfolding check_end width
end_forward s at c a c' e =
    let (cut, is, e1) = due_forward s at 0x15 _ a c' e in
    let (t, e2) = cond_false (ltb (at + 1) (length s)) _ 3 (at + 1) a c' e1 in
    let (x, y) = reached_same (at + 1) c a c' e2 in
    let w = whole_command s at 1 cut (ap width is) in
    let l = ltb-false (at + 1) (length s) t in
    (omega arith, is, sym y)

end_backward : (s : List ℕ) (at c : ℕ) → length s ≡ at + 1 → get_or s at 0 ≡ 0x15 → check_end s at c ≡ reached (at + 1) c
unfolding check_end width
end_backward s at c long is =
    let cut = cut_backward s at 1 (ap width is) (omega arith) (omega arith) in
    let t = le-ltb (at + 1) (length s) (omega arith) in
    due_backward s at 0x15 _ cut is ∙ rw t refl

-- the blocks and the end are all of the bytes
end_span : (s : List ℕ) (bytes : List ℕ) (at : ℕ) → at ≡ 0 + length bytes → Span s 0 bytes → length s ≡ at + 1 → get_or s at 0 ≡ 0x15 → bytes ++ (0x15 ∷ []) ≡ s
end_span s bytes at e p long is =
    let last : drop at s ≡ 0x15 ∷ [] = drop-cons s at 0 (omega arith) ∙ (λ i. is i ∷ rest i) in
    sym (p ∙ ap (λ (k : ℕ). bytes ++ drop k s) (sym e) ∙ ap (λ (r : List ℕ). bytes ++ r) last)
  where
    rest : drop (suc at) s ≡ []
    rest = drop_of_length-le s {i = suc at} (omega arith)

whole_span : (s bytes : List ℕ) → bytes ≡ s → Span s 0 bytes
whole_span s bytes e =
    let z : 0 + length s ≡ length s = omega arith in
    rw e (rw z (rw (drop-length s) (sym (append-nil s))))

-- the whole check, for the network of a card
module _ (card s : List ℕ) (n f : ℕ) (links : Links) (e : read_card card ≡ network n f links) where
  few : n ≤ 8
  few = (card_proper card n f links e).most

  abbrev answer : Totals
  answer = totals_of (length (due n f)) (and_then (check_blocks n f links s (due n f) 0 0) (λ (at carriages : ℕ). check_end s at carriages))

  check_is : check_plan card s ≡ cond (ltb 1048576 (length s)) (turned (plan 1 0)) answer
  unfolding check_plan check_on
  check_is = ap (λ (w : Network). check_on w s) e

  abbrev bs : List Block
  bs = decode_plan n f s

  plan_forward : (blocks carriages : ℕ) → check_plan card s ≡ totals blocks carriages
      → (length s ≤ 1048576) × InOrder n f links (due n f) bs × (encode_plan bs ≡ s) × (blocks ≡ length (due n f)) × (carriages ≡ length (plan_carriages bs))
  unfolding encode_plan decode_plan
  plan_forward blocks carriages h =
      let (short, h1) = open_forward (ltb 1048576 (length s)) (plan 1 0) answer blocks carriages (sym check_is ∙ h) in
      let (at, h2, m) = totals_forward (length (due n f)) _ blocks carriages h1 in
      let (a, c, h3, h4) = then_forward (check_blocks n f links s (due n f) 0 0) (λ (at carriages : ℕ). check_end s at carriages) at carriages h2 in
      let (long, is, q) = end_forward s a c at carriages h4 in
      let (o, p, x, y) = blocks_forward n f links few s (due n f) 0 0 a c h3 in
      let l = ltb-false 1048576 (length s) short in
      (l, o, end_span s (encode_blocks bs) a x p long is, m, omega arith)

  plan_backward : (ps : List Block) → length s ≤ 1048576 → InOrder n f links (due n f) ps → encode_plan ps ≡ s
      → check_plan card s ≡ totals (length (due n f)) (length (plan_carriages ps))
  unfolding encode_plan
  plan_backward ps short o p =
      let bytes = encode_blocks ps in
      let w = whole_span s (bytes ++ (0x15 ∷ [])) p in
      let (l, is, rest) = span_head s (0 + length bytes) 0x15 [] (span_right s 0 bytes (0x15 ∷ []) w) in
      let h = blocks_backward n f links few s (due n f) ps 0 0 o (span_left s 0 bytes (0x15 ∷ []) w) in
      let long = length-append bytes (0x15 ∷ []) in
      let same = ap length p in
      let last = end_backward s (0 + length bytes) (0 + length (plan_carriages ps)) (omega arith) is in
      let t = le-ltb 1048576 (length s) short in
      let z : 0 + length (plan_carriages ps) ≡ length (plan_carriages ps) = omega arith in
      check_is ∙ rw t (rw h (rw last (rw z refl)))

pub exact : Exact
exact card s n f links e = (
  λ (b, c, h). let (short, o, p, x, y) = plan_forward card s n f links e b c h in (short, decode_plan n f s, o, p),
  λ (short, bs, o, p). (length (due n f), length (plan_carriages bs), plan_backward card s n f links e bs short o p),
)

pub decodes : Decodes
decodes card s n f links e (b, c, h) = let (short, o, p, x, y) = plan_forward card s n f links e b c h in (o, p)

pub totalled : Totalled
unfolding decode_plan
totalled card s n f links e b c h =
    let (short, o, p, x, y) = plan_forward card s n f links e b c h in
    (x ∙ sym (decode_length n f s (length (due n f))), y)

pub grouped : Grouped
grouped card s n f links e a X x k = order_together n f links (decode_plan n f s) (few card s n f links e) (decodes card s n f links e a).0 X x k

pub shows_routable : ShowsRoutable
shows_routable card s n f links e a = order_routable n f links (decode_plan n f s) (few card s n f links e) (decodes card s n f links e a).0

pub routable_condition : RoutableCondition
routable_condition = Routes.routable_condition

-- a card for which a plan is accepted is read
accepted_read : (card s : List ℕ) → Accepted card s → (n f : ℕ) × (links : Links) × (read_card card ≡ network n f links)
unfolding check_plan check_on
accepted_read card s (blocks, carriages, h) = go (read_card card) refl
  where
    go : (w : Network) → read_card card ≡ w → (n f : ℕ) × (links : Links) × (read_card card ≡ network n f links)
    go (network n f links) e = (n, f, links, e)
    go (refused r) e = turned_totals r blocks carriages (sym (ap (λ (w : Network). check_on w s) e) ∙ h)

pub shows_good_lem : ShowsGood
shows_good_lem card s a =
    let (n, f, links, e) = accepted_read card s a in
    (Condition.exact card n f links e).1 (routable_condition n f links (shows_routable card s n f links e a))

pub shows_wide_lem : ShowsWide
shows_wide_lem card s n f links e a =
    let w = condition_wide n f (linked_in links) (routable_condition n f links (shows_routable card s n f links e a)) (card_proper card n f links e).least in
    omega arith
