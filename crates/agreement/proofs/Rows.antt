-- The words of each call, from what the call and `words` say of its answer.
--     card_read      a card that is read: the reader's n, f and links are its network
--     card_refused   a refused card
--     print_words_lem    a card printed back
--     write_words_lem    the plan writer, with what holds of the plan
--     route_words_lem    separate routes, with what holds of them or of the cut
--     load_words_lem     the load, with what the counts add up to
--     run_words      a run
--     plan_words_lem     the plan check, with what an accepted plan says of the card
--     quick_words_lem    the quick test, with what it says of the split test
-- Assumes nothing.
use mathlib.Core.Path.{◌≡◌, refl, sym, ap, ◌∙◌}
use mathlib.Core.Bool.{true, false}
use mathlib.Core.List.{List, [], ◌∷◌, head-eq_of_cons-eq, tail-eq_of_cons-eq}
use Prim.Native.Nat.{ℕ}
use native.Mathlib.Omega.{arith}
use Rattle.std.specs.Prelude.{Result, Ok, Err}
use Rattle.facts.proofs.Bools.{clash}
use Rattle.refusal.specs.Refused.{refusal_of}
use Rattle.refusal.specs.declared.Refusal.{Refusal}
use Rattle.network.specs.Card.{network, refused, read_card}
use Rattle.network.specs.Links.{Links}
use Rattle.split.specs.Split.{good, split_test}
use Rattle.network.specs.declared.card.Head.{Head}
use Rattle.network.specs.Answers.{reading_of, Answered}
use Rattle.plan.specs.declared.check.Totals as Checked
use Rattle.plan.specs.Answers.{checked_of}
use Rattle.routes.specs.declared.Routing.{Routing}
use Rattle.writer.specs.declared.write.Unwritten.{Unwritten}
use Rattle.printer.specs.Answers.{printed_of, Printing}
use Rattle.network.proofs.Heads.{network_is, refused_of}
use Rattle.two_way.specs.Quick.{Quick, ruled, quick_test}
use Rattle.two_way.specs.Quick as Quick
use Rattle.two_way.proofs.Main.{agrees}
use Rattle.plan.specs.Check.{Totals, totals, check_plan}
use Rattle.plan.specs.Check as Check
use Rattle.rules.specs.Theorems.{Accepted}
use Rattle.rules.proofs.Main.{shows_good_lem, shows_wide_lem}
use Rattle.routes.specs.Answers.{routing_of}
use Rattle.routes.specs.Answers as Routes
use Rattle.writer.specs.Answers.{written_of, Wrote}
use Rattle.load.specs.Load.{added}
use Rattle.load.specs.Answers.{loaded_of}
use Rattle.load.specs.Answers as Load
use Rattle.load.specs.Places.{places_in}
use Rattle.run.specs.Answers as Run
use Rattle.words.specs.Words.{card_words, print_words, quick_words, plan_words, write_words, route_words, load_words}
use Rattle.agreement.specs.Words.{PrintWords, QuickWords, PlanWords, WriteWords, RouteWords, LoadWords, RunWords}

-- the words of the card reader's answer with the links after it
module _ (s : List ℕ) (lent links : Links) (reading : Result Head Refusal) (a : Answered s lent reading links) (words : List ℕ) where
  pub card_read : (h : Head) → reading ≡ Ok h → words ≡ card_words (network h.n h.f links) → words ≡ card_words (read_card s)
  card_read h e w = w ∙ ap card_words (sym (network_is (read_card s) h.n h.f lent links (sym a.reading ∙ ap reading_of e) a.links))

  pub card_refused : (r : Refusal) → reading ≡ Err r → words ≡ card_words (refused (refusal_of r)) → words ≡ card_words (read_card s)
  card_refused r e w = w ∙ ap card_words (sym (refused_of (read_card s) (refusal_of r) (sym a.reading ∙ ap reading_of e)))

pub print_words_lem : (card lent : List ℕ) (r : Result ℕ Refusal) (after words : List ℕ) → Printing card lent r after → words ≡ print_words (printed_of r) → PrintWords card lent after words
print_words_lem card lent r after words a w = record { answer = w ∙ ap print_words a.answer; bytes = a.bytes }

-- the words of the plan writer, with what holds of the plan
module _ (card lent : List ℕ) (r : Result ℕ Unwritten) (after : List ℕ) (a : Wrote card lent r after) (words : List ℕ) where
  pub write_words_lem : words ≡ write_words (written_of r) → WriteWords card lent after words
  write_words_lem w =
      record {
        answer = w ∙ ap write_words a.answer;
        bytes = a.bytes;
        accepted = λ bytes e. a.accepted bytes (a.answer ∙ e);
        shortest = λ bytes e. a.shortest bytes (a.answer ∙ e);
      }

-- the words of separate routes, with what holds of them
module _ (card : List ℕ) (F sources r : ℕ) (lent : List ℕ) (a : Result Routing Refusal) (after : List ℕ) (so : Routes.Answered card F sources r lent a after) (words : List ℕ) where
  pub route_words_lem : words ≡ route_words (routing_of a) → RouteWords card F sources r lent after words
  route_words_lem w =
      record {
        answer = w ∙ ap route_words so.answer;
        bytes = so.bytes;
        found = λ n f links e count q. so.found n f links e count (so.answer ∙ q);
        missed = λ n f links e K q. so.missed n f links e K (so.answer ∙ q);
      }

-- the words of the load, with what the counts add up to
module _ (card plan lent : List ℕ) (r : Result (Unit {0}) Refusal) (after : List ℕ) (a : Load.Answered card plan lent r after) (words : List ℕ) where
  pub load_words_lem : words ≡ load_words (loaded_of r after) → LoadWords card plan words
  load_words_lem w = record { answer = w ∙ ap load_words a.answer; sum = λ counts q. go r refl counts (sym w ∙ q) }
    where
      go : (l : Result (Unit {0}) Refusal) → r ≡ l → (counts : List ℕ) → load_words (loaded_of l after) ≡ 0 ∷ counts → added counts ≡ places_in plan
      go (Ok x) e counts q = ap added (sym (tail-eq_of_cons-eq q)) ∙ a.sum (ap (λ (l : Result (Unit {0}) Refusal). loaded_of l after) e)
      go (Err g) e counts q = let z : ◌≡◌ {A = ℕ} 2 0 = head-eq_of_cons-eq q in absurd (omega arith)

pub run_words : (card plan inputs : List ℕ) (X : ℕ) (table lent : List ℕ) (r : Result Checked.Totals Refusal) (after words : List ℕ) → Run.Answered card plan inputs X table lent r after
    → words ≡ plan_words (checked_of r) → RunWords card plan inputs X table lent after words
run_words card plan inputs X table lent r after words a w =
    record {
      answer = w ∙ ap plan_words a.answer;
      bytes = a.bytes;
      agreed = λ n f links e blocks carriages q. a.agreed n f links e blocks carriages (a.answer ∙ q);
    }

-- the words of the plan check, with what those of an accepted plan say of the card
module _ (card plan words : List ℕ) (e : words ≡ plan_words (check_plan card plan)) where
  accepted : (blocks carriages : ℕ) → words ≡ 0 ∷ blocks ∷ carriages ∷ 0 ∷ [] → Accepted card plan
  accepted blocks carriages w = go (check_plan card plan) refl (sym e ∙ w)
    where
      go : (t : Totals) → check_plan card plan ≡ t → plan_words t ≡ 0 ∷ blocks ∷ carriages ∷ 0 ∷ [] → Accepted card plan
      go (totals b c) q w = (b, c, q)
      go (Check.turned r) q w = let z : ◌≡◌ {A = ℕ} 2 0 = head-eq_of_cons-eq w in absurd (omega arith)

  pub plan_words_lem : PlanWords card plan words
  plan_words_lem =
      record {
        answer = e;
        shows_good = λ blocks carriages w. shows_good_lem card plan (accepted blocks carriages w);
        shows_wide = λ blocks carriages w n f links q. shows_wide_lem card plan n f links q (accepted blocks carriages w);
      }

-- the words of the quick test, with what they say of the split test
module _ (card words : List ℕ) (e : words ≡ quick_words (quick_test card)) where
  yes_good : (n least : ℕ) → words ≡ 0 ∷ 1 ∷ n ∷ least ∷ [] → split_test card ≡ good
  yes_good n least w = go (quick_test card) refl (sym e ∙ w)
    where
      go : (a : Quick) → quick_test card ≡ a → quick_words a ≡ 0 ∷ 1 ∷ n ∷ least ∷ [] → split_test card ≡ good
      go (ruled true m k) q w = (agrees card true m k q).0 refl
      go (ruled false m k) q w = let z : ◌≡◌ {A = ℕ} 0 1 = cc in absurd (omega arith)
      go (Quick.turned r) q w = let z : ◌≡◌ {A = ℕ} 2 0 = cc in absurd (omega arith)

  no_bad : (n least : ℕ) → words ≡ 0 ∷ 0 ∷ n ∷ least ∷ [] → split_test card ≡ good → ⊥
  no_bad n least w g = go (quick_test card) refl (sym e ∙ w)
    where
      go : (a : Quick) → quick_test card ≡ a → quick_words a ≡ 0 ∷ 0 ∷ n ∷ least ∷ [] → ⊥
      go (ruled true m k) q w = let z : ◌≡◌ {A = ℕ} 1 0 = cc in absurd (omega arith)
      go (ruled false m k) q w = clash false ((agrees card false m k q).1 g) refl
      go (Quick.turned r) q w = let z : ◌≡◌ {A = ℕ} 2 0 = cc in absurd (omega arith)

  pub quick_words_lem : QuickWords card words
  quick_words_lem = record { answer = e; agrees = λ n least. (yes_good n least, no_bad n least) }
