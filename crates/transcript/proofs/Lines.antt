-- The lines, put one word after the other.
--     word_taken, word_left   a word that a test chooses
--     totals_put              the line of totals
--     server_put              the line of a server
--     Served, served-..       the lines of the servers: those before i are put
--     placed_put, called_put  the line of a refusal; of_card, of_plan, of_call whatever its ground
--     run_lines, answer-..     the lines of a run
--     files-..                the lines of three files
--     long_put, short_put     all that is printed
-- Assumes nothing.
use mathlib.Core.Path.{◌≡◌, refl, sym, ap, ◌∙◌}
use mathlib.Core.Bool.{Bool, true, false, cond, ◌||◌}
use mathlib.Core.List.{List, ◌++◌, append-nil, append_assoc}
use Prim.Native.Nat.{ℕ, zero, suc, ◌+◌, ◌*◌, ◌≤◌, ◌<◌}
use native.Mathlib.Omega.{arith}
use native.Mathlib.Numerals.{add-one}
use native.Mathlib.Nat.{add-zero, add-suc, suc-add}
use Rattle.std.specs.Prelude.{Result, Ok, Err}
use lib.ListN.{get_or, replicate}
use Rattle.sets.specs.Sets.{has}
use Rattle.refusal.specs.Refused.{Refused, call, refusal_of, card_refusal, plan_refusal, call_refusal, number_of, place_of}
use Rattle.refusal.specs.declared.Refusal.{Refusal}
use Rattle.refusal.specs.declared.CardGround.{CardGround}
use Rattle.refusal.specs.declared.PlanGround.{PlanGround}
use Rattle.refusal.specs.declared.CallGround.{CallGround}
use Rattle.network.specs.Links.{Links}
use Rattle.network.specs.Card.{network, refused, read_card}
use Rattle.plan.specs.Answers.{checked_of}
use Rattle.plan.specs.declared.check.Totals as Checked
use Rattle.steps.specs.Run.{run_plan, lent_after}
use Rattle.run.specs.Answers.{Answered}
use Rattle.transcript.specs.Text.{too_long, blocks_word, carriages_word, server_word, decided_word, faulty_word, refused_word, card_word, plan_word, call_word, gap, newline, decimal, totals_line, decided_line, decided_lines, refused_line, placed_line, faulty_of, inputs_of, table_of, answer_lines, files_lines, is_long, transcript, Put}
use Rattle.transcript.proofs.Laying.{put_none, put_join, put_most}

-- a word that a test chooses

module _ {at : ℕ} {x z : List ℕ} {q m : ℕ} (k : ℕ) {u : List ℕ} (p : Put at u m x z q) (h : m ≤ k) where
  pub word_taken : {t : Bool} (v : List ℕ) → t ≡ true → Put at (cond t u v) k x z q
  word_taken {t} v e = rw e (put_most k p h)

  pub word_left : {t : Bool} (v : List ℕ) → t ≡ false → Put at (cond t v u) k x z q
  word_left {t} v e = rw e (put_most k p h)

-- a line of five words

module _ {at : ℕ} {x a b c d z : List ℕ} {i j k l q : ℕ} where
  pub totals_put : (blocks carriages : ℕ) → Put at blocks_word 7 x a i → Put i (decimal blocks) 20 a b j → Put j carriages_word 11 b c k → Put k (decimal carriages) 20 c d l → Put l newline 1 d z q
      → Put at (totals_line blocks carriages) 100 x z q
  unfolding totals_line
  totals_put blocks carriages p r s t u = put_most 100 (put_join (put_join (put_join (put_join p r) s) t) u) (omega arith)

  pub server_put : (X : ℕ) (bytes : List ℕ) (server : ℕ) {t : Bool} → t ≡ has X server → Put at server_word 7 x a i → Put i (decimal server) 20 a b j → Put j decided_word 9 b c k
      → Put k (cond t faulty_word (decimal (get_or bytes server 0))) 20 c d l → Put l newline 1 d z q → Put at (decided_line X bytes server) 100 x z q
  unfolding decided_line
  server_put X bytes server {t} e p r s w u = put_most 100 (put_join (put_join (put_join (put_join p r) s) (rw e at w)) u) (omega arith)

-- the lines of the servers

lines_more : (X : ℕ) (bytes : List ℕ) (k i : ℕ) → decided_lines X bytes (suc k) i ≡ decided_lines X bytes k i ++ decided_line X bytes (i + k)
unfolding decided_lines
lines_more X bytes zero i = rw add-zero (append-nil (decided_line X bytes i))
lines_more X bytes (suc k) i =
    rw (add-suc, ← suc-add) (ap (λ (l : List ℕ). decided_line X bytes i ++ l) (lines_more X bytes k (suc i)) ∙ sym (append_assoc (decided_line X bytes i) (decided_lines X bytes k (suc i)) (decided_line X bytes (suc i + k))))

pub record Served (at n X : ℕ) (bytes x y : List ℕ) (place i : ℕ) : Type 0 where
  pub within : i ≤ n
  pub before : Put at (decided_lines X bytes i 0) (100 * i) x y place

pub served_starts : (at n X : ℕ) (bytes x : List ℕ) → Served at n X bytes x x at 0
unfolding decided_lines
served_starts at n X bytes x = record { within = omega arith; before = put_none at x }

module _ {at n X : ℕ} {bytes x y : List ℕ} {place i : ℕ} (s : Served at n X bytes x y place i) where
  pub served_goes : i < n → {z : List ℕ} {q : ℕ} → Put place (decided_line X bytes i) 100 y z q → Served at n X bytes x z q (i + 1)
  served_goes h {z} {q} p =
      let e : 0 + i ≡ i = omega arith in
      let m : 100 * i + 100 ≤ 100 * (i + 1) = omega arith in
      record { within = omega arith; before = rw (add-one, lines_more X bytes i 0, e) (rw add-one at (put_most (100 * (i + 1)) (put_join s.before p) m)) }

  pub served_ends : n ≤ i → n ≤ 8 → Put at (decided_lines X bytes n 0) 800 x y place
  served_ends h k = let w = s.within in let e : i ≡ n = omega arith in put_most 800 (rw e at s.before) (omega arith)

-- the line of a refusal

module _ {at : ℕ} {x a b c d y z : List ℕ} {i j k l h q : ℕ} where
  pub placed_put : (file : List ℕ) (number place : ℕ) → Put at refused_word 8 x a i → Put i file 5 a b j → Put j (decimal number) 20 b c k → Put k gap 1 c d l → Put l (decimal place) 20 d y h → Put h newline 1 y z q
      → Put at (placed_line file number place) 100 x z q
  unfolding placed_line
  placed_put file number place p s t u v w = put_most 100 (put_join (put_join (put_join (put_join (put_join p s) t) u) v) w) (omega arith)

module _ {at : ℕ} {x a b z : List ℕ} {i j q : ℕ} where
  pub called_put : (number : ℕ) → Put at (refused_word ++ call_word) 13 x a i → Put i (decimal number) 20 a b j → Put j newline 1 b z q → Put at (refused_line (call number)) 100 x z q
  unfolding refused_line
  called_put number p s t = put_most 100 (put_join (put_join p s) t) (omega arith)

-- whatever its ground
pub of_card : (g : CardGround) → placed_line card_word (number_of (card_refusal g)) (place_of (card_refusal g)) ≡ refused_line (card_refusal g)
unfolding refused_line placed_line
of_card CardGround.TooLong = refl
of_card (CardGround.Cut at) = refl
of_card (CardGround.Trailing at) = refl
of_card (CardGround.Head at) = refl
of_card (CardGround.Range at) = refl

pub of_plan : (g : PlanGround) → placed_line plan_word (number_of (plan_refusal g)) (place_of (plan_refusal g)) ≡ refused_line (plan_refusal g)
unfolding refused_line placed_line
of_plan PlanGround.TooLong = refl
of_plan (PlanGround.Cut at) = refl
of_plan (PlanGround.Trailing at) = refl
of_plan (PlanGround.NotDue at) = refl
of_plan (PlanGround.Quorum at) = refl
of_plan (PlanGround.Route at) = refl
of_plan (PlanGround.Shared at) = refl
of_plan (PlanGround.Reporters at) = refl

pub of_call : (g : CallGround) → refused_line (call (number_of (call_refusal g))) ≡ refused_line (call_refusal g)
of_call CallGround.Inputs = refl
of_call CallGround.FaultSet = refl
of_call CallGround.Buffer = refl
of_call CallGround.OneWay = refl
of_call CallGround.OutOfTurn = refl
of_call CallGround.BadSplit = refl
of_call CallGround.PlanBuffer = refl

-- the lines of a run

abbrev pub run_lines : List ℕ → List ℕ → List ℕ → ℕ → List ℕ → List ℕ
run_lines card_bytes plan_bytes runIn n lent =
    let inputs = inputs_of n runIn in
    let X = faulty_of runIn in
    answer_lines n X (run_plan card_bytes plan_bytes inputs X lent) (lent_after card_bytes plan_bytes inputs X (table_of n runIn) lent)

module _ (card_bytes plan_bytes runIn : List ℕ) (n : ℕ) {X : ℕ} {inputs table lent after : List ℕ} {r : Result Checked.Totals Refusal} (e : X ≡ faulty_of runIn) (f : inputs ≡ inputs_of n runIn) (g : table ≡ table_of n runIn) (a : Answered card_bytes plan_bytes inputs X table lent r after) where
  answered : run_plan card_bytes plan_bytes (inputs_of n runIn) (faulty_of runIn) lent ≡ checked_of r
  answered = rw (← e, ← f) (sym a.answer)

  stored : lent_after card_bytes plan_bytes (inputs_of n runIn) (faulty_of runIn) (table_of n runIn) lent ≡ after
  stored = rw (← e, ← f, ← g) (sym a.bytes)

  pub answer_refused : (u : Refusal) → r ≡ Err u → {at : ℕ} {x z : List ℕ} {q : ℕ} → Put at (refused_line (refusal_of u)) 100 x z q
      → Put at (run_lines card_bytes plan_bytes runIn n lent) 1000 x z q
  unfolding answer_lines
  answer_refused u h {at} {x} {z} {q} p = rw (answered, h) (put_most 1000 p (omega arith))

  pub answer_lines_lem : (t : Checked.Totals) → r ≡ Ok t → {at : ℕ} {x y z : List ℕ} {i q : ℕ} → Put at (totals_line t.blocks t.carriages) 100 x y i → Put i (decided_lines X after n 0) 800 y z q
      → Put at (run_lines card_bytes plan_bytes runIn n lent) 1000 x z q
  unfolding answer_lines
  answer_lines_lem t h {at} {x} {y} {z} {i} {q} p s = rw (answered, h, stored) (put_most 1000 (put_join p (rw e at s)) (omega arith))

-- the lines of three files

module _ (card_bytes plan_bytes runIn : List ℕ) {at : ℕ} {x z : List ℕ} {q : ℕ} where
  pub files_refused : (r : Refused) → refused r ≡ read_card card_bytes → Put at (refused_line r) 100 x z q → Put at (files_lines (read_card card_bytes) card_bytes plan_bytes runIn) 1000 x z q
  unfolding files_lines
  files_refused r e p = rw (← e) (put_most 1000 p (omega arith))

  pub files_run : (n f : ℕ) (links : Links) → network n f links ≡ read_card card_bytes
      → Put at (run_lines card_bytes plan_bytes runIn n (replicate 8 0)) 1000 x z q
      → Put at (files_lines (read_card card_bytes) card_bytes plan_bytes runIn) 1000 x z q
  unfolding files_lines
  files_run n f links e p = rw (← e) p

-- all that is printed

module _ (card_bytes plan_bytes runIn : List ℕ) {x z : List ℕ} {q : ℕ} {a : Bool} (e : a ≡ (is_long card_bytes || (is_long plan_bytes || is_long runIn))) where
  pub long_put : a ≡ true → Put 0 too_long 9 x z q → Put 0 (transcript card_bytes plan_bytes runIn) 1000 x z q
  unfolding transcript
  long_put h p = rw (← e, h) (put_most 1000 p (omega arith))

  pub short_put : a ≡ false → Put 0 (files_lines (read_card card_bytes) card_bytes plan_bytes runIn) 1000 x z q → Put 0 (transcript card_bytes plan_bytes runIn) 1000 x z q
  unfolding transcript
  short_put h p = rw (← e, h) p

-- what the buffer holds when it is handed back
pub put_back : {at : ℕ} {text : List ℕ} {m : ℕ} {x y z : List ℕ} {q : ℕ} → Put at text m x y q → z ≡ y → Put at text m x z q
put_back p e = rw e p
