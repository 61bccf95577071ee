-- Servers stepped side by side over one card and plan: kind by kind all ask, the carriages are brought, all commit. X is the faulty set, `table` the
-- message table. A faulty server is stepped too, but nothing that it asks reaches another: what its carriages bring is the table's.
--     Turn                  == one kind of a block, with the number of its first carriage
--     turns number bs       == the kinds of the blocks bs in turn, four for each
--     delivered ..          == what the carriages whose receiver is r bring, in plan order: what the source gave for it, or the table's byte of its number
--                              where a server before the receiver is faulty
--     beside_over ..         == the states of the servers after the turns of a list
--     run_over ..            == the values that the six steps of the run give after them
--     shown_beside ..        == what each server shows at the end: the one value of its ask
use Rattle.std.specs.Prelude.{cond, List, [], ◌∷◌, ℕ, suc, ◌+◌, eqb, length, get_or, drop, replicate}
use Rattle.sets.specs.Sets.{meet, minus, full}
use Rattle.rules.specs.Blocks.{Block, Carriage, decode_plan}
use Rattle.steps.specs.Hearing.{hit, silence}
use Rattle.steps.specs.Steps.{Values, step1, gather, compare, step5, step6}
use Rattle.part.specs.Own.{source, carriages_of}
use Rattle.part.specs.State.{State, first}
use Rattle.part.specs.Calls.{Asked, start_call, ask_call, commit_call, state_after, state_asked, values_in}

pub record Turn : Type 0 where
  pub number : ℕ
  pub kind : ℕ
  pub block : Block

unfoldable pub turns : ℕ → List Block → List Turn
turns number [] = []
turns number (b ∷ bs) =
    let number12 = number + length (carriages_of 0x11 b) in
    let number13 = number12 + length (carriages_of 0x12 b) in
    let number14 = number13 + length (carriages_of 0x13 b) in
    record { number = number; kind = 0x11; block = b }
    ∷ record { number = number12; kind = 0x12; block = b }
    ∷ record { number = number13; kind = 0x13; block = b }
    ∷ record { number = number14; kind = 0x14; block = b }
    ∷ turns (number14 + length (carriages_of 0x14 b)) bs

-- the first value of server s is used
abbrev pub used : ℕ → (ℕ → List ℕ) → ℕ → List ℕ
used s gave i = cond (eqb s i) (drop 1 (gave i)) (gave i)

-- a source's values are used in turn, one for each of its carriages; the first carriage of the list has number k
unfoldable pub delivered : ℕ → List ℕ → ℕ → (ℕ → List ℕ) → List Carriage → ℕ → List ℕ
delivered X table k gave [] r = []
delivered X table k gave (c ∷ cs) r =
    let later = delivered X table (suc k) (used (source c) gave) cs r in
    cond (eqb c.receiver r) (cond (hit X c.before) (get_or table k silence) (get_or (gave (source c)) 0 silence) ∷ later) later

abbrev pub States : Type 0
States = ℕ → State

-- one turn: each server lends room for a value on every carriage of the kind
unfoldable pub beside_turn : List ℕ → List ℕ → ℕ → List ℕ → Turn → States → States
beside_turn card plan X table turn states i =
    let cs = carriages_of turn.kind turn.block in
    let asks : ℕ → Asked = λ j. ask_call card plan j (states j) (replicate (length cs) 0) in
    let waiting = state_asked (states i) (asks i) in
    state_after waiting (commit_call card plan i waiting (delivered X table turn.number (λ j. values_in (asks j)) cs i))

unfoldable pub beside_over : List ℕ → List ℕ → ℕ → List ℕ → List Turn → States → States
beside_over card plan X table [] states = states
beside_over card plan X table (turn ∷ later) states = beside_over card plan X table later (beside_turn card plan X table turn states)

-- each server starts with its input
unfoldable pub start_beside : List ℕ → List ℕ → List ℕ → States
start_beside card plan inputs i = state_after (first 0) (start_call card plan i (get_or inputs i 0))

unfoldable pub shown_beside : ℕ → ℕ → List ℕ → List ℕ → List ℕ → ℕ → List ℕ → ℕ → List ℕ
shown_beside n f card plan inputs X table i =
    let states = beside_over card plan X table (turns 0 (decode_plan n f plan)) (start_beside card plan inputs) in
    values_in (ask_call card plan i (states i) (0 ∷ []))

-- the run's six steps, cut into the same turns

unfoldable pub run_turn : ℕ → ℕ → List ℕ → Turn → Values → Values
run_turn n X table turn s =
    let b = turn.block in
    let k = turn.number in
    let cs = carriages_of turn.kind b in
    let sound = minus (full n) b.faults in
    let t2 = gather X table k cs (minus b.quorum b.side) (step1 b.side s.v s.t) in
    let t4 = gather X table k cs (minus sound b.quorum) s.t in
    cond (eqb turn.kind 0x11) (record { v = s.v; t = t2 })
    (cond (eqb turn.kind 0x12) (record { v = s.v; t = compare X table k cs b.quorum s.t })
    (cond (eqb turn.kind 0x13) (record { v = step5 sound (meet b.side b.quorum) t4 s.v; t = t4 })
    (record { v = step6 X table k cs b.faults s.v; t = s.t })))

unfoldable pub run_over : ℕ → ℕ → List ℕ → List Turn → Values → Values
run_over n X table [] s = s
run_over n X table (turn ∷ later) s = run_over n X table later (run_turn n X table turn s)
