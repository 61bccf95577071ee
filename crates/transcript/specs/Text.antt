-- What `rehearse` prints, as bytes.
--     decimal n              == n in decimal digits
--     transcript card plan runIn   == all its lines; run.in is the faulty set, then n inputs, then the message table
use Rattle.std.specs.Prelude.{Bool, cond, ◌||◌, List, [], ◌∷◌, ◌++◌, ◌≡◌, ℕ, zero, suc, ◌+◌, ◌/◌, ◌%◌, ◌≤◌, ltb, length, get_or, take, drop, replicate}
use Rattle.facts.specs.Laid.{laid}
use Rattle.sets.specs.Sets.{has}
use Rattle.refusal.specs.Refused.{Refused, card, plan, call}
use Rattle.network.specs.Card.{Network, network, refused, read_card}
use Rattle.plan.specs.Check.{Totals, totals, turned}
use Rattle.steps.specs.Run.{run_plan, lent_after}

-- "too long\n"
unfoldable pub too_long : List ℕ
too_long = 116 ∷ 111 ∷ 111 ∷ 32 ∷ 108 ∷ 111 ∷ 110 ∷ 103 ∷ 10 ∷ []

-- "blocks "
unfoldable pub blocks_word : List ℕ
blocks_word = 98 ∷ 108 ∷ 111 ∷ 99 ∷ 107 ∷ 115 ∷ 32 ∷ []

-- " carriages "
unfoldable pub carriages_word : List ℕ
carriages_word = 32 ∷ 99 ∷ 97 ∷ 114 ∷ 114 ∷ 105 ∷ 97 ∷ 103 ∷ 101 ∷ 115 ∷ 32 ∷ []

-- "server "
unfoldable pub server_word : List ℕ
server_word = 115 ∷ 101 ∷ 114 ∷ 118 ∷ 101 ∷ 114 ∷ 32 ∷ []

-- " decided "
unfoldable pub decided_word : List ℕ
decided_word = 32 ∷ 100 ∷ 101 ∷ 99 ∷ 105 ∷ 100 ∷ 101 ∷ 100 ∷ 32 ∷ []

-- "faulty"
unfoldable pub faulty_word : List ℕ
faulty_word = 102 ∷ 97 ∷ 117 ∷ 108 ∷ 116 ∷ 121 ∷ []

-- "refused "
unfoldable pub refused_word : List ℕ
refused_word = 114 ∷ 101 ∷ 102 ∷ 117 ∷ 115 ∷ 101 ∷ 100 ∷ 32 ∷ []

-- "card "
unfoldable pub card_word : List ℕ
card_word = 99 ∷ 97 ∷ 114 ∷ 100 ∷ 32 ∷ []

-- "plan "
unfoldable pub plan_word : List ℕ
plan_word = 112 ∷ 108 ∷ 97 ∷ 110 ∷ 32 ∷ []

-- "call "
unfoldable pub call_word : List ℕ
call_word = 99 ∷ 97 ∷ 108 ∷ 108 ∷ 32 ∷ []

-- " "
unfoldable pub gap : List ℕ
gap = 32 ∷ []

-- "\n"
unfoldable pub newline : List ℕ
newline = 10 ∷ []

-- the digits of n, for k above n
unfoldable pub spell : ℕ → ℕ → List ℕ
spell zero n = []
spell (suc k) n = cond (ltb n 10) ((48 + n) ∷ []) (spell k (n / 10) ++ ((48 + n % 10) ∷ []))

unfoldable pub decimal : ℕ → List ℕ
decimal n = spell (suc n) n

unfoldable pub totals_line : ℕ → ℕ → List ℕ
totals_line blocks carriages = blocks_word ++ decimal blocks ++ carriages_word ++ decimal carriages ++ newline

-- the word after "decided": the bit of a sound server, "faulty" for a faulty one
unfoldable pub decided_line : ℕ → List ℕ → ℕ → List ℕ
decided_line X bytes i = server_word ++ decimal i ++ decided_word ++ cond (has X i) faulty_word (decimal (get_or bytes i 0)) ++ newline

-- the lines of the k servers from i on
unfoldable pub decided_lines : ℕ → List ℕ → ℕ → ℕ → List ℕ
decided_lines X bytes zero i = []
decided_lines X bytes (suc k) i = decided_line X bytes i ++ decided_lines X bytes k (suc i)

-- the line of a refused card or plan
unfoldable pub placed_line : List ℕ → (number place : ℕ) → List ℕ
placed_line file number place = refused_word ++ file ++ decimal number ++ gap ++ decimal place ++ newline

unfoldable pub refused_line : Refused → List ℕ
refused_line (card number place) = refused_word ++ card_word ++ decimal number ++ gap ++ decimal place ++ newline
refused_line (plan number place) = refused_word ++ plan_word ++ decimal number ++ gap ++ decimal place ++ newline
refused_line (call number) = refused_word ++ call_word ++ decimal number ++ newline

-- run.in: a missing byte is faulty set 0, and the inputs are what is there of them

unfoldable pub faulty_of : List ℕ → ℕ
faulty_of runIn = get_or runIn 0 0

unfoldable pub inputs_of : ℕ → List ℕ → List ℕ
inputs_of n runIn = take n (drop 1 runIn)

unfoldable pub table_of : ℕ → List ℕ → List ℕ
table_of n runIn = drop (1 + n) runIn

-- the lines of a run with n servers
unfoldable pub answer_lines : ℕ → ℕ → Totals → List ℕ → List ℕ
answer_lines n X (totals blocks carriages) bytes = totals_line blocks carriages ++ decided_lines X bytes n 0
answer_lines n X (turned r) bytes = refused_line r

-- only an accepted card says how many inputs there are
unfoldable pub files_lines : Network → List ℕ → List ℕ → List ℕ → List ℕ
files_lines (refused r) card_bytes plan_bytes runIn = refused_line r
files_lines (network n f links) card_bytes plan_bytes runIn =
    let inputs = inputs_of n runIn in
    let X = faulty_of runIn in
    let lent : List ℕ = replicate 8 0 in
    answer_lines n X (run_plan card_bytes plan_bytes inputs X lent) (lent_after card_bytes plan_bytes inputs X (table_of n runIn) lent)

-- a file may have 65,536 bytes
unfoldable pub is_long : List ℕ → Bool
is_long file = ltb 65536 (length file)

unfoldable pub transcript : List ℕ → List ℕ → List ℕ → List ℕ
transcript card_bytes plan_bytes runIn =
    cond (is_long card_bytes || (is_long plan_bytes || is_long runIn)) too_long (files_lines (read_card card_bytes) card_bytes plan_bytes runIn)

-- the text stands in the buffer from a place on, and the answer is the place after it; the text has at most `most` bytes
pub record Put (at : ℕ) (text : List ℕ) (most : ℕ) (before after : List ℕ) (r : ℕ) : Type 0 where
  pub bytes : after ≡ laid at text before
  pub place : r ≡ at + length text
  pub bound : length text ≤ most
