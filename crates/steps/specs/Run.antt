-- The run on bytes: card and plan are checked before the first block, then the call is; the answer, and the lent buffer after it.
--     run_plan ..   == the number of blocks and of carriages, or the one refusal
--     lent_after .. == n bytes of decided bits, 2 for a faulty server, and the later bytes as they were; refused, all as they were
use Rattle.std.specs.Prelude.{Bool, true, cond, not, ◌&&◌, List, [], ◌∷◌, ◌++◌, ℕ, eqb, ltb, leb, length, drop, replicate}
use Rattle.refusal.specs.Refused.{call}
use Rattle.sets.specs.Sets.{has, within, full, size}
use Rattle.network.specs.Card.{Network, network, refused, read_card}
use Rattle.plan.specs.Check.{Totals, totals, turned, check_plan}
use Rattle.rules.specs.Blocks.{decode_plan}
use Rattle.steps.specs.Steps.{Values, held, values_from, values, run_blocks}

unfoldable pub are_bits : List ℕ → Bool
are_bits [] = true
are_bits (b ∷ bs) = ltb b 2 && are_bits bs

-- inputs not n bytes of 0 or 1; faulty set over f servers, or a server not in V; lent buffer under n bytes
unfoldable pub check_call : ℕ → ℕ → List ℕ → ℕ → List ℕ → Totals → Totals
check_call n f inputs X lent answer =
    cond (not (eqb (length inputs) n && are_bits inputs)) (turned (call 12))
    (cond (not (within X (full n) && leb (size X) f)) (turned (call 13))
    (cond (ltb (length lent) n) (turned (call 14)) answer))

abbrev pub on_accepted : ℕ → ℕ → List ℕ → ℕ → List ℕ → Totals → Totals
on_accepted n f inputs X lent (totals blocks carriages) = check_call n f inputs X lent (totals blocks carriages)
on_accepted n f inputs X lent (turned r) = turned r

unfoldable pub run_on : Network → Totals → List ℕ → ℕ → List ℕ → Totals
run_on (refused r) checked inputs X lent = turned r
run_on (network n f links) checked inputs X lent = on_accepted n f inputs X lent checked

unfoldable pub run_plan : List ℕ → List ℕ → List ℕ → ℕ → List ℕ → Totals
run_plan card plan inputs X lent = run_on (read_card card) (check_plan card plan) inputs X lent

-- v of each sound server, 2 for a faulty one
unfoldable pub decided : ℕ → ℕ → List ℕ → List ℕ
decided n X v = values_from n 0 (λ (i : ℕ). cond (has X i) 2 (held v i))

unfoldable pub written : Network → List ℕ → List ℕ → ℕ → List ℕ → List ℕ → List ℕ
written (refused r) plan inputs X table lent = lent
written (network n f links) plan inputs X table lent =
    let start : Values = record { v = values (held inputs); t = replicate 8 2 } in
    decided n X (run_blocks n X table 0 (decode_plan n f plan) start).v ++ drop n lent

abbrev pub after_answer : Totals → List ℕ → List ℕ → List ℕ
after_answer (totals blocks carriages) new lent = new
after_answer (turned r) new lent = lent

unfoldable pub lent_after : List ℕ → List ℕ → List ℕ → ℕ → List ℕ → List ℕ → List ℕ
lent_after card plan inputs X table lent =
    after_answer (run_plan card plan inputs X lent) (written (read_card card) plan inputs X table lent) lent
