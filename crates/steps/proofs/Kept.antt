-- What a call leaves of the lent buffer as it was.
--     unchanged   all of it, where the call is refused
--     untouched   the bytes past the first n, in every call
-- Assumes nothing.
use mathlib.Core.Path.{◌≡◌, refl, sym, ap, ◌∙◌}
use mathlib.Core.Bool.{cond}
use mathlib.Core.List.{List, ◌++◌}
use Prim.Native.Nat.{ℕ}
use lib.ListN.{length, drop, replicate}
use lib.Seq.{drop-append_seam}
use Rattle.sets.specs.Sets.{has}
use Rattle.plan.specs.Check.{Totals, totals, turned}
use Rattle.rules.specs.Blocks.{decode_plan}
use Rattle.steps.specs.Steps.{held, values, Values, run_blocks}
use Rattle.steps.specs.Run.{run_plan, decided, written, after_answer, lent_after}
use Rattle.steps.specs.Demand.{Unchanged, Untouched}
use Rattle.steps.proofs.Eight.{values_long}

pub unchanged : Unchanged
unfolding lent_after
unchanged card plan inputs X table lent r q = rw q refl

decided_long : (n X : ℕ) (v : List ℕ) → length (decided n X v) ≡ n
unfolding decided
decided_long n X v = values_long n 0 (λ (i : ℕ). cond (has X i) 2 (held v i))

-- what is written is n decided bytes and the rest as it was
after_decided : (answer : Totals) (n X : ℕ) (v lent : List ℕ) → drop n (after_answer answer (decided n X v ++ drop n lent) lent) ≡ drop n lent
after_decided (totals blocks carriages) n X v lent =
    ap (λ (k : ℕ). drop k (decided n X v ++ drop n lent)) (sym (decided_long n X v)) ∙ drop-append_seam (decided n X v) (drop n lent)
after_decided (turned r) n X v lent = refl

pub untouched : Untouched
unfolding lent_after written
untouched card plan inputs X table lent n f links e =
    let start : Values = record { v = values (held inputs); t = replicate 8 2 } in
    rw e (after_decided (run_plan card plan inputs X lent) n X (run_blocks n X table 0 (decode_plan n f plan) start).v lent)
