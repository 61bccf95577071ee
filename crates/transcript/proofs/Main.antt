-- What a user of the definitions relies on.
--     lines_silent        zeros after a run.in with all its inputs change no line
--     not_long            a file of at most 65,536 bytes is not too long
--     silence_means_open  the statement
-- Assumes nothing.
use mathlib.Core.Path.{◌≡◌, refl}
use mathlib.Core.Bool.{false}
use mathlib.Core.List.{List, ◌++◌}
use Prim.Native.Nat.{ℕ, ◌≤◌, ◌<◌}
use native.Mathlib.Omega.{arith}
use lib.ListN.{length, replicate, length-append, length-replicate}
use borrow.Author.Tests.{le-ltb}
use Rattle.network.specs.Links.{Links}
use Rattle.network.specs.Card.{network}
use Rattle.steps.proofs.Main as steps
use Rattle.transcript.specs.Text.{faulty_of, inputs_of, table_of, files_lines, is_long, transcript}
use Rattle.transcript.specs.Theorems.{SilenceMeansOpen}
use Rattle.transcript.proofs.RunIn.{faulty_silent, inputs_silent, table_silent}

lines_silent : (card_bytes plan_bytes runIn : List ℕ) (n f : ℕ) (links : Links) (m : ℕ) → n < length runIn
    → files_lines (network n f links) card_bytes plan_bytes (runIn ++ replicate m 0) ≡ files_lines (network n f links) card_bytes plan_bytes runIn
unfolding files_lines
lines_silent card_bytes plan_bytes runIn n f links m h =
    let X = faulty_silent runIn n m h in
    let inputs = inputs_silent runIn n m h in
    let table = table_silent runIn n m h in
    let lent : List ℕ = replicate 8 0 in
    let same = steps.silence_means_open card_bytes plan_bytes (inputs_of n runIn) (faulty_of runIn) (table_of n runIn) lent m in
    rw (X, inputs, table, same) refl

not_long : (file : List ℕ) → length file ≤ 65536 → is_long file ≡ false
unfolding is_long
not_long file h = le-ltb _ _ h

pub silence_means_open : SilenceMeansOpen
unfolding transcript
silence_means_open card_bytes plan_bytes runIn n f links e h m most =
    let l = length-append runIn (replicate m 0) in
    let r = length-replicate {A = ℕ} m 0 in
    let long = not_long (runIn ++ replicate m 0) (omega arith) in
    let short = not_long runIn (omega arith) in
    let same = lines_silent card_bytes plan_bytes runIn n f links m h in
    rw (e, long, short, same) refl
