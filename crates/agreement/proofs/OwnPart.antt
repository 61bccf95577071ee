-- The words of a server's own part, from what the call and `words` say of its answer.
--     committed_words   commit
--     asked_words_lem       ask
-- Assumes nothing.
use mathlib.Core.Path.{◌≡◌, refl, ◌∙◌}
use mathlib.Core.List.{List, [], ◌∷◌, ◌++◌}
use Prim.Native.Nat.{ℕ}
use Rattle.std.specs.Prelude.{Result}
use Rattle.refusal.specs.declared.Refusal.{Refusal}
use Rattle.part.specs.State.{State}
use Rattle.part.specs.Calls.{Stepped, at, Asked, sends, ask_call, commit_call}
use Rattle.server.specs.Answers.{verdict_of, counted_of, Stepping, Asking}
use Rattle.words.specs.Words.{state_from, state_words, stepped_words, asked_words}
use Rattle.agreement.specs.Words.{AskWords}

stepped_is : (before : State) (d : Stepped) (r : Result (Unit {0}) Refusal) (after : State) → Stepping before d r after → (w : List ℕ) → w ≡ state_words (verdict_of r) after → w ≡ stepped_words d
stepped_is before (at s) r after h w e = e ∙ (λ i. state_words (h.verdict i) (h.state i))
stepped_is before (Stepped.held g) r after h w e = e ∙ (λ i. state_words (h.verdict i) (h.state i))

pub committed_words : (card plan : List ℕ) (server : ℕ) (state arrived : List ℕ) (before : State) → before ≡ state_from state → (r : Result (Unit {0}) Refusal) (after : State)
    → Stepping before (commit_call card plan server before arrived) r after → (w : List ℕ) → w ≡ state_words (verdict_of r) after
    → w ≡ stepped_words (commit_call card plan server (state_from state) arrived)
committed_words card plan server state arrived before b r after h w e =
    stepped_is (state_from state) (commit_call card plan server (state_from state) arrived) r after (rw b at h) w e

sent_words : (before : State) (d : Asked) (r : Result ℕ Refusal) (state : State) (lent after : List ℕ) → Asking before d r state lent after → (w : List ℕ)
    → w ≡ state_words (verdict_of r) state ++ counted_of r ∷ [] → w ≡ asked_words d
sent_words before (sends s values) r state lent after h w e = e ∙ (λ i. state_words (h.verdict i) (h.state i) ++ h.values i ∷ [])
sent_words before (Asked.held g) r state lent after h w e = e ∙ (λ i. state_words (h.verdict i) (h.state i) ++ h.values i ∷ [])

pub asked_words_lem : (card plan : List ℕ) (server : ℕ) (state lent after : List ℕ) (before : State) → before ≡ state_from state → (r : Result ℕ Refusal) (opened : State)
    → Asking before (ask_call card plan server before lent) r opened lent after → (w : List ℕ) → w ≡ state_words (verdict_of r) opened ++ counted_of r ∷ []
    → AskWords card plan server state lent after w
asked_words_lem card plan server state lent after before b r opened h w e =
    let k = rw b at h in
    record { answer = sent_words (state_from state) (ask_call card plan server (state_from state) lent) r opened lent after k w e; bytes = k.bytes }
